-- Each turn tells one record, and the end of the records is the end of the names.
use Rattle.std.proofs.Common.{rules, ◌≡◌, None, Ok, sym, ap, ◌∙◌}
use Rattle.process.specs.Items.{stand, record_of, told}
use Rattle.process.specs.Reading.{start}
use Rattle.playing.specs.Names.{texts, names_handed}
use Rattle.playing.proofs.Records.{one_more, no_more, faulty}
use Rattle.playing.proofs.names.step_names.Goals as goal
use Rattle.playing.proofs.names.step_names.Goals.{in_default-via-in-Ok+in_default, in_default-via-in_default}

pub loop-i-preserved : goal.loop-i-preserved
loop-i-preserved c =
    one_more c.args.records c.loop-i._i (stand c.loop-i.reader).0 (stand c.loop-i.reader).1
    (texts c.loop-i.names) (names_handed c.args.records c.args.stored.now start) c.loop-i-test.true c.loop-i.invariant
    (record_of c.in-Ok-Some.item) (stand c.next.new.self)
    (ap (λ o. told (Ok o)) (sym c.in-Ok-Some.field-0-is) ∙ c.in-Ok-Some.ensures.answer) c.in-Ok-Some.ensures.after c.in_ok-add_name.ensures

pub returns-in_default : goal.returns-in_default
returns-in_default c = elim c.in_default.branch [
  | in_default-via-in-Ok+in_default w ↦
      let none : w.in_default.field-0 ≡ None = search rules in
      no_more c.args.records c.loop-i._i (stand c.loop-i.reader).0 (stand c.loop-i.reader).1
      (texts c.loop-i.names) (names_handed c.args.records c.args.stored.now start) c.loop-i-test.true c.loop-i.invariant
      (ap (λ o. told (Ok o)) (sym none) ∙ ap told (sym w.in_default.is) ∙ c.next.ensures.answer)
  | in_default-via-in_default w ↦
      faulty c.args.records c.loop-i._i (stand c.loop-i.reader).0 (stand c.loop-i.reader).1
      (texts c.loop-i.names) (names_handed c.args.records c.args.stored.now start) c.loop-i-test.true c.loop-i.invariant
      _ (ap told (sym w.in_default.is) ∙ c.next.ensures.answer)
]
