-- The loop over the records is the scan.
use Rattle.std.proofs.Common.{vec_items, ◌≡◌, None, Ok, Err, Option, Result, sym, ap, ◌∙◌, subst, MatchResult}
use Rattle.std.proofs.lemmas.List.{nil_from_length}
use Rattle.std.proofs.lemmas.Result.{err_from_is_err_and}
use Rattle.values.specs.declared.Fault.{Fault}
use Rattle.process.specs.declared.parts.Item.{Item}
use Rattle.process.specs.declared.tables.Draft.{Draft}
use Rattle.process.specs.Items.{record_of, told, stand}
use Rattle.process.specs.Reading.{Scan}
use Rattle.process.specs.Drafts.{Filled}
use Rattle.process.proofs.Rooms.{handed_out, read_end, read_fault, onward}
use Rattle.process.proofs.Rooms.{partly_begun, partly_more, partly_declined, partly_ended}
use Rattle.process.proofs.tables.fill.filled.Goals as goal

pub loop-draft-init : goal.loop-draft-init
loop-draft-init c =
    let t = c.args.tables in
    let ss = nil_from_length (vec_items t.draft.steps) (sym t.draft.steps.ok.0 ∙ t.no_steps) in
    let zs = nil_from_length (vec_items t.draft.arrows) (sym t.draft.arrows.ok.0 ∙ t.no_arrows) in
    partly_begun c.new-reader.ensures (λ i. (ss i, zs i)) t.no_steps t.no_arrows

pub returns-in_err-item : goal.returns-in_err-item
returns-in_err-item c =
    let p = err_from_is_err_and c.from_residual.result c.from_residual.ensures.1 in
    let stood = read_fault _ _ c.in_err-item.ensures.answer in
    let scan : Scan c.args.input.now (Err p.0) =
    subst (λ (f : Fault). Scan c.args.input.now (Err f)) (sym p.2) (partly_declined c.loop-draft.invariant stood) in
    let P : Result Draft Fault → Type 0 =
    λ r. MatchResult r (Filled c.args.input.now) (λ f. Scan c.args.input.now (Err f)) in
    subst P (sym p.1) scan

pub loop-draft-smaller : goal.loop-draft-smaller
loop-draft-smaller c =
    let told_it = c.in_ok-item.ensures in
    let e = handed_out _ (stand c.loop-draft.reader) (stand c.next.new.self) _ _
    told_it.answer told_it.after c.in-Some.is in
    (onward _ _ _ _ c.loop-draft.invariant.room _ _ _ e).shorter

pub loop-draft-preserved : goal.loop-draft-preserved
loop-draft-preserved c =
    let told_it = c.in_ok-item.ensures in
    let e = handed_out _ (stand c.loop-draft.reader) (stand c.next.new.self) _ _
    told_it.answer told_it.after c.in-Some.is in
    let took = c.take.ensures in
    partly_more c.loop-draft.invariant (record_of c.in-Some.item) e took.bare took.steps took.arrows

pub returns : goal.returns
returns c =
    let told_it = c.in_ok-item.ensures in
    let none : c.in_ok-item.field-0 ≡ None = c.in_default.is in
    let e = read_end _ (stand c.loop-draft.reader) (stand c.next.new.self)
    (sym (ap (λ (o : Option Item). told (Ok o)) none) ∙ told_it.answer) told_it.after in
    record {
      plan = c.loop-draft.invariant.plan;
      scan = partly_ended c.loop-draft.invariant e;
      holds = c.loop-draft.invariant.holds;
    }
