-- Where no fault stopped the undos, no row is due any more: the rollback can be finished, and is over then.
use Rattle.std.proofs.Common.{ap, ◌∙◌, subst, sym}
use Rattle.values.specs.Checks.{after}
use Rattle.values.specs.declared.Phase.TheVariants.{Forward}
use Rattle.model.specs.Calls.{finish_fault}
use Rattle.model.specs.Sheet.{with_phase}
use Rattle.sheet.specs.SheetOf.{sheet_of}
use Rattle.tickets.specs.Endings.{IsOver}
use Rattle.tickets.proofs.Ending.{over, finishes, finished}
use Rattle.tickets.proofs.carry_through.Goals as goal

pub unwrap-requires-2 : goal.unwrap-requires-2
unwrap-requires-2 g c =
    let m = c.args.memory.now in
    let t = c.args.ticket.number in
    let s = sheet_of c.undo_rows.new.sheet in
    let end = over c.args.sheet.now (g.X.Host.view c.args.host.now) t m.column.len m.line.len c.in_default.ensures.comes in
    let none = finishes c.args.ticket s c.in_default.ensures.holds end.none_due in
    finished (finish_fault s t) c.finish.result none c.finish.ensures.comes.answers

pub returns-clause-through : goal.returns-clause-through
returns-clause-through g c =
    let m = c.args.memory.now in
    let t = c.args.ticket.number in
    let s = sheet_of c.undo_rows.new.sheet in
    let end = over c.args.sheet.now (g.X.Host.view c.args.host.now) t m.column.len m.line.len c.in_default.ensures.comes in
    let none = finishes c.args.ticket s c.in_default.ensures.holds end.none_due in
    subst (IsOver (sheet_of c.args.sheet.now))
    (sym (c.finish.ensures.comes.sheet ∙ ap (λ f. after f s (with_phase s Forward)) none)) end
