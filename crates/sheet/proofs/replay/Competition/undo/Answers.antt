-- The call decides what is told, in the memory that it is lent.
use Rattle.values.specs.declared.Answer.TheVariants.{Done}
use Rattle.model.specs.Calls.{undo_fault}
use Rattle.sheet.specs.SheetOf.{sheet_of}
use Rattle.sheet.proofs.Running.{comes_scratching}
use Rattle.sheet.proofs.replay.Competition.undo.Goals as goal

pub returns-clause-does : goal.returns-clause-does
returns-clause-does g c =
    let x = c.args.self.now in
    rw c.done.ensures (comes_scratching (λ _. Done) (undo_fault (sheet_of x.sheet) (g.X.Host.view x.host) c.args.number c.args.row) x.memory
    c.undo_numbered.new.line c.deref_mut.ensures.value c.deref_mut-2.ensures.value c.undo_numbered.ensures.comes c.undo_numbered.ensures.column
    c.undo_numbered.auto.column c.undo_numbered.auto.line)
