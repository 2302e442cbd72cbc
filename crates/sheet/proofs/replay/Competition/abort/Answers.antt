-- The call decides what is told, in the memory that it is lent.
use Rattle.values.specs.declared.Answer.TheVariants.{Ticket}
use Rattle.model.specs.Calls.{abort_fault}
use Rattle.sheet.specs.SheetOf.{sheet_of}
use Rattle.sheet.proofs.Running.{comes_scratching}
use Rattle.sheet.proofs.replay.Competition.abort.Goals as goal

pub returns-clause-does : goal.returns-clause-does
returns-clause-does g c =
    let x = c.args.self.now in
    rw c.given.ensures (comes_scratching Ticket (abort_fault (sheet_of x.sheet) (g.X.Host.view x.host) c.args.mode) x.memory c.abort_numbered.new.line
    c.deref_mut.ensures.value c.deref_mut-2.ensures.value c.abort_numbered.ensures.comes c.abort_numbered.ensures.column c.abort_numbered.auto.column c.abort_numbered.auto.line)
