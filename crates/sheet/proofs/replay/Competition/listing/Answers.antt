-- The listing decides what is told, in the memory that it is lent.
use Rattle.sheet.specs.SheetOf.{sheet_of, chart_of}
use Rattle.sheet.proofs.Running.{lists_decides}
use Rattle.sheet.proofs.replay.Competition.listing.Goals as goal

pub returns-clause-does : goal.returns-clause-does
returns-clause-does g c =
    let x = c.args.self.now in
    rw c.listed.ensures (lists_decides (chart_of x.sheet) (sheet_of x.sheet) (g.X.Host.view x.host) x.memory c.listing.new.line
    c.deref_mut.ensures.value c.deref_mut-2.ensures.value c.deref_mut-3.ensures.value c.deref_mut-4.ensures.value
    c.listing.ensures.lists c.listing.ensures.column
    c.listing.auto.column c.listing.auto.line c.listing.auto.arrows c.listing.auto.restarts)
