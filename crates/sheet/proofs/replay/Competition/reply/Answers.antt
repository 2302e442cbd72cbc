-- The reply decides what is told, in the buffer that it is lent.
use Rattle.sheet.specs.SheetOf.{sheet_of, chart_of}
use Rattle.sheet.proofs.Running.{replies_decides}
use Rattle.sheet.proofs.replay.Competition.reply.Goals as goal

pub returns-clause-does : goal.returns-clause-does
returns-clause-does g c =
    let x = c.args.self.now in
    rw c.done.ensures (replies_decides (chart_of x.sheet) (sheet_of x.sheet) (g.X.Host.view x.host) x.memory c.args.place
    c.deref_mut.ensures.value c.reply.ensures c.reply.auto.buffer)
