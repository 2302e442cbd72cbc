-- The call decides what is told.
use Rattle.values.specs.declared.Answer.TheVariants.{Row}
use Rattle.sheet.specs.Lent.{lent_of}
use Rattle.sheet.proofs.Running.{comes_decides}
use Rattle.sheet.proofs.replay.Competition.start.Goals as goal

pub returns-clause-does : goal.returns-clause-does
returns-clause-does g c = rw c.row.ensures (comes_decides Row _ (lent_of c.args.self.now.memory) c.start.ensures.comes)
