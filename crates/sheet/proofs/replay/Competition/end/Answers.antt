-- The call decides what is told.
use Rattle.values.specs.declared.Answer.TheVariants.{Done}
use Rattle.sheet.specs.Lent.{lent_of}
use Rattle.sheet.proofs.Running.{comes_decides}
use Rattle.sheet.proofs.replay.Competition.end.Goals as goal

pub returns-clause-does : goal.returns-clause-does
returns-clause-does g c = rw c.done.ensures (comes_decides (λ _. Done) _ (lent_of c.args.self.now.memory) c.end.ensures.comes)
