use Rattle.model.proofs.Law.{law_over_every_run}
use Rattle.model.proofs.law_over_every_run.Goals as goal

pub returns : goal.returns
returns c = law_over_every_run
