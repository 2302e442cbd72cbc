use Rattle.model.proofs.Kept.{orderly_reached}
use Rattle.model.proofs.Struck.{struck_is_struck}
use Rattle.model.proofs.struck_set_is_the_least.Goals as goal

pub returns : goal.returns
returns c = λ d w r. struck_is_struck d w.sheet (orderly_reached d r)
