use Rattle.model.proofs.Kept.{orderly_reached}
use Rattle.model.proofs.Struck.{abort_falls}
use Rattle.model.proofs.aborts_fall.Goals as goal

pub returns : goal.returns
returns c = λ d w r m column line. abort_falls d w.sheet w.host m column line (orderly_reached d r)
