use Rattle.model.proofs.Kept.{orderly_reached}
use Rattle.model.proofs.Replying.{reply_tells}
use Rattle.model.proofs.replies_tell.Goals as goal

pub returns : goal.returns
returns c = λ d w r few. reply_tells d w.sheet (orderly_reached d r) few
