use Rattle.model.proofs.Kept.{orderly_reached}
use Rattle.model.proofs.Order.{after_is_after}
use Rattle.model.proofs.after_is_reached_by_arrows.Goals as goal

pub returns : goal.returns
returns c = λ d w r. after_is_after w.sheet (orderly_reached d r)
