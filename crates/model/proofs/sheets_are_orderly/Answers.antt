use Rattle.model.proofs.Kept.{orderly_reached}
use Rattle.model.proofs.sheets_are_orderly.Goals as goal

pub returns : goal.returns
returns c = λ d w r. orderly_reached d r
