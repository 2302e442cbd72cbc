use Rattle.model.proofs.Kept.{orderly_reached}
use Rattle.model.proofs.Listing.{listing_is, mode_known_reached}
use Rattle.model.proofs.listings_are_exact.Goals as goal

pub returns : goal.returns
returns c = λ d w r. listing_is d w.sheet (orderly_reached d r) (mode_known_reached d r)
