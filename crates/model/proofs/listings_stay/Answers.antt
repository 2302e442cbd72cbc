use Rattle.model.proofs.Listing.{listing_stays}
use Rattle.model.proofs.listings_stay.Goals as goal

pub returns : goal.returns
returns c = listing_stays
