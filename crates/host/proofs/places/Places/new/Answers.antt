-- Each number is 0.
use Rattle.std.proofs.Common.{ap}
use Rattle.host.specs.Places.{noted}
use Rattle.host.proofs.Zeros.{zero_at}
use Rattle.host.proofs.places.Places.new.Goals as goal

pub returns : goal.returns
returns c n = ap noted (zero_at 257 n)
