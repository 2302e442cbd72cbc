use Rattle.std.proofs.Common.{map}
use Rattle.sheet.specs.Listings.{Puts}
use Rattle.sheet.proofs.Listing.{arrow}
use Rattle.sheet.proofs.sheets.Sheet.put_arrows_to.Given as goal

abbrev pub invariant-loop-row : goal.invariant-loop-row
invariant-loop-row l = Puts (map (arrow l.self l.from) l.yielded) l.at l.initial.table l.next l.table
