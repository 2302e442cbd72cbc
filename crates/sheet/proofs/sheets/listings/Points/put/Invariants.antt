use Rattle.sheet.specs.Listings.{Puts}
use Rattle.sheet.proofs.sheets.listings.Points.put.Given as goal

abbrev pub invariant-loop-row : goal.invariant-loop-row
invariant-loop-row l = Puts l.yielded l.initial.next l.initial.table l.next l.table
