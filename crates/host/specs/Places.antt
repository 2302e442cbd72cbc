-- A place for each row, or none. Assumes nothing.
use Rattle.std.specs.Prelude.{ℕ, zero, suc, Some, None, get_or, Option}
use Rattle.host.specs.Keys.{RowKey}
use Rattle.host.specs.declared.places.Places.{Places}

-- places are the numbers below this one
abbrev pub places_most : ℕ
places_most = 65535

-- the place that a number stands for: one less than it, and none for 0
abbrev pub noted : ℕ → Option ℕ
noted zero = None
noted (suc n) = Some n

-- the place of a row
abbrev pub place_for : Places → RowKey → Option ℕ
place_for p row = noted (get_or p.next row 0)
