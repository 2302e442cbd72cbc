-- The members of a set of the numbers 1 to 256. Assumes nothing.
use Rattle.std.specs.Prelude.{ℕ, ◌-◌, ◌/◌, ◌%◌, Bool, not, ◌&&◌, List, ◌==◌, nat_le, slice_index}
use Rattle.std.specs.Int.{bit_at}
use Rattle.rowset.specs.declared.RowSet.{RowSet}

-- whether k is one of the numbers that a set can have
abbrev pub is_number : ℕ → Bool
is_number k = nat_le 1 k && nat_le k 256

-- whether the bit at a place is set, in words of 64 bits, the lowest first; past their end none is
unfoldable pub is_set : List ℕ → ℕ → Bool
is_set words place = bit_at (slice_index words (place / 64)) (place % 64) == 1

-- whether k is a member: its bit is that at k - 1
abbrev pub contains : RowSet → ℕ → Bool
contains s k = not (k == 0) && is_set s.words (k - 1)
