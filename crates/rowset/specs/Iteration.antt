-- The members of a set as a list. Assumes nothing.
use Rattle.std.specs.Prelude.{ℕ, ◌+◌, ◌-◌, ◌*◌, List, length}
use Rattle.std.specs.List.{filter, range_with_len}
use Rattle.rowset.specs.declared.Iter.{Iter}
use Rattle.rowset.specs.declared.RowSet.{RowSet}
use Rattle.rowset.specs.Members.{contains}

-- the greatest number that a set has a bit for
abbrev pub greatest : RowSet → ℕ
greatest set = 64 * length set.words

-- the members above a number, rising
unfoldable pub members_above : RowSet → ℕ → List ℕ
members_above set last = filter (contains set) (range_with_len (last + 1) (greatest set - last))

-- the members, rising
abbrev pub members : RowSet → List ℕ
members set = members_above set 0

-- those that an iterator has left
abbrev pub rest : Iter → List ℕ
rest it = members_above it.set.now it.last
