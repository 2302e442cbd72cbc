-- A scratch column: bytes that are lent, of which the first are marks, one for each point.
use Rattle.std.specs.Prelude.{◌≡◌, ℕ, ◌<◌, ◌≤◌, Bool, true, cond, not, ◌&&◌, List, length, ◌==◌, nat_lt, slice_index, slice_set}

-- how many bytes of a column are marks: those of the points 0 to 256
abbrev pub mark_count : ℕ
mark_count = 257

-- whether a column of `size` bytes has a mark for the point k
abbrev pub covered : ℕ → ℕ → Bool
covered size k = nat_lt k mark_count && nat_lt k size

-- whether the point k is marked in a column: its byte is one of the marks, and is not 0
abbrev pub marked : List ℕ → ℕ → Bool
marked xs k = nat_lt k mark_count && not (slice_index xs k == 0)

-- the point k is marked in a column
abbrev pub Marked : List ℕ → ℕ → Type 0
Marked xs k = marked xs k ≡ true

-- the mark of a marked point is 1, and every other mark is 0
abbrev pub Plain : List ℕ → Type 0
Plain xs = (k : ℕ) → k < mark_count → slice_index xs k ≡ cond (marked xs k) 1 0

-- the column with the point k marked: as it was, where it has no mark for k
abbrev pub with_mark : List ℕ → ℕ → List ℕ
with_mark xs k = cond (nat_lt k mark_count) (slice_set xs k 1) xs

-- what follows the marks is as before, and the column is as long
pub record Kept (before after : List ℕ) : Type 0 where
  pub rest : (k : ℕ) → mark_count ≤ k → slice_index after k ≡ slice_index before k
  pub size : length after ≡ length before

-- the marks are zeros, what follows them is as before, and the column is as long
pub record Wiped (before after : List ℕ) : Type 0 where
  pub zeros : (k : ℕ) → k < mark_count → slice_index after k ≡ 0
  pub rest : (k : ℕ) → mark_count ≤ k → slice_index after k ≡ slice_index before k
  pub size : length after ≡ length before
