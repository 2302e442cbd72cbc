-- Points and arrows, what is reached along them, and what a traversal leaves in a column.
use Rattle.std.specs.Prelude.{◌≡◌, ℕ, ◌<◌, ◌≤◌, Bool, ◌&&◌, List, length, Some, None, Option, nat_le, slice_index}
use Rattle.graph.specs.Column.{mark_count, covered, Marked, Plain}

-- k is a point of a graph of n points: they have the numbers 1 to n
abbrev pub Within : ℕ → ℕ → Type 0
Within n k = (1 ≤ k) × (k ≤ n)

-- the least number above `after` that has P, or none where no number above it has P
abbrev pub Least : (ℕ → Type 0) → ℕ → Option ℕ → Type 0
Least P after None = (k : ℕ) → after < k → P k → ⊥
Least P after (Some t) = (after < t) × P t × ((k : ℕ) → after < k → k < t → P k → ⊥)

-- k is one of the numbers to start from, and a point of a graph of n points
abbrev pub Start : ℕ → List ℕ → ℕ → Type 0
Start n starts k = Within n k × ((i : ℕ) × ((i < length starts) × (slice_index starts i ≡ k)))

-- a point is reached: it is a start, or an arrow leads to it from a point that is reached
pub data Reached (Arrow : ℕ → ℕ → Type 0) (Starts : ℕ → Type 0) : ℕ → Type 0 where
  start : {k : ℕ} → Starts k → Reached Arrow Starts k
  step : {j k : ℕ} → Reached Arrow Starts j → Arrow j k → Reached Arrow Starts k

-- whether there is room to traverse a graph of `points` points: a place in a line of `places` for each point, and a
-- mark in a column of `bytes` for each
abbrev pub roomy : ℕ → ℕ → ℕ → Bool
roomy points places bytes = nat_le points places && covered bytes points

-- a traversal went through the whole graph, in the column that was `before`, and is `after`
pub record Explored (Arrow : ℕ → ℕ → Type 0) (Starts : ℕ → Type 0) (before after : List ℕ) : Type 0 where
  -- each marked point is reached
  pub sound : (k : ℕ) → Marked after k → Reached Arrow Starts k
  -- each point that is reached is marked
  pub whole : (k : ℕ) → Reached Arrow Starts k → Marked after k
  -- the byte of a marked point is 1, and every other mark is 0
  pub plain : Plain after
  -- what follows the marks is as before
  pub rest : (k : ℕ) → mark_count ≤ k → slice_index after k ≡ slice_index before k
  -- the column is as long as before
  pub size : length after ≡ length before
