-- What holds inside a traversal, between one point and the next. `xs` is the column, `ws` the points that wait.
use Rattle.std.specs.Prelude.{◌≡◌, ℕ, zero, suc, ◌+◌, ◌≤◌, cond, ◌⊎◌, List, [], ◌∷◌, ◌++◌, length, slice_set}
use Rattle.graph.specs.Column.{marked, Marked, Plain, Kept}
use Rattle.graph.specs.Reach.{Reached}

-- k stands in the list
pub data In (k : ℕ) : List ℕ → Type 0 where
  here : {xs : List ℕ} → In k (k ∷ xs)
  there : {x : ℕ} {xs : List ℕ} → In k xs → In k (x ∷ xs)

-- how many of the points 1 to n are not marked
abbrev pub unmarked : ℕ → List ℕ → ℕ
unmarked zero xs = 0
unmarked (suc n) xs = unmarked n xs + cond (marked xs (suc n)) 0 1

-- the column once the point t is taken in: it is marked, if it was not
abbrev pub column_with : List ℕ → ℕ → List ℕ
column_with xs t = cond (marked xs t) xs (slice_set xs t 1)

-- the points that wait then: t waits last, if it was not marked
abbrev pub line_with : List ℕ → List ℕ → ℕ → List ℕ
line_with xs ws t = cond (marked xs t) ws (ws ++ t ∷ [])

-- what taking in points that each have From does, in a graph of n points
pub record Grown (From : ℕ → Type 0) (n : ℕ) (xs ws xs' ws' : List ℕ) : Type 0 where
  pub keeps : (k : ℕ) → Marked xs k → Marked xs' k
  pub news : (k : ℕ) → Marked xs' k → Marked xs k ⊎ (From k × In k ws')
  pub stays : (k : ℕ) → In k ws → In k ws'
  pub lines : (k : ℕ) → In k ws' → In k ws ⊎ Marked xs' k
  pub count : length ws' + unmarked n xs' ≡ length ws + unmarked n xs
  pub plain : Plain xs → Plain xs'
  pub kept : Kept xs xs'

-- what holds while points wait, in a graph of n points
pub record Search (Arrow : ℕ → ℕ → Type 0) (Starts : ℕ → Type 0) (n : ℕ) (xs ws : List ℕ) : Type 0 where
  pub sound : (k : ℕ) → Marked xs k → Reached Arrow Starts k
  pub started : (k : ℕ) → Starts k → Marked xs k
  pub lined : (k : ℕ) → In k ws → Marked xs k
  pub closed : (k : ℕ) → Marked xs k → In k ws ⊎ ((q : ℕ) → Arrow k q → Marked xs q)
  pub count : length ws + unmarked n xs ≤ n
  pub plain : Plain xs
