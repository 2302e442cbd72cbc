-- A table that is filled from the front. Assumes nothing.
use Rattle.std.specs.Prelude.{◌≡◌, ℕ, ◌+◌, ◌-◌, List, length, take, drop}

-- the items in use, and the rest of the table
pub record Parts (T : Type 0) : Type 0 where
  pub used : List T
  pub rest : List T

-- how many items the table holds in all
abbrev pub capacity_of : {T : Type 0} → Parts T → ℕ
capacity_of t = length t.used + length t.rest

-- the first items of one list are those of another
abbrev pub IsPrefix : {X : Type 0} → List X → List X → Type 0
IsPrefix xs ys = take (length xs) ys ≡ xs

-- the rest of a table of which so many items are in use, and then so many: those that were taken are gone from its front
abbrev pub RestFrom : {X : Type 0} → ℕ → ℕ → List X → List X → Type 0
RestFrom used later rest rest' = rest' ≡ drop (later - used) rest
