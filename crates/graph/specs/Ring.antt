-- A ring: elements that stand one after the other in a row of places, going round at its end.
use Rattle.std.specs.Prelude.{◌≡◌, ℕ, ◌+◌, ◌<◌, ◌⊎◌, List, ◌++◌, take, drop}

-- the `count` elements from the place `head` on, going round at the end of the places
abbrev pub ring : {X : Type 0} → List X → ℕ → ℕ → List X
ring xs head count = take count (drop head (xs ++ xs))

-- `r` is the place `at`, going round at the end of `n` places
pub record Spot (n at r : ℕ) : Type 0 where
  pub inside : r < n
  pub is : (r ≡ at) ⊎ (r + n ≡ at)
