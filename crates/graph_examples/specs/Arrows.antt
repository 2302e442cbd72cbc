-- Two graphs: a chain, and a list of arrows.
use Rattle.std.specs.Prelude.{◌≡◌, ℕ, ◌+◌, ◌<◌, List, length, slice_index_or}
use Rattle.graph.specs.Reach.{Within}

-- in a chain of n points, an arrow leads from each point to the next
abbrev pub Next : ℕ → ℕ → ℕ → Type 0
Next n j k = (k ≡ j + 1) × Within n j × Within n k

-- one of the first m arrows goes from j to k
abbrev pub Listed : List (ℕ × ℕ) → ℕ → ℕ → ℕ → Type 0
Listed xs m j k = (i : ℕ) × ((i < m) × (((slice_index_or xs i (0, 0)).0 ≡ j) × ((slice_index_or xs i (0, 0)).1 ≡ k)))

-- a listed arrow leads from j to k, both of them points of a graph of n points
abbrev pub Drawn : ℕ → List (ℕ × ℕ) → ℕ → ℕ → Type 0
Drawn n xs j k = Listed xs (length xs) j k × Within n j × Within n k
