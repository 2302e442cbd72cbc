-- The arrows of a table as those of graphs. Assumes nothing.
use Rattle.std.specs.Prelude.{◌≡◌, ℕ, Bool, true, List}
use Rattle.graph.specs.Reach.{Within}
use Rattle.model.specs.Search.{has}

-- an arrow from j to k, between two of n rows
pub record Drawn (n : ℕ) (arrow : ℕ → ℕ → Bool) (j k : ℕ) : Type 0 where
  pub from_row : Within n j
  pub to_row : Within n k
  pub drawn : arrow j k ≡ true

-- arrows from each row to those that have it among these predecessors
abbrev pub forth : (ℕ → List ℕ) → ℕ → ℕ → Bool
forth preds j k = has j (preds k)

-- arrows from each row to these predecessors
abbrev pub back : (ℕ → List ℕ) → ℕ → ℕ → Bool
back preds j k = has k (preds j)
