-- What is asked of a graph.
use Rattle.std.specs.Prelude.{ℕ, [], ◌∷◌}
use Rattle.graph.specs.Reach.{Start, Reached}

-- arrows lead from the point `from` of a graph of n points to `to`, zero of them or more
abbrev pub Leads : (ℕ → ℕ → Type 0) → ℕ → ℕ → ℕ → Type 0
Leads Arrow n from to = Reached Arrow (Start n (from ∷ [])) to
