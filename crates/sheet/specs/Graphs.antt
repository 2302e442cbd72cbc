-- The rows of a sheet's compensating graph, as a set. Assumes nothing.
use Rattle.std.specs.Prelude.{◌≡◌, ℕ}
use Rattle.std.proofs.Math.Bool.{Bool-set}
use Rattle.model.specs.Sheet.{Sheet, in_graph}
use Rattle.rowset.specs.declared.RowSet.{RowSet}
use Rattle.rowset.specs.Members.{contains}

-- the members are the rows of the graph; a word that does not unfold by itself, since a search for a proof would else go
-- through it wherever a sheet stands
unfoldable pub HasGraph : Sheet → RowSet → Type 0
HasGraph s set = (k : ℕ) → contains set k ≡ in_graph s k

pub HasGraph-prop : (s : Sheet) (set : RowSet) → IsProp (HasGraph s set)
unfolding HasGraph
HasGraph-prop s set a b i k = Bool-set _ _ (a k) (b k) i
