-- The rows that are linked to each row, as sets. Assumes nothing.
use Rattle.std.specs.Prelude.{◌≡◌, ℕ, ◌≤◌, Bool, true, ◌&&◌, ◌||◌, List, ◌==◌, slice_index_or}
use Rattle.values.specs.declared.RowState.TheVariants.{PassedOver}
use Rattle.model.specs.Rollback.{linked}
use Rattle.model.specs.Rows.{Rows, in_state}
use Rattle.rowset.specs.declared.RowSet.{RowSet}
use Rattle.rowset.specs.Members.{contains}
use Rattle.rows.specs.States.{no_set}

-- the set at a place, counted from 0
abbrev pub links_at : List RowSet → ℕ → RowSet
links_at sets k = slice_index_or sets k no_set

-- of the rows from `least` on, the members are those that are linked to v
abbrev pub HasLinks : Rows → ℕ → ℕ → RowSet → Type 0
HasLinks r least v links = (u : ℕ) → least ≤ u → contains links u ≡ linked r u v

-- of some rows, the members are those that are linked to v
abbrev pub LinksAmong : Rows → RowSet → ℕ → RowSet → Type 0
LinksAmong r rows v links = (u : ℕ) → contains rows u ≡ true → contains links u ≡ linked r u v

-- what row q brings to each row that follows it: itself, and if it is passed over, the rows that are linked to it
abbrev pub brings : Rows → ℕ → ℕ → Bool
brings r q u = u == q || (in_state r PassedOver q && linked r u q)
