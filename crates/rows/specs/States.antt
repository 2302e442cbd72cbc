-- The rows in each state, as sets. Assumes nothing.
use Rattle.std.specs.Prelude.{◌≡◌, ℕ, Bool, not, ◌&&◌, List, []}
use Rattle.values.specs.declared.RowState.{RowState}
use Rattle.values.specs.declared.RowState.TheVariants.{Absent}
use Rattle.values.specs.Numbers.{row_state_number, same_state}
use Rattle.model.specs.Rows.{Rows, in_state}
use Rattle.rowset.specs.declared.RowSet.{RowSet}
use Rattle.rowset.specs.Members.{contains}
use Rattle.rows.specs.declared.row.Row.{Row}
use Rattle.rows.specs.Columns.{item_at, columns}

-- no row, where there is no set
abbrev pub no_set : RowSet
no_set = record { words = [] }

-- the set of row k, counted from 1
abbrev pub set_at : List RowSet → ℕ → RowSet
set_at sets k = item_at no_set sets k

-- row k is in that state; a number that is absent is no row
abbrev pub row_in : Rows → RowState → ℕ → Bool
row_in r st k = not (same_state st Absent) && in_state r st k

-- the set of each state, by its number, has the rows in that state, and no others
abbrev pub HaveStates : List RowSet → List Row → Type 0
HaveStates sets rows = (st : RowState) (k : ℕ) → contains (set_at sets (row_state_number st)) k ≡ row_in (columns rows) st k
