-- The highest row of each step, as a set. Assumes nothing.
use Rattle.std.specs.Prelude.{◌≡◌, ℕ, ◌+◌, Bool, not, ◌&&◌, List, ◌==◌, nat_lt}
use Rattle.model.specs.Rows.{Rows, is_row}
use Rattle.model.specs.Search.{any_below}
use Rattle.rowset.specs.declared.RowSet.{RowSet}
use Rattle.rowset.specs.Members.{contains}
use Rattle.rows.specs.declared.row.Row.{Row}
use Rattle.rows.specs.Columns.{columns}

-- a row above k is of its step
abbrev pub has_higher : (ℕ → ℕ) → ℕ → ℕ → Bool
has_higher step n k = any_below n (λ j. nat_lt k j && step j == step k)

-- row k is the highest of its step
abbrev pub is_highest : Rows → ℕ → Bool
is_highest r k = is_row r k && not (has_higher r.step (r.count + 1) k)

-- the members are the highest rows
abbrev pub HasHighest : RowSet → List Row → Type 0
HasHighest set rows = (k : ℕ) → contains set k ≡ is_highest (columns rows) k
