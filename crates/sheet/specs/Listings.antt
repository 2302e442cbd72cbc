-- What the parts of a listing put into its tables. Assumes nothing.
use Rattle.std.specs.Prelude.{◌≡◌, ℕ, ◌+◌, Bool, cond, ◌&&◌, List, [], ◌∷◌, ◌++◌, length, Option, slice_set}
use Rattle.values.specs.Checks.{bad}
use Rattle.values.specs.Numbers.{phase_number, same_phase}
use Rattle.values.specs.declared.Cause.TheVariants.{WrongPhase}
use Rattle.values.specs.declared.Fault.{Fault}
use Rattle.values.specs.declared.Layer.TheVariants.{Sheet as OfSheet}
use Rattle.values.specs.declared.Phase.TheVariants.{Forward}
use Rattle.model.specs.Chart.{Chart}
use Rattle.model.specs.Rollback.{behind, linked}
use Rattle.model.specs.Rows.{Rows}
use Rattle.model.specs.Search.{all_below}
use Rattle.model.specs.Sheet.{Sheet, in_graph}
use Rattle.rowset.specs.declared.RowSet.{RowSet}
use Rattle.rowset.specs.Members.{is_number, contains}
use Rattle.sheet.specs.declared.sheets.listings.Points.{Points}

-- a table with a list put into it from a place on, as far as the table goes
abbrev pub put_all : {X : Type 0} → List X → ℕ → List X → List X
put_all [] at table = table
put_all (x ∷ xs) at table = put_all xs (at + 1) (slice_set table at x)

-- a list put into a table from a place on, and the place after it
pub record Puts {X : Type 0} (xs : List X) (at : ℕ) (table : List X) (next : ℕ) (table' : List X) : Type 0 where
  pub place : next ≡ at + length xs
  pub written : table' ≡ put_all xs at table

-- the members are the failing row and its backward part
abbrev pub HasBehind : Chart → Rows → ℕ → RowSet → Type 0
HasBehind c r f set = (k : ℕ) → contains set k ≡ (is_number k && behind c r f k)

-- the members of a set as a list, rising
unfoldable pub members : RowSet → List ℕ
members set = all_below 257 (contains set)

-- restart points as a list, rising
abbrev pub listed : Points → List ℕ
listed p = cond p.start (0 ∷ []) [] ++ members p.stops

-- an element, if it is wanted
abbrev pub only_if : {X : Type 0} → Bool → X → List X
only_if b x = cond b (x ∷ []) []

-- an arrow from v, which is in the graph, leads to u
abbrev pub ends : Sheet → ℕ → ℕ → Bool
ends s v u = in_graph s u && linked s.rows u v

-- a sheet that goes forward has no graph
abbrev pub graph_check : Sheet → Option Fault
graph_check s = bad (same_phase s.phase Forward) WrongPhase OfSheet (phase_number s.phase)
