-- What is marked once a table's rows were walked. Assumes nothing.
use Rattle.std.specs.Prelude.{◌≡◌, ℕ, ◌+◌, Bool, true, false, ◌&&◌, ◌||◌, List, is_ok, Option, Result, MatchResult, nat_lt}
use Rattle.values.specs.declared.Mode.{Mode}
use Rattle.values.specs.declared.Mode.TheVariants.{Complete, Partial}
use Rattle.values.specs.declared.RowState.TheVariants.{Due}
use Rattle.graph.specs.Column.{marked}
use Rattle.graph.specs.Scratch.{SameLoans, Untouched}
use Rattle.graph.specs.declared.scratch.Scratch.{Scratch}
use Rattle.model.specs.Calls.{lowest_row}
use Rattle.model.specs.Chart.{Chart}
use Rattle.model.specs.Rollback.{after, backward, strikes}
use Rattle.model.specs.Rows.{Rows, in_state}
use Rattle.model.specs.Search.{any_below}
use Rattle.rowset.specs.declared.RowSet.{RowSet}
use Rattle.rowset.specs.Members.{contains}

-- what a walk leaves of the memory that it is lent: it was done where there was room, and else that is as it was
pub record Walked {T E : Type 0} (r : Result T E) (room : Bool) (Done : T → Type 0) (before after : Scratch) : Type 0 where
  pub test : is_ok r ≡ room
  pub answer : MatchResult r Done (λ _. Untouched before after)
  pub loans : SameLoans before after

-- the backward part of f is marked
abbrev pub BackwardMarked : Chart → Rows → ℕ → List ℕ → Type 0
BackwardMarked c r f xs = (u : ℕ) → marked xs u ≡ backward c r f u

-- the backward part of f is marked, with all that is after it
abbrev pub PartMarked : Chart → Rows → ℕ → List ℕ → Type 0
PartMarked c r f xs = (k : ℕ) → marked xs k ≡ (backward c r f k || after r (backward c r f) k)

-- the members are the backward part of f
abbrev pub HasBackward : Chart → Rows → ℕ → RowSet → Type 0
HasBackward c r f set = (u : ℕ) → contains set u ≡ backward c r f u

-- the members are the rows that the abort strikes
abbrev pub HasStruck : Chart → Rows → Mode → RowSet → Type 0
HasStruck c r m set = (k : ℕ) → contains set k ≡ strikes c r m k

-- whether rows are walked for an abort: not where it is complete
abbrev pub is_partial : Mode → Bool
is_partial Complete = false
is_partial (Partial f) = true

-- a row above k is due
abbrev pub due_above : Rows → ℕ → Bool
due_above r k = any_below (r.count + 1) (λ v. nat_lt k v && in_state r Due v)

-- the lowest row above k that is due and marked
abbrev pub lowest_due : Rows → ℕ → List ℕ → Option ℕ
lowest_due r k xs = lowest_row r (λ v. nat_lt k v && (in_state r Due v && marked xs v))
