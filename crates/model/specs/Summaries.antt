-- The summary of a sheet, and that it depends on no private entry. Assumes nothing.
use Rattle.std.specs.Prelude.{◌≡◌, ℕ, zero, suc, ◌+◌, true, cond, List, length, Some, None, Option, ◌==◌, map, count_by}
use Rattle.std.specs.List.{range_with_len}
use Rattle.values.specs.declared.Phase.{Phase}
use Rattle.values.specs.declared.RowState.{RowState}
use Rattle.values.specs.declared.RowState.TheVariants.{Absent, Running, Committed, Dropped, Due, Undone, PassedOver}
use Rattle.model.specs.Chart.{Chart, step_at}
use Rattle.model.specs.Rows.{Rows, in_state}
use Rattle.model.specs.Sheet.{Sheet}
use Rattle.model.specs.Run.{World, History, Leads}
use Rattle.model.specs.Histories.{AllAlike, events_of}

-- how many rows there are, and how many in each state
pub record Counts : Type 0 where
  pub all : ℕ
  pub running : ℕ
  pub committed : ℕ
  pub dropped : ℕ
  pub due : ℕ
  pub undone : ℕ
  pub passed_over : ℕ

-- what is told of a sheet: its phase, how many rollbacks and rows it has, and how each step stands, from step 1 on
pub record Summary : Type 0 where
  pub phase : Phase
  pub rollbacks : ℕ
  pub rows : Counts
  pub standings : List (Option RowState)

-- the numbers 1 to n
abbrev pub one_to : ℕ → List ℕ
one_to n = range_with_len 1 n

abbrev pub count_in : Rows → RowState → ℕ
count_in r st = count_by (in_state r st) (one_to r.count)

abbrev pub counts_of : Rows → Counts
counts_of r = record {
  all = r.count;
  running = count_in r Running;
  committed = count_in r Committed;
  dropped = count_in r Dropped;
  due = count_in r Due;
  undone = count_in r Undone;
  passed_over = count_in r PassedOver;
}

-- the state of the highest row of step k among the rows below n, absent if there is none
abbrev pub highest_state : Rows → ℕ → ℕ → RowState
highest_state r k zero = Absent
highest_state r k (suc n) = cond (r.step n == k) (r.state n) (highest_state r k n)

-- how step k stands: by its highest row; of a private step nothing is told
abbrev pub standing : Chart → Rows → ℕ → Option RowState
standing c r k = cond (step_at c k).private None (Some (highest_state r k (r.count + 1)))

abbrev pub standings : Chart → Rows → List (Option RowState)
standings c r = map (standing c r) (one_to (length c.0))

abbrev pub summary_of : Chart → Sheet → Summary
summary_of c s = record {
  phase = s.phase;
  rollbacks = s.rollback;
  rows = counts_of s.rows;
  standings = standings c s.rows;
}

-- The summary x of a sheet s tells of no private entry: whatever history leads to a world with that sheet, every other
-- from the same world that differs only in lawful entries of private starts leads to a world with that summary
abbrev pub TellsNothingPrivate : Chart → Sheet → Summary → Type 0
TellsNothingPrivate c s x =
    (first : World) (g h : History) (v w : World) → Leads c first g v → Leads c first h w
    → AllAlike c (events_of g) (events_of h) → v.sheet ≡ s → summary_of c w.sheet ≡ x

abbrev pub PrivateEntriesChangeNoSummary : Type 0
PrivateEntriesChangeNoSummary = (c : Chart) (s : Sheet) → TellsNothingPrivate c s (summary_of c s)

-- of a private step nothing is told
abbrev pub PrivateStepsHaveNoStanding : Type 0
PrivateStepsHaveNoStanding = (c : Chart) (r : Rows) (k : ℕ) → (step_at c k).private ≡ true → standing c r k ≡ None
