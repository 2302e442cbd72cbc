-- What each call answers, and what it leaves of sheet and host: by the model's checks, the first of which that stands is the
-- answer; a declined call leaves both as they were. Assumes nothing.
use Rattle.std.specs.Prelude.{◌≡◌, ℕ, ◌+◌, Bool, true, not, ◌&&◌, List, [], ◌∷◌, None, Option, Result}
use Rattle.values.specs.Checks.{answer, after, bad_at, first_fault}
use Rattle.values.specs.Numbers.{same_host_state}
use Rattle.values.specs.declared.Cause.TheVariants.{ShutHost, OtherState}
use Rattle.values.specs.declared.Layer.TheVariants.{Host as OfHost}
use Rattle.values.specs.declared.Mode.{Mode}
use Rattle.values.specs.declared.Entry.{Entry}
use Rattle.values.specs.declared.Fault.{Fault}
use Rattle.values.specs.declared.HostState.TheVariants.{Open, Standing}
use Rattle.values.specs.declared.RowState.TheVariants.{Running, Committed}
use Rattle.values.specs.declared.Phase.TheVariants.{Forward}
use Rattle.host.specs.Keys.{key_of}
use Rattle.host.specs.View.{View, begun, move_checks, moved}
use Rattle.model.specs.Chart.{Chart, step_at}
use Rattle.model.specs.Rows.{Rows, in_state, marked, added}
use Rattle.model.specs.Sheet.{Sheet, with_rows}
use Rattle.model.specs.Calls.{phase_check, row_check, mode_check, lowest_row, lawful, start_fault, end_fault}

-- a call with this fault, or none: its answer, and the sheet and the host after it
pub record Comes {X : Type 0} (f : Option Fault) (x : X) (s new : Sheet) (v moved : View) (r : Result X Fault) (s' : Sheet) (v' : View) : Type 0 where
  pub answers : r ≡ answer f x
  pub sheet : s' ≡ after f s new
  pub host : v' ≡ after f v moved

abbrev pub start_fault_of : Chart → Sheet → View → ℕ → List ℕ → Entry → Option Fault
start_fault_of c s v k fs e = start_fault c s v k fs (lawful (step_at c k) e) e.kind

-- one row more, begun at the host
abbrev pub Starts : Chart → Sheet → View → ℕ → List ℕ → Entry → Result ℕ Fault → Sheet → View → Type 0
Starts c s v k fs e =
    Comes (start_fault_of c s v k fs e) (s.rows.count + 1)
    s (with_rows s (added s.rows k fs e)) v (begun v (key_of (s.rows.count + 1)) e)

-- the row runs, and the host has it in another state than open
abbrev pub not_open : Rows → View → ℕ → Bool
not_open r v k = in_state r Running k && not (same_host_state (v.state (key_of k)) Open)

-- the checks of the host in an abort: each running row can be dropped
abbrev pub drop_checks : Sheet → View → List (Option Fault)
drop_checks s v =
    bad_at (lowest_row s.rows (λ k. v.shut && in_state s.rows Running k)) ShutHost OfHost
    ∷ bad_at (lowest_row s.rows (not_open s.rows v)) OtherState OfHost
    ∷ []

-- the checks of abort after that of the memory
abbrev pub abort_own_checks : Sheet → View → Mode → List (Option Fault)
abort_own_checks s v m = phase_check s Forward ∷ mode_check s.rows m ∷ drop_checks s v

-- each running row can be dropped at the host
abbrev pub Droppable : Rows → View → Type 0
Droppable r v = (k : ℕ) → in_state r Running k ≡ true → first_fault (move_checks Open v (key_of k)) ≡ None

-- the sheet's own checks of end
abbrev pub end_checks : Sheet → ℕ → List (Option Fault)
end_checks s k = phase_check s Forward ∷ row_check s.rows Running k ∷ []

-- a row committed, also at the host
abbrev pub Ends : Sheet → View → ℕ → Result (Unit {0}) Fault → Sheet → View → Type 0
Ends s v k = Comes (end_fault s v k) tt s (with_rows s (marked s.rows k Committed)) v (moved Standing v (key_of k))
