-- Lists of calls on a host: what it shows after them, and how many it accepted. Assumes nothing.
use Rattle.std.specs.Prelude.{ℕ, ◌+◌, cond, List, [], ◌∷◌, is_some, Option, Result, ◌≡◌}
use Rattle.values.specs.Checks.{first_fault, answer, after}
use Rattle.values.specs.declared.HostState.TheVariants.{Open, Standing, Void, Reversed}
use Rattle.values.specs.declared.Fault.{Fault}
use Rattle.host.specs.Keys.{RowKey}
use Rattle.host.specs.View.{View, begin_checks, begun, move_checks, moved}
use Rattle.host.specs.declared.calls.Call.{Call}
use Rattle.host.specs.declared.calls.Call.TheVariants.{Begin, Commit, Drop, Undo}

-- the row of a call
abbrev pub row_of : Call → RowKey
row_of (Begin row e) = row
row_of (Commit row) = row
row_of (Drop row) = row
row_of (Undo row) = row

-- the fault with which a call is declined
abbrev pub fault_of : View → Call → Option Fault
fault_of v (Begin row e) = first_fault (begin_checks v row e.kind)
fault_of v (Commit row) = first_fault (move_checks Open v row)
fault_of v (Drop row) = first_fault (move_checks Open v row)
fault_of v (Undo row) = first_fault (move_checks Standing v row)

-- what an accepted call makes of what is shown
abbrev pub done : View → Call → View
done v (Begin row e) = begun v row e
done v (Commit row) = moved Standing v row
done v (Drop row) = moved Void v row
done v (Undo row) = moved Reversed v row

-- what is shown after a call
abbrev pub after_call : View → Call → View
after_call v c = after (fault_of v c) v (done v c)

-- a call made: its answer, and what the host shows after
pub record Performs (before : View) (call : Call) (r : Result (Unit {0}) Fault) (shown : View) : Type 0 where
  pub answers : r ≡ answer (fault_of before call) tt
  pub shows : shown ≡ after_call before call

-- what is shown after all the calls of a list
abbrev pub after_calls : View → List Call → View
after_calls v [] = v
after_calls v (c ∷ cs) = after_calls (after_call v c) cs

-- how many calls of a list are accepted
abbrev pub accepted : View → List Call → ℕ
accepted v [] = 0
accepted v (c ∷ cs) = cond (is_some (fault_of v c)) 0 1 + accepted (after_call v c) cs
