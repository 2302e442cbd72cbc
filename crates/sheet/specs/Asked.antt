-- The calls that a sheet's calls make on the host. Assumes nothing.
use Rattle.std.specs.Prelude.{ℕ, ◌+◌, List, [], ◌∷◌, length, map, Some, None, Option}
use Rattle.values.specs.Checks.{first_fault}
use Rattle.values.specs.declared.Entry.{Entry}
use Rattle.values.specs.declared.Fault.{Fault}
use Rattle.values.specs.declared.Mode.{Mode}
use Rattle.values.specs.declared.RowState.TheVariants.{Running}
use Rattle.values.specs.declared.TicketNumber.{TicketNumber}
use Rattle.host.specs.Keys.{key_of}
use Rattle.host.specs.View.{View}
use Rattle.host.specs.declared.calls.Call.{Call}
use Rattle.host.specs.declared.calls.Call.TheVariants.{Begin, Commit, Drop, Undo}
use Rattle.model.specs.Chart.{Chart, step_at}
use Rattle.model.specs.Rows.{Rows, in_state}
use Rattle.model.specs.Search.{all_below}
use Rattle.model.specs.Sheet.{Sheet}
use Rattle.model.specs.Calls.{lawful, memory_check, start_checks}
use Rattle.model.specs.Run.{World, Event, start, end, abort, undo}
use Rattle.sheet.specs.Calls.{abort_own_checks, end_checks}
use Rattle.sheet.specs.Tickets.{undo_own_checks}

-- where one of the sheet's own checks fails, the host is not called
abbrev pub unless : Option Fault → List Call → List Call
unless None cs = cs
unless (Some f) cs = []

-- each running row is dropped, the lowest first
abbrev pub drops : Rows → List Call
drops r = map (λ k. Drop (key_of k)) (all_below (r.count + 1) (in_state r Running))

abbrev pub start_asks : Chart → Sheet → ℕ → List ℕ → Entry → List Call
start_asks c s k fs e =
    unless (first_fault (start_checks c s k fs (lawful (step_at c k) e))) (Begin (key_of (s.rows.count + 1)) e ∷ [])

abbrev pub end_asks : Sheet → ℕ → List Call
end_asks s k = unless (first_fault (end_checks s k)) (Commit (key_of k) ∷ [])

abbrev pub abort_asks : Sheet → View → Mode → ℕ → ℕ → List Call
abort_asks s v m column line = unless (memory_check column line) (unless (first_fault (abort_own_checks s v m)) (drops s.rows))

abbrev pub undo_asks : Sheet → TicketNumber → ℕ → ℕ → ℕ → List Call
undo_asks s t k column line =
    unless (memory_check column line) (unless (first_fault (undo_own_checks s t k)) (Undo (key_of k) ∷ []))

-- an event of a run: no other call is lent the host
abbrev pub event_asks : Chart → World → Event → List Call
event_asks c w (start k fs e) = start_asks c w.sheet k fs e
event_asks c w (end k) = end_asks w.sheet k
event_asks c w (abort m) = abort_asks w.sheet w.host m (length w.lent.column) w.lent.line
event_asks c w (undo t k) = undo_asks w.sheet t k (length w.lent.column) w.lent.line
event_asks c w e = []
