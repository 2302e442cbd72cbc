-- One lemma for every invariant: what each accepted call keeps, every event keeps. Assumes nothing.
use Rattle.std.proofs.Common.{◌≡◌, ℕ, ◌+◌, Bool, List, length, Some, None, Option, refl}
use Rattle.values.specs.Checks.{after}
use Rattle.values.specs.declared.Entry.{Entry}
use Rattle.values.specs.declared.Fault.{Fault}
use Rattle.values.specs.declared.HostState.TheVariants.{Standing, Reversed}
use Rattle.values.specs.declared.Mode.{Mode}
use Rattle.values.specs.declared.Phase.TheVariants.{Forward, Undoing, Parked}
use Rattle.values.specs.declared.RowState.TheVariants.{Committed, Undone}
use Rattle.values.specs.declared.TicketNumber.{TicketNumber}
use Rattle.host.specs.Keys.{key_of}
use Rattle.host.specs.View.{View, begun, moved, shut_as}
use Rattle.model.specs.Chart.{Chart, step_at}
use Rattle.model.specs.Rows.{marked, added}
use Rattle.model.specs.Sheet.{Sheet, with_rows, with_phase, aborted}
use Rattle.model.specs.Calls.{lawful, start_fault, end_fault, abort_fault, all_dropped, undo_fault, finish_fault, park_fault, resume_fault}
use Rattle.model.specs.Run.{World, Event, start, end, abort, undo, finish, park, resume, listing, reply, lend, control, does}

-- each accepted call, and what happens to the host between calls, keeps P
pub record Steps (c : Chart) (P : Sheet → View → Type 0) (s : Sheet) (v : View) : Type 0 where
  pub on_start : (k : ℕ) (fs : List ℕ) (e : Entry) → start_fault c s v k fs (lawful (step_at c k) e) e.kind ≡ None
      → P (with_rows s (added s.rows k fs e)) (begun v (key_of (s.rows.count + 1)) e)
  pub on_end : (k : ℕ) → end_fault s v k ≡ None → P (with_rows s (marked s.rows k Committed)) (moved Standing v (key_of k))
  pub on_abort : (m : Mode) (column line : ℕ) → abort_fault s v m column line ≡ None → P (aborted c s m) (all_dropped s.rows v)
  pub on_undo : (t : TicketNumber) (k column line : ℕ) → undo_fault s v t k column line ≡ None
      → P (with_rows s (marked s.rows k Undone)) (moved Reversed v (key_of k))
  pub on_finish : (t : TicketNumber) → finish_fault s t ≡ None → P (with_phase s Forward) v
  pub on_park : (t : TicketNumber) → park_fault s t ≡ None → P (with_phase s Parked) v
  pub on_resume : resume_fault s ≡ None → P (with_phase s Undoing) v
  pub on_control : (b : Bool) → P s (shut_as b v)

-- either way of a decision
decided : (P : Sheet → View → Type 0) (f : Option Fault) (old new : World) → P old.sheet old.host
    → (f ≡ None → P new.sheet new.host) → P (after f old new).sheet (after f old new).host
decided P None old new h k = k refl
decided P (Some x) old new h k = h

pub kept_by : (c : Chart) (P : Sheet → View → Type 0) (w : World) (e : Event) → P w.sheet w.host
    → Steps c P w.sheet w.host → P (does c w e).0.sheet (does c w e).0.host
kept_by c P w (start k fs e) h q = decided P _ _ _ h (q.on_start k fs e)
kept_by c P w (end k) h q = decided P _ _ _ h (q.on_end k)
kept_by c P w (abort m) h q = decided P _ _ _ h (q.on_abort m (length w.lent.column) w.lent.line)
kept_by c P w (undo t k) h q = decided P _ _ _ h (q.on_undo t k (length w.lent.column) w.lent.line)
kept_by c P w (finish t) h q = decided P _ _ _ h (q.on_finish t)
kept_by c P w (park t) h q = decided P _ _ _ h (q.on_park t)
kept_by c P w resume h q = decided P _ _ _ h q.on_resume
kept_by c P w listing h q = decided P _ _ _ h (λ _. h)
kept_by c P w (reply place) h q = decided P _ _ _ h (λ _. h)
kept_by c P w (lend l) h q = h
kept_by c P w (control b) h q = q.on_control b
