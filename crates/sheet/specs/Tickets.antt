-- What the calls that give or end a ticket answer, and what they leave. Assumes nothing.
use Rattle.std.specs.Prelude.{◌≡◌, ℕ, List, [], ◌∷◌, Ok, Err, Option, Result, IfErr}
use Rattle.values.specs.Checks.{answer, after, bad_at}
use Rattle.values.specs.declared.Cause.TheVariants.{DueAfter}
use Rattle.values.specs.declared.HostState.TheVariants.{Reversed}
use Rattle.values.specs.declared.Layer.TheVariants.{Sheet as OfSheet}
use Rattle.values.specs.declared.RowState.TheVariants.{Due, Undone}
use Rattle.host.specs.Keys.{key_of}
use Rattle.values.specs.declared.Phase.TheVariants.{Undoing}
use Rattle.values.specs.declared.Fault.{Fault}
use Rattle.values.specs.declared.Mode.{Mode}
use Rattle.values.specs.declared.TicketNumber.{TicketNumber}
use Rattle.host.specs.View.{View, moved}
use Rattle.model.specs.Chart.{Chart}
use Rattle.model.specs.Sheet.{Sheet, aborted, ticket_of, with_phase, with_rows}
use Rattle.model.specs.Rows.{marked}
use Rattle.model.specs.Calls.{abort_fault, all_dropped, phase_check, ticket_check, row_check, due_after, undo_fault, resume_fault}
use Rattle.sheet.specs.declared.ticket.Ticket.{Ticket}
use Rattle.sheet.specs.Calls.{Comes}

-- a ticket by the numbers that it shows
abbrev pub numbers_of : Result Ticket Fault → Result TicketNumber Fault
numbers_of (Ok t) = Ok t.number
numbers_of (Err f) = Err f

-- running rows dropped, also at the host, struck rows due or passed over, and the numbers of the rollback's ticket; in memory of
-- these lengths
abbrev pub AbortsNumbered : Chart → Sheet → View → Mode → ℕ → ℕ → Result TicketNumber Fault → Sheet → View → Type 0
AbortsNumbered c s v m column line =
    Comes (abort_fault s v m column line) (ticket_of (aborted c s m)) s (aborted c s m) v (all_dropped s.rows v)

-- the same with the ticket
abbrev pub Aborts : Chart → Sheet → View → Mode → ℕ → ℕ → Result Ticket Fault → Sheet → View → Type 0
Aborts c s v m column line r = AbortsNumbered c s v m column line (numbers_of r)

-- the checks of undo between that of the memory and those of the host
abbrev pub undo_own_checks : Sheet → TicketNumber → ℕ → List (Option Fault)
undo_own_checks s t k =
    phase_check s Undoing ∷ ticket_check s t ∷ row_check s.rows Due k ∷ bad_at (due_after s.rows k) DueAfter OfSheet ∷ []

-- a due row undone, also at the host; in memory of these lengths
abbrev pub Undoes : Sheet → View → TicketNumber → ℕ → ℕ → ℕ → Result (Unit {0}) Fault → Sheet → View → Type 0
Undoes s v t k column line =
    Comes (undo_fault s v t k column line) tt s (with_rows s (marked s.rows k Undone)) v (moved Reversed v (key_of k))

-- the fault of a declined call, without the ticket that it hands back
abbrev pub fault_only : Result (Unit {0}) (Ticket × Fault) → Result (Unit {0}) Fault
fault_only (Ok u) = Ok u
fault_only (Err e) = Err e.1

-- the sheet in another phase
pub record Turns (f : Option Fault) (s new : Sheet) (r : Result (Unit {0}) Fault) (s' : Sheet) : Type 0 where
  pub answers : r ≡ answer f tt
  pub sheet : s' ≡ after f s new

-- the same with a ticket, which is ended; a declined call hands that very ticket back
pub record Leaves (f : Option Fault) (t : Ticket) (s new : Sheet) (r : Result (Unit {0}) (Ticket × Fault)) (s' : Sheet) : Type 0 where
  pub answers : fault_only r ≡ answer f tt
  pub sheet : s' ≡ after f s new
  pub back : IfErr r (λ e. e.0 ≡ t)

-- a parked rollback taken up again, with the numbers of its ticket
pub record ResumesNumbered (s : Sheet) (r : Result TicketNumber Fault) (s' : Sheet) : Type 0 where
  pub answers : r ≡ answer (resume_fault s) (ticket_of s)
  pub sheet : s' ≡ after (resume_fault s) s (with_phase s Undoing)

-- the same with the ticket
abbrev pub Resumes : Sheet → Result Ticket Fault → Sheet → Type 0
Resumes s r s' = ResumesNumbered s (numbers_of r) s'
