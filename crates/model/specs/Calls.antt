-- Each call's checks, in their order: the first that stands is the answer. Assumes nothing.
use Rattle.std.specs.Prelude.{ℕ, zero, suc, ◌+◌, Bool, true, cond, not, ◌&&◌, ◌||◌, List, [], ◌∷◌, ◌++◌, length, Option, ◌==◌, nat_eq, nat_le, nat_lt, slice_index}
use Rattle.values.specs.Checks.{bad, bad_at, first_fault}
use Rattle.values.specs.Numbers.{phase_number, same_phase, same_kind, same_host_state, in_range}
use Rattle.values.specs.declared.Cause.TheVariants.{ShortMemory, FullSheet, WrongPhase, NoSuch, WrongCount}
use Rattle.values.specs.declared.Cause.TheVariants.{UnfitPredecessor, UsedExit, UnlawfulEntry, ShutHost, OtherState}
use Rattle.values.specs.declared.Cause.TheVariants.{OtherTicket, DueAfter, StillDue, NothingLive}
use Rattle.values.specs.declared.Entry.{Entry}
use Rattle.values.specs.declared.Fault.{Fault}
use Rattle.values.specs.declared.HostState.TheVariants.{Open, Standing, Void}
use Rattle.values.specs.declared.Kind.{Kind}
use Rattle.values.specs.declared.Layer.TheVariants.{Sheet as OfSheet, Host as OfHost}
use Rattle.values.specs.declared.Mode.{Mode}
use Rattle.values.specs.declared.Mode.TheVariants.{Complete, Partial}
use Rattle.values.specs.declared.Phase.{Phase}
use Rattle.values.specs.declared.Phase.TheVariants.{Forward, Undoing, Parked}
use Rattle.values.specs.declared.RowState.{RowState}
use Rattle.values.specs.declared.RowState.TheVariants.{Running, Committed, Due}
use Rattle.values.specs.declared.TicketNumber.{TicketNumber}
use Rattle.process.specs.Accepted.{enough}
use Rattle.process.specs.declared.parts.Step.{Step}
use Rattle.host.specs.Keys.{key_of}
use Rattle.host.specs.View.{View, begin_checks, move_checks, moved}
use Rattle.model.specs.Search.{any_below, first_below, has}
use Rattle.model.specs.Chart.{Chart, step_at, has_step, is_arrow, by_flow, wanted}
use Rattle.model.specs.Rows.{Rows, in_state, live, any_live}
use Rattle.model.specs.Rollback.{after}
use Rattle.model.specs.Sheet.{Sheet}

-- ── checks that several calls have ──

-- the sheet is in another phase than the call wants
abbrev pub phase_check : Sheet → Phase → Option Fault
phase_check s p = bad (not (same_phase s.phase p)) WrongPhase OfSheet (phase_number s.phase)

-- the row is not in the state that the call wants
abbrev pub row_check : Rows → RowState → ℕ → Option Fault
row_check r st k = bad (not (in_state r st k)) NoSuch OfSheet k

-- the ticket is of another sheet or another rollback
abbrev pub ticket_check : Sheet → TicketNumber → Option Fault
ticket_check s t =
    bad (not (t.serial == s.serial && t.rollback == s.rollback)) OtherTicket OfSheet s.rollback

-- a column of so many bytes or a line of so many numbers is too short
abbrev pub memory_check : ℕ → ℕ → Option Fault
memory_check column line = bad (not (enough column line)) ShortMemory OfSheet 0

-- the lowest row that passes the test
abbrev pub lowest_row : Rows → (ℕ → Bool) → Option ℕ
lowest_row r p = first_below (r.count + 1) p

-- ── start ──

-- the i-th predecessor is not committed, has no arrow to step k, or is of the same step as an earlier one
abbrev pub unfit_at : Chart → Rows → ℕ → List ℕ → ℕ → Bool
unfit_at c r k fs i =
    not (in_state r Committed (slice_index fs i) && is_arrow c (r.step (slice_index fs i)) k)
    || any_below i (λ j. nat_eq (r.step (slice_index fs j)) (r.step (slice_index fs i)))

-- row v uses the exit of row f for a row of step k: it is live and has f as a predecessor, and the exit is "one", or v is of step k
-- too
abbrev pub uses : Chart → Rows → ℕ → ℕ → ℕ → Bool
uses c r k f v = (live (r.state v) && has f (r.preds v)) && by_flow (step_at c (r.step f)).exit true (r.step v == k)

-- the exit of the i-th predecessor is used
abbrev pub used_at : Chart → Rows → ℕ → List ℕ → ℕ → Bool
used_at c r k fs i = any_below (r.count + 1) (uses c r k (slice_index fs i))

-- the entry has the step's kind, and its number, if there is one, is in the range of that kind
abbrev pub lawful : Step → Entry → Bool
lawful st e = same_kind e.kind st.kind && in_range e.kind e.number

-- the sheet's own checks; `fair` says whether the entry is lawful
abbrev pub start_checks : Chart → Sheet → ℕ → List ℕ → Bool → List (Option Fault)
start_checks c s k fs fair =
    phase_check s Forward
    ∷ bad (not (has_step c k)) NoSuch OfSheet k
    ∷ bad (not (length fs == wanted c k) || (k == 1 && any_live s.rows)) WrongCount OfSheet (length fs)
    ∷ bad_at (first_below (length fs) (unfit_at c s.rows k fs)) UnfitPredecessor OfSheet
    ∷ bad_at (first_below (length fs) (used_at c s.rows k fs)) UsedExit OfSheet
    ∷ bad (not fair) UnlawfulEntry OfSheet k
    ∷ bad (not (nat_lt s.rows.count 256)) FullSheet OfSheet 256
    ∷ []

-- and then those of the host, which begins the next row
abbrev pub start_fault : Chart → Sheet → View → ℕ → List ℕ → Bool → Kind → Option Fault
start_fault c s v k fs fair kind =
    first_fault (start_checks c s k fs fair ++ begin_checks v (key_of (s.rows.count + 1)) kind)

-- ── end ──
abbrev pub end_fault : Sheet → View → ℕ → Option Fault
end_fault s v k =
    first_fault (phase_check s Forward ∷ row_check s.rows Running k ∷ move_checks Open v (key_of k))

-- ── abort ──

-- partial: the failing row does not run; complete: there is nothing to roll back, as no row is live
abbrev pub mode_check : Rows → Mode → Option Fault
mode_check r Complete = bad (not (any_live r)) NothingLive OfSheet 0
mode_check r (Partial f) = row_check r Running f

abbrev pub abort_checks : Sheet → View → Mode → ℕ → ℕ → List (Option Fault)
abort_checks s v m column line =
    memory_check column line
    ∷ phase_check s Forward
    ∷ mode_check s.rows m
    ∷ bad_at (lowest_row s.rows (λ k. v.shut && in_state s.rows Running k)) ShutHost OfHost
    ∷ bad_at (lowest_row s.rows
    (λ k. in_state s.rows Running k && not (same_host_state (v.state (key_of k)) Open))) OtherState OfHost
    ∷ []

abbrev pub abort_fault : Sheet → View → Mode → ℕ → ℕ → Option Fault
abort_fault s v m column line = first_fault (abort_checks s v m column line)

-- the host once the rows below n that pass the test are dropped
abbrev pub dropped_below : (ℕ → Bool) → ℕ → View → View
dropped_below runs zero v = v
dropped_below runs (suc n) v = cond (runs n) (moved Void (dropped_below runs n v) (key_of n)) (dropped_below runs n v)

-- the host once all running rows are dropped
abbrev pub all_dropped : Rows → View → View
all_dropped r v = dropped_below (in_state r Running) (r.count + 1) v

-- ── undo, finish, park, resume ──

-- the lowest due row after row k
abbrev pub due_after : Rows → ℕ → Option ℕ
due_after r k = lowest_row r (λ v. in_state r Due v && after r (nat_eq k) v)

abbrev pub undo_checks : Sheet → View → TicketNumber → ℕ → ℕ → ℕ → List (Option Fault)
undo_checks s v t k column line =
    memory_check column line
    ∷ phase_check s Undoing
    ∷ ticket_check s t
    ∷ row_check s.rows Due k
    ∷ bad_at (due_after s.rows k) DueAfter OfSheet
    ∷ move_checks Standing v (key_of k)

abbrev pub undo_fault : Sheet → View → TicketNumber → ℕ → ℕ → ℕ → Option Fault
undo_fault s v t k column line = first_fault (undo_checks s v t k column line)

abbrev pub finish_fault : Sheet → TicketNumber → Option Fault
finish_fault s t =
    first_fault (phase_check s Undoing ∷ ticket_check s t ∷ bad_at (lowest_row s.rows (in_state s.rows Due)) StillDue OfSheet ∷ [])

abbrev pub park_fault : Sheet → TicketNumber → Option Fault
park_fault s t = first_fault (phase_check s Undoing ∷ ticket_check s t ∷ [])

abbrev pub resume_fault : Sheet → Option Fault
resume_fault s = first_fault (phase_check s Parked ∷ [])

-- ── listing, reply ──

-- in memory of these lengths, with so many arrows and restart points to write
abbrev pub listing_fault : Sheet → ℕ → ℕ → ℕ → ℕ → ℕ → ℕ → Option Fault
listing_fault s column line arrow_room restart_room arrows restarts =
    first_fault (memory_check column line
    ∷ bad (same_phase s.phase Forward) WrongPhase OfSheet (phase_number s.phase)
    ∷ bad (not (nat_le arrows arrow_room && nat_le restarts restart_room)) ShortMemory OfSheet 0
    ∷ [])

-- fewer than 32 bytes of a buffer lie from the place on
abbrev pub reply_fault : ℕ → ℕ → Option Fault
reply_fault place size = first_fault (bad (nat_lt size (place + 32)) ShortMemory OfSheet 0 ∷ [])
