-- What a call that is accepted has passed. Assumes nothing.
use Rattle.std.proofs.Common.{◌≡◌, ℕ, suc, ◌+◌, ◌<◌, Bool, true, not, ◌&&◌, eqb, ltb, List, [], ◌∷◌, ◌++◌, length, get_or, None, sym, refl, ap, ◌∙◌, inl, inr, arith}
use borrow.Author.Tests.{clash}
use Rattle.std.proofs.lemmas.Bool.{both_ways, and_parts, and_from, or_cases, or_parts, eqb-true, ltb-true, not-false}
use Rattle.values.specs.Checks.{bad_at}
use Rattle.values.specs.Numbers.{phase_number, same_phase}
use Rattle.values.specs.declared.Cause.TheVariants.{FullSheet, WrongPhase, NoSuch, UnfitPredecessor}
use Rattle.values.specs.declared.Cause.TheVariants.{DueAfter, StillDue}
use Rattle.values.specs.declared.HostState.TheVariants.{Open}
use Rattle.values.specs.declared.Kind.{Kind}
use Rattle.values.specs.declared.Layer.TheVariants.{Sheet as OfSheet}
use Rattle.values.specs.declared.Mode.{Mode}
use Rattle.values.specs.declared.Phase.{Phase}
use Rattle.values.specs.declared.Phase.TheVariants.{Forward, Undoing}
use Rattle.values.specs.declared.RowState.{RowState}
use Rattle.values.specs.declared.RowState.TheVariants.{Running, Committed, Due}
use Rattle.values.specs.declared.TicketNumber.{TicketNumber}
use Rattle.host.specs.Keys.{key_of}
use Rattle.host.specs.View.{View, begin_checks, move_checks}
use Rattle.model.specs.Search.{any_below, first_below, has}
use Rattle.model.specs.Chart.{Chart, is_arrow}
use Rattle.model.specs.Rows.{Rows, in_state}
use Rattle.model.specs.Rollback.{After, after}
use Rattle.model.specs.Sheet.{Sheet}
use Rattle.model.specs.Calls.{phase_check, row_check, ticket_check, mode_check, lowest_row, due_after, unfit_at}
use Rattle.model.specs.Calls.{start_checks, start_fault, end_fault, abort_checks, abort_fault}
use Rattle.model.specs.Calls.{undo_checks, undo_fault, finish_fault}
use Rattle.model.specs.Sheets.{Orderly}
use Rattle.model.proofs.Basics.{Passed, passes, passed_test, bad_at_none, first_below_none}
use Rattle.model.proofs.Basics.{same_state_eq, eq_same_state, same_phase_eq}
use Rattle.model.proofs.Order.{numbered, after_is_after}

-- ── single checks ──

pub phase_passed : (s : Sheet) (p : Phase) → phase_check s p ≡ None → s.phase ≡ p
phase_passed s p h =
    same_phase_eq s.phase p (passed_test (same_phase s.phase p) WrongPhase OfSheet (phase_number s.phase) h)

pub row_passed : (r : Rows) (st : RowState) (k : ℕ) → row_check r st k ≡ None → r.state k ≡ st
row_passed r st k h = same_state_eq (r.state k) st (passed_test (in_state r st k) NoSuch OfSheet k h)

-- what stands in a list has a place in it
pub has_place : (x : ℕ) (xs : List ℕ) → has x xs ≡ true → (i : ℕ) × (i < length xs) × (get_or xs i 0 ≡ x)
has_place x [] m = absurd (clash m)
has_place x (y ∷ ys) m =
    elim (or_cases (eqb x y) (has x ys) m) [
      | inl e ↦ (0, omega arith, sym (eqb-true x y e))
      | inr n ↦ let (i, l, e) = has_place x ys n in (suc i, omega arith, e)
    ]

-- ── start ──

module _ (c : Chart) (s : Sheet) (v : View) (k : ℕ) (fs : List ℕ) (fair : Bool) (kind : Kind)
    (accepted : start_fault c s v k fs fair kind ≡ None) where
  start_passed : Passed (start_checks c s k fs fair ++ begin_checks v (key_of (s.rows.count + 1)) kind)
  start_passed = passes (start_checks c s k fs fair ++ begin_checks v (key_of (s.rows.count + 1)) kind) accepted

  pub start_forward : s.phase ≡ Forward
  start_forward = phase_passed s Forward start_passed.0

  -- each predecessor is committed
  pub start_fits : (f : ℕ) → has f fs ≡ true → s.rows.state f ≡ Committed
  start_fits f m =
      let (i, low, e) = has_place f fs m in
      let none = bad_at_none (first_below (length fs) (unfit_at c s.rows k fs)) UnfitPredecessor OfSheet
      start_passed.1.1.1.0 in
      let fit = first_below_none (length fs) (unfit_at c s.rows k fs) none i low in
      let x = get_or fs i 0 in
      let done = in_state s.rows Committed x in
      let follows = is_arrow c (s.rows.step x) k in
      let again = any_below i (λ j. eqb (s.rows.step (get_or fs j 0)) (s.rows.step x)) in
      let both = not-false (done && follows) (or_parts (not (done && follows)) again fit).0 in
      ap s.rows.state (sym e) ∙ same_state_eq (s.rows.state x) Committed (and_parts done follows both).0

  pub start_room : s.rows.count < 256
  start_room =
      ltb-true s.rows.count 256 (passed_test (ltb s.rows.count 256) FullSheet OfSheet 256
      start_passed.1.1.1.1.1.1.0)

-- ── end, abort ──

pub end_running : (s : Sheet) (v : View) (k : ℕ) → end_fault s v k ≡ None → s.rows.state k ≡ Running
end_running s v k h =
    row_passed s.rows Running k
    (passes (phase_check s Forward ∷ row_check s.rows Running k ∷ move_checks Open v (key_of k)) h).1.0

module _ (s : Sheet) (v : View) (m : Mode) (column line : ℕ) (accepted : abort_fault s v m column line ≡ None) where
  abort_passed : Passed (abort_checks s v m column line)
  abort_passed = passes (abort_checks s v m column line) accepted

  pub abort_forward : s.phase ≡ Forward
  abort_forward = phase_passed s Forward abort_passed.1.0

  pub abort_mode : mode_check s.rows m ≡ None
  abort_mode = abort_passed.1.1.0

-- ── undo, finish ──

module _ (s : Sheet) (v : View) (t : TicketNumber) (k column line : ℕ)
    (accepted : undo_fault s v t k column line ≡ None) where
  undo_passed : Passed (undo_checks s v t k column line)
  undo_passed = passes (undo_checks s v t k column line) accepted

  pub undo_due : s.rows.state k ≡ Due
  undo_due = row_passed s.rows Due k undo_passed.1.1.1.0

  -- no row after an undone one is due
  pub undo_free : Orderly s → (x : ℕ) → After s.rows.preds k x → s.rows.state x ≡ Due → ⊥
  undo_free o x p due =
      let bars : ℕ → Bool = λ y. in_state s.rows Due y && after s.rows (eqb k) y in
      let low = numbered s o x Due refl due in
      let none = bad_at_none (due_after s.rows k) DueAfter OfSheet undo_passed.1.1.1.1.0 in
      both_ways (bars x) (first_below_none (s.rows.count + 1) bars none x (omega arith))
      (and_from (in_state s.rows Due x) (after s.rows (eqb k) x)
      (eq_same_state (s.rows.state x) Due due) ((after_is_after s o k x).1 p))

pub finish_free : (s : Sheet) (t : TicketNumber) → Orderly s → finish_fault s t ≡ None
    → (k : ℕ) → s.rows.state k ≡ Due → ⊥
finish_free s t o h k due =
    let still = bad_at (lowest_row s.rows (in_state s.rows Due)) StillDue OfSheet in
    let none = bad_at_none (lowest_row s.rows (in_state s.rows Due)) StillDue OfSheet
    (passes (phase_check s Undoing ∷ ticket_check s t ∷ still ∷ []) h).1.1.0 in
    let low = numbered s o k Due refl due in
    both_ways (in_state s.rows Due k)
    (first_below_none (s.rows.count + 1) (in_state s.rows Due) none k (omega arith))
    (eq_same_state (s.rows.state k) Due due)
