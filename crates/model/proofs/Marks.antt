-- A start, an end, an undo and a change of phase keep a sheet orderly. Assumes nothing.
use Rattle.std.proofs.Common.{◌≡◌, ℕ, ◌+◌, ◌<◌, ◌≤◌, Bool, true, false, cond, eqb, List, [], refl, ap, ◌∙◌, subst, arith}
use borrow.Author.Tests.{clash}
use Rattle.std.proofs.lemmas.Bool.{cond_both, eqb-true, eqb-false}
use Rattle.values.specs.Numbers.{same_state}
use Rattle.values.specs.declared.Entry.{Entry}
use Rattle.values.specs.declared.Phase.{Phase}
use Rattle.values.specs.declared.Phase.TheVariants.{Forward}
use Rattle.values.specs.declared.RowState.{RowState}
use Rattle.values.specs.declared.RowState.TheVariants.{Absent, Running, Committed, Due, Undone}
use Rattle.model.specs.Search.{has, at_put}
use Rattle.model.specs.Rows.{Rows, live, marked, added}
use Rattle.model.specs.Rollback.{After, next, further}
use Rattle.model.specs.Sheet.{Sheet, with_rows, with_phase}
use Rattle.model.specs.Sheets.{Lower, Orderly}
use Rattle.model.proofs.Basics.{put_all, put_other}
use Rattle.model.specs.Sheets.{gone}
use Rattle.model.proofs.Fit.{gone_more, Wanes, gone_rises}
use Rattle.model.proofs.Order.{not_both, numbered}

-- what holds of the value put in and of the old value, each where it stands, holds of what the new column has
put_cases : {X : Type 0} (P : X → Type 0) (f : ℕ → X) (k : ℕ) (x : X) (j : ℕ)
    → (j ≡ k → P x) → ((j ≡ k → ⊥) → P (f j)) → P (at_put f k x j)
put_cases P f k x j here there =
    cond_both (eqb j k) x (f j) P (λ e. here (eqb-true j k e)) (λ e. there (eqb-false j k e))

-- ── start ──

module _ (s : Sheet) (k : ℕ) (fs : List ℕ) (e : Entry) (o : Orderly s)
    (fit : (f : ℕ) → has f fs ≡ true → s.rows.state f ≡ Committed) where
  abbrev new : Rows
  new = added s.rows k fs e

  -- a state that the new row is not in is an old row's
  old_state : (j : ℕ) (st : RowState) → same_state Running st ≡ false → new.state j ≡ st → s.rows.state j ≡ st
  old_state j st n =
      put_cases (λ x. x ≡ st → s.rows.state j ≡ st) s.rows.state (s.rows.count + 1) Running j
      (λ _ h. absurd (not_both Running st n refl h)) (λ _ h. h)

  -- a committed row stays so
  still_committed : (j : ℕ) → s.rows.state j ≡ Committed → new.state j ≡ Committed
  still_committed j h =
      let low = numbered s o j Committed refl h in
      put_other s.rows.state (s.rows.count + 1) Running j (λ e. omega arith) ∙ h

  start_inside : (j : ℕ) → (new.state j ≡ Absent → ⊥) → (1 ≤ j) × (j ≤ new.count)
  start_inside =
      put_all (λ j x. (x ≡ Absent → ⊥) → (1 ≤ j) × (j ≤ new.count)) s.rows.state (s.rows.count + 1) Running
      (λ j h. let (one, low) = o.inside j h in (one, omega arith)) (λ _. (omega arith, omega arith))

  start_present : (j : ℕ) → 1 ≤ j → j ≤ new.count → new.state j ≡ Absent → ⊥
  start_present j one low =
      put_cases (λ x. x ≡ Absent → ⊥) s.rows.state (s.rows.count + 1) Running j
      (λ _. not_both Running Absent refl refl) (λ n. o.present j one (omega arith))

  start_rows_only : (j : ℕ) → new.count < j → new.preds j ≡ []
  start_rows_only j above =
      put_other s.rows.preds (s.rows.count + 1) fs j (λ e. omega arith) ∙ o.rows_only j (omega arith)

  start_lower : Lower new.preds
  start_lower =
      put_all (λ v xs. (w : ℕ) → has w xs ≡ true → w < v) s.rows.preds (s.rows.count + 1) fs o.lower
      (λ w m. let low = numbered s o w Committed refl (fit w m) in omega arith)

  start_committed : (v w : ℕ) → live (new.state v) ≡ true → has w (new.preds v) ≡ true → new.state w ≡ Committed
  start_committed v w h m = still_committed w (go (eqb v (s.rows.count + 1)) h m)
    where
      go : (t : Bool) → live (cond t Running (s.rows.state v)) ≡ true → has w (cond t fs (s.rows.preds v)) ≡ true
          → s.rows.state w ≡ Committed
      go true a b = fit w b
      go false a b = o.committed v w a b

  -- an arrow to an old row is an old arrow, and so is a path
  old_arrow : (v w : ℕ) → v ≤ s.rows.count → has w (new.preds v) ≡ true → has w (s.rows.preds v) ≡ true
  old_arrow v w low =
      put_cases (λ xs. has w xs ≡ true → has w (s.rows.preds v) ≡ true) s.rows.preds (s.rows.count + 1) fs v
      (λ e. absurd (omega arith)) (λ _ m. m)

  old_path : {u v : ℕ} → v ≤ s.rows.count → After new.preds u v → After s.rows.preds u v
  old_path {u} {v} low (next m) = next (old_arrow v u low m)
  old_path {u} {v} low (further {w = w} p m) =
      let a = old_arrow v w low m in
      let b = o.lower v w a in
      further (old_path (omega arith) p) a

  start_in_order : (u v : ℕ) → After new.preds u v → new.state u ≡ Undone → new.state v ≡ Due → ⊥
  start_in_order u v p undone due =
      let now = old_state v Due refl due in
      o.in_order u v (old_path (numbered s o v Due refl now).1 p) (old_state u Undone refl undone) now

  pub start_orderly : s.rows.count < 256 → Orderly (with_rows s new)
  start_orderly room = record {
    inside = start_inside;
    present = start_present;
    rows_only = start_rows_only;
    lower = start_lower;
    committed = start_committed;
    none_due = λ z j h. o.none_due z j (old_state j Due refl h);
    in_order = start_in_order;
    due_now = λ j h. o.due_now j (old_state j Due refl h);
    past = o.past;
    few_rows = omega arith;
    few_rollbacks = let few = o.few_rollbacks in omega arith;
  }

  start_wanes : Wanes s.rows.state new.state s.rows.count
  start_wanes j low =
      put_cases (λ x. live x ≡ true → live (s.rows.state j) ≡ true) s.rows.state (s.rows.count + 1) Running j
      (λ e. absurd (omega arith)) (λ _ a. a)

  pub start_spent : s.rollback ≤ gone s.rows.state s.rows.count → s.rollback ≤ gone new.state new.count
  start_spent h =
      let rises = gone_rises s.rows.state new.state s.rows.count start_wanes in
      let more = gone_more new.state s.rows.count in
      omega arith

-- ── end and undo ──

-- a row's state may turn so
pub record Turn (old new : RowState) : Type 0 where
  pub was_row : same_state old Absent ≡ false
  pub is_row : same_state new Absent ≡ false
  pub was_uncommitted : same_state old Committed ≡ false
  pub is_not_due : same_state new Due ≡ false
  pub was_live : live new ≡ true → live old ≡ true

pub ending : Turn Running Committed
ending = record { was_row = refl; is_row = refl; was_uncommitted = refl; is_not_due = refl; was_live = λ _. refl }

pub undoing : Turn Due Undone
undoing = record {
  was_row = refl;
  is_row = refl;
  was_uncommitted = refl;
  is_not_due = refl;
  was_live = λ h. absurd (clash h);
}

module _ (s : Sheet) (k : ℕ) (old new : RowState) (o : Orderly s) (turn : Turn old new)
    (was : s.rows.state k ≡ old) where
  abbrev turned : ℕ → RowState
  turned = at_put s.rows.state k new

  mark_inside : (j : ℕ) → (turned j ≡ Absent → ⊥) → (1 ≤ j) × (j ≤ s.rows.count)
  mark_inside =
      put_all (λ j x. (x ≡ Absent → ⊥) → (1 ≤ j) × (j ≤ s.rows.count)) s.rows.state k new
      o.inside (λ _. numbered s o k old turn.was_row was)

  mark_present : (j : ℕ) → 1 ≤ j → j ≤ s.rows.count → turned j ≡ Absent → ⊥
  mark_present =
      put_all (λ j x. 1 ≤ j → j ≤ s.rows.count → x ≡ Absent → ⊥) s.rows.state k new
      o.present (λ _ _. not_both new Absent turn.is_row refl)

  mark_wanes : (j : ℕ) → live (turned j) ≡ true → live (s.rows.state j) ≡ true
  mark_wanes =
      put_all (λ j x. live x ≡ true → live (s.rows.state j) ≡ true) s.rows.state k new
      (λ _ a. a) (λ a. ap live was ∙ turn.was_live a)

  mark_due : (j : ℕ) → turned j ≡ Due → s.rows.state j ≡ Due
  mark_due =
      put_all (λ j x. x ≡ Due → s.rows.state j ≡ Due) s.rows.state k new
      (λ _ h. h) (λ h. absurd (not_both new Due turn.is_not_due refl h))

  mark_committed : (v w : ℕ) → live (turned v) ≡ true → has w (s.rows.preds v) ≡ true → turned w ≡ Committed
  mark_committed v w a m = stays w (o.committed v w (mark_wanes v a) m)
    where
      stays : (j : ℕ) → s.rows.state j ≡ Committed → turned j ≡ Committed
      stays = put_all (λ j x. s.rows.state j ≡ Committed → x ≡ Committed) s.rows.state k new
          (λ _ h. h) (λ h. absurd (not_both old Committed turn.was_uncommitted was h))

  -- a row that turns undone has no due row after it
  abbrev pub Free : Type 0
  Free = new ≡ Undone → (v : ℕ) → After s.rows.preds k v → s.rows.state v ≡ Due → ⊥

  mark_in_order : Free → (u v : ℕ) → After s.rows.preds u v → turned u ≡ Undone → turned v ≡ Due → ⊥
  mark_in_order free u v p undone due =
      let was_due = mark_due v due in
      put_cases (λ x. x ≡ Undone → ⊥) s.rows.state k new u
      (λ e h. free h v (subst (λ j. After s.rows.preds j v) e p) was_due)
      (λ _ h. o.in_order u v p h was_due) undone

  pub mark_orderly : Free → Orderly (with_rows s (marked s.rows k new))
  mark_orderly free = record {
    inside = mark_inside;
    present = mark_present;
    rows_only = o.rows_only;
    lower = o.lower;
    committed = mark_committed;
    none_due = λ z j h. o.none_due z j (mark_due j h);
    in_order = mark_in_order free;
    due_now = λ j h. o.due_now j (mark_due j h);
    past = o.past;
    few_rows = o.few_rows;
    few_rollbacks = o.few_rollbacks;
  }

  pub mark_spent : s.rollback ≤ gone s.rows.state s.rows.count → s.rollback ≤ gone turned s.rows.count
  mark_spent h =
      let rises = gone_rises s.rows.state turned s.rows.count (λ j _. mark_wanes j) in
      omega arith

-- ── finish, park and resume ──

pub phase_orderly : (s : Sheet) (p : Phase) → Orderly s → (p ≡ Forward → (k : ℕ) → s.rows.state k ≡ Due → ⊥)
    → Orderly (with_phase s p)
phase_orderly s p o free = record {
  inside = o.inside;
  present = o.present;
  rows_only = o.rows_only;
  lower = o.lower;
  committed = o.committed;
  none_due = free;
  in_order = o.in_order;
  due_now = o.due_now;
  past = o.past;
  few_rows = o.few_rows;
  few_rollbacks = o.few_rollbacks;
}
