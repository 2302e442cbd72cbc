-- An abort keeps a sheet orderly, and takes a live row. Assumes nothing.
use Rattle.std.proofs.Common.{◌≡◌, ℕ, ◌+◌, ◌≤◌, Bool, true, false, ◌||◌, None, ap, inl, inr, arith}
use Rattle.std.proofs.lemmas.Bool.{both_ways, cases_Bool, cond-true, cond_both, or_right}
use Rattle.values.specs.Numbers.{same_state}
use Rattle.values.specs.declared.Cause.TheVariants.{NothingLive}
use Rattle.values.specs.declared.Layer.TheVariants.{Sheet as OfSheet}
use Rattle.values.specs.declared.Mode.{Mode}
use Rattle.values.specs.declared.Mode.TheVariants.{Complete, Partial}
use Rattle.values.specs.declared.Phase.TheVariants.{Forward}
use Rattle.values.specs.declared.RowState.{RowState}
use Rattle.values.specs.declared.RowState.TheVariants.{Absent, Running, Committed, Due, Undone}
use Rattle.model.specs.Search.{has}
use Rattle.model.specs.Chart.{Chart}
use Rattle.model.specs.Rows.{Rows, live, any_live, in_state, idle}
use Rattle.model.specs.Rollback.{After, strikes, fallen, fallen_states}
use Rattle.model.specs.Sheet.{Sheet, aborted}
use Rattle.model.specs.Calls.{mode_check}
use Rattle.model.specs.Sheets.{Orderly}
use Rattle.model.proofs.Accepted.{row_passed}
use Rattle.model.proofs.Basics.{passed_test, any_below_out}
use Rattle.model.specs.Sheets.{gone}
use Rattle.model.proofs.Fit.{gone_le, gone_grows}
use Rattle.model.proofs.Order.{committed_live, live_numbered, before_live, struck_next}

-- ── what becomes of one row ──

pub fallen_absent : (st : RowState) (struck idle : Bool) → fallen st struck idle ≡ Absent → st ≡ Absent
fallen_absent st x i h = grind arith

absent_fallen : (st : RowState) (struck idle : Bool) → st ≡ Absent → fallen st struck idle ≡ Absent
absent_fallen st x i h = grind arith

pub fallen_live : (st : RowState) (struck idle : Bool) → live (fallen st struck idle) ≡ true
    → (st ≡ Committed) × (struck ≡ false)
fallen_live st x i h = grind arith

pub fallen_stays : (st : RowState) (struck idle : Bool) → st ≡ Committed → struck ≡ false
    → fallen st struck idle ≡ Committed
fallen_stays st x i h n = grind arith

-- a row that falls due was committed and is struck, unless it was due
pub fallen_due : (st : RowState) (struck idle : Bool) → (st ≡ Due → ⊥) → fallen st struck idle ≡ Due
    → (st ≡ Committed) × (struck ≡ true)
fallen_due st x i n h = grind arith

fallen_undone : (st : RowState) (struck idle : Bool) → fallen st struck idle ≡ Undone → st ≡ Committed → ⊥
fallen_undone st x i h c = grind arith

fallen_running : (st : RowState) (struck idle : Bool) → st ≡ Running → live (fallen st struck idle) ≡ false
fallen_running st x i h = grind arith

all_fall : (st : RowState) (idle : Bool) → live (fallen st (same_state st Committed) idle) ≡ false
all_fall st i = grind arith

-- an accepted abort takes a live row
taken : (c : Chart) (r : Rows) (m : Mode) → mode_check r m ≡ None
    → (k : ℕ) × (live (r.state k) ≡ true) × (live (fallen_states c r m k) ≡ false)
taken c r Complete check =
    let some = passed_test (any_live r) NothingLive OfSheet 0 check in
    let (k, _, a) = any_below_out (r.count + 1) (λ k. live (r.state k)) some in
    (k, a, all_fall (r.state k) (idle c r k))
taken c r (Partial f) check =
    let runs = row_passed r Running f check in
    (f, ap live runs, fallen_running (r.state f) (strikes c r (Partial f) f) (idle c r f) runs)

-- ── what becomes of the sheet ──

module _ (c : Chart) (s : Sheet) (m : Mode) (o : Orderly s) (forward : s.phase ≡ Forward) where
  abbrev now : ℕ → RowState
  now = fallen_states c s.rows m

  abbrev struck : ℕ → Bool
  struck = strikes c s.rows m

  abbrev idles : ℕ → Bool
  idles = idle c s.rows

  -- a row that is due now was committed, and is struck
  pub abort_due : (k : ℕ) → now k ≡ Due → (s.rows.state k ≡ Committed) × (struck k ≡ true)
  abort_due k h = fallen_due (s.rows.state k) (struck k) (idles k) (o.none_due forward k) h

  abort_committed : (v w : ℕ) → live (now v) ≡ true → has w (s.rows.preds v) ≡ true → now w ≡ Committed
  abort_committed v w a q =
      let (h, spared) = fallen_live (s.rows.state v) (struck v) (idles v) a in
      let before = o.committed v w (committed_live (s.rows.state v) h) q in
      fallen_stays (s.rows.state w) (struck w) (idles w) before
      (elim (cases_Bool (struck w)) [
        | inl t ↦ absurd (both_ways (struck v) spared (struck_next s o c m v w h q t))
        | inr t ↦ t
      ])

  abort_in_order : (u v : ℕ) → After s.rows.preds u v → now u ≡ Undone → now v ≡ Due → ⊥
  abort_in_order u v p undone due =
      let live_before = committed_live (s.rows.state v) (abort_due v due).0 in
      fallen_undone (s.rows.state u) (struck u) (idles u) undone (before_live s o p live_before)

  abort_due_now : (k : ℕ) → now k ≡ Due → (aborted c s m).rolled k ≡ s.rollback + 1
  abort_due_now k h =
      let runs = in_state s.rows Running k in
      cond-true (runs || struck k) (s.rollback + 1) (s.rolled k) (or_right runs (struck k) (abort_due k h).1)

  abort_past : (k : ℕ) → (aborted c s m).rolled k ≤ s.rollback + 1
  abort_past k =
      cond_both (in_state s.rows Running k || struck k) (s.rollback + 1) (s.rolled k) (λ n. n ≤ s.rollback + 1)
      (λ _. omega arith) (λ _. let past = o.past k in omega arith)

  abort_wanes : (k : ℕ) → live (now k) ≡ true → live (s.rows.state k) ≡ true
  abort_wanes k a = committed_live (s.rows.state k) (fallen_live (s.rows.state k) (struck k) (idles k) a).0

  pub abort_spent : mode_check s.rows m ≡ None → s.rollback ≤ gone s.rows.state s.rows.count
      → s.rollback + 1 ≤ gone now s.rows.count
  abort_spent check spent =
      let (k, was, is) = taken c s.rows m check in
      let (one, low) = live_numbered s o k was in
      let grows = gone_grows s.rows.state now s.rows.count (λ j _. abort_wanes j) k one low was is in
      omega arith

  pub abort_orderly : mode_check s.rows m ≡ None → s.rollback ≤ gone s.rows.state s.rows.count
      → Orderly (aborted c s m)
  abort_orderly check spent = record {
    inside = λ k h. o.inside k (λ a. h (absent_fallen (s.rows.state k) (struck k) (idles k) a));
    present = λ k one low h. o.present k one low (fallen_absent (s.rows.state k) (struck k) (idles k) h);
    rows_only = o.rows_only;
    lower = o.lower;
    committed = abort_committed;
    none_due = λ z. grind arith;
    in_order = abort_in_order;
    due_now = abort_due_now;
    past = abort_past;
    few_rows = o.few_rows;
    few_rollbacks =
        let fits = gone_le now s.rows.count in
        let takes = abort_spent check spent in
        omega arith;
  }
