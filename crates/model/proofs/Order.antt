-- What follows from the order of a sheet: on its rows, on paths, and on what an abort strikes. Assumes nothing.
use Rattle.std.proofs.Common.{◌≡◌, ℕ, ◌≤◌, Bool, true, false, ◌||◌, eqb, sym, refl, ap, ◌∙◌, inl, inr}
use borrow.Author.Tests.{clash}
use Rattle.std.proofs.lemmas.Bool.{both_ways, cases_lt, and_parts, and_from, or_cases, or_right, eq-eqb}
use Rattle.values.specs.Numbers.{same_state}
use Rattle.values.specs.declared.Mode.{Mode}
use Rattle.values.specs.declared.Mode.TheVariants.{Complete, Partial}
use Rattle.values.specs.declared.RowState.{RowState}
use Rattle.values.specs.declared.RowState.TheVariants.{Absent, Committed}
use Rattle.model.specs.Search.{has}
use Rattle.model.specs.Chart.{Chart}
use Rattle.model.specs.Rows.{live, in_state}
use Rattle.model.specs.Rollback.{After, next, further, after, backward, strikes}
use Rattle.model.specs.Sheet.{Sheet}
use Rattle.model.specs.Sheets.{Orderly, AfterIsAfter}
use Rattle.model.proofs.Basics.{eq_same_state}
use Rattle.model.proofs.Reach.{sound, complete, sound_from}

-- no state is two
pub not_both : (a b : RowState) → same_state a b ≡ false → {x : RowState} → x ≡ a → x ≡ b → ⊥
not_both a b n p q = both_ways (same_state a b) n (eq_same_state a b (sym p ∙ q))

pub committed_live : (st : RowState) → st ≡ Committed → live st ≡ true
committed_live st h = ap live h

module _ (s : Sheet) (o : Orderly s) where
  -- ── rows ──

  -- a row in some state has a number from 1 to the count
  pub numbered : (k : ℕ) (st : RowState) → same_state st Absent ≡ false → s.rows.state k ≡ st
      → (1 ≤ k) × (k ≤ s.rows.count)
  numbered k st n h = o.inside k (not_both st Absent n h)

  pub live_numbered : (k : ℕ) → live (s.rows.state k) ≡ true → (1 ≤ k) × (k ≤ s.rows.count)
  live_numbered k a = o.inside k (λ h. both_ways (live (s.rows.state k)) (ap live h) a)

  -- what has a predecessor is a row
  pub follower_numbered : (v w : ℕ) → has w (s.rows.preds v) ≡ true → v ≤ s.rows.count
  follower_numbered v w m =
      elim (cases_lt s.rows.count v) [
        | inl above ↦ absurd (clash (sym (ap (has w) (o.rows_only v above)) ∙ m))
        | inr low ↦ low
      ]

  -- ── paths ──

  pub after_numbered : {u v : ℕ} → After s.rows.preds u v → v ≤ s.rows.count
  after_numbered {u} {v} (next m) = follower_numbered v u m
  after_numbered {u} {v} (further {w = w} p m) = follower_numbered v w m

  -- all rows before a live one are committed
  pub before_live : {u v : ℕ} → After s.rows.preds u v → live (s.rows.state v) ≡ true
      → s.rows.state u ≡ Committed
  before_live {u} {v} (next m) h = o.committed v u h m
  before_live {u} {v} (further {w = w} p m) h =
      before_live p (committed_live (s.rows.state w) (o.committed v w h m))

  -- a row after one that passes the test is found
  pub after_found : (from : ℕ → Bool) (u v : ℕ) → from u ≡ true → After s.rows.preds u v
      → after s.rows from v ≡ true
  after_found from u v f p = complete s.rows.preds o.lower from u f s.rows.count v (after_numbered p) p

  pub after_is_after : AfterIsAfter s
  after_is_after u v = (
    (λ t. sound_from s.rows.preds u s.rows.count v t),
    (λ p. after_found (eqb u) u v (eq-eqb u u refl) p),
  )

  -- ── what an abort strikes ──

  -- a committed row that follows a struck one by one arrow is struck
  pub struck_next : (c : Chart) (m : Mode) (v w : ℕ) → s.rows.state v ≡ Committed → has w (s.rows.preds v) ≡ true
      → strikes c s.rows m w ≡ true → strikes c s.rows m v ≡ true
  struck_next c Complete v w h q t = eq_same_state (s.rows.state v) Committed h
  struck_next c (Partial f) v w h q t =
      let part : ℕ → Bool = backward c s.rows f in
      let before = (and_parts (in_state s.rows Committed w) (part w || after s.rows part w) t).1 in
      let found : after s.rows part v ≡ true = elim (or_cases (part w) (after s.rows part w) before) [
        | inl b ↦ after_found part w v b (next q)
        | inr b ↦
            let (u, a, p) = sound s.rows.preds part s.rows.count w b in
            after_found part u v a (further p q)
      ] in
      and_from (in_state s.rows Committed v) (part v || after s.rows part v)
      (eq_same_state (s.rows.state v) Committed h) (or_right (part v) (after s.rows part v) found)
