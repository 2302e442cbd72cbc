-- The computed backward part and struck set are those of the rules, and an abort makes of each row what they say.
-- Assumes nothing.
use Rattle.std.proofs.Common.{◌≡◌, ℕ, ◌+◌, ◌≤◌, Bool, true, false, cond, not, ◌&&◌, ◌||◌, eqb, ◌⊎◌, List, [], ◌∷◌, None, Decides, filter, sym, refl, ap, ◌∙◌, inl, inr, arith}
use Rattle.std.proofs.lemmas.Bool.{or_cases, or_left, or_right, and_parts, and_from, not-true, not_from_false, cases_eq, eq-eqb, ne_eqb}
use Rattle.std.proofs.lemmas.Bool.Decides.{nat_tests}
use Rattle.values.specs.Numbers.{same_state}
use Rattle.values.specs.declared.Mode.{Mode}
use Rattle.values.specs.declared.Mode.TheVariants.{Complete, Partial}
use Rattle.values.specs.declared.Phase.TheVariants.{Forward}
use Rattle.values.specs.declared.RowState.{RowState}
use Rattle.values.specs.declared.RowState.TheVariants.{Running, Committed, Due, Undone, PassedOver}
use Rattle.host.specs.View.{View}
use Rattle.model.specs.Search.{has}
use Rattle.model.specs.Chart.{Chart}
use Rattle.model.specs.Rows.{Rows, live, idle, in_state, is_savepoint}
use Rattle.model.specs.Rollback.{After, next, further, after, uncut, backward, strikes, fallen}
use Rattle.model.specs.Sheet.{Sheet}
use Rattle.model.specs.Calls.{abort_fault}
use Rattle.model.specs.Relations.{Backward, near, far, StruckSet}
use Rattle.model.specs.Sheets.{Lower, Orderly, StruckIsStruck, AbortFalls}
use Rattle.model.proofs.Accepted.{abort_forward}
use Rattle.model.proofs.Basics.{same_state_eq, eq_same_state}
use Rattle.model.proofs.Order.{follower_numbered, after_found}
use Rattle.model.proofs.Reach.{sound, sound_from, complete_from, joined}

-- ── the backward part ──

has_kept : (p : ℕ → Bool) (k : ℕ) (xs : List ℕ) → has k (filter p xs) ≡ (has k xs && p k)
has_kept p k [] = refl
has_kept p k (x ∷ xs) =
    let rest = has_kept p k xs in
    elim (cases_eq k x) [
      | inl e ↦ let same = ap p e in let met = eq-eqb k x e in grind arith
      | inr n ↦ let not_met = ne_eqb k x n in grind arith
    ]

module _ (c : Chart) (r : Rows) where
  uncut_out : (u v : ℕ) → has u (uncut c r v) ≡ true → (has u (r.preds v) ≡ true) × (is_savepoint c r u ≡ false)
  uncut_out u v h =
      let e = sym (has_kept (λ w. not (is_savepoint c r w)) u (r.preds v)) ∙ h in
      let (m, q) = and_parts (has u (r.preds v)) (not (is_savepoint c r u)) e in
      (m, not-true (is_savepoint c r u) q)

  uncut_in : (u v : ℕ) → has u (r.preds v) ≡ true → is_savepoint c r u ≡ false → has u (uncut c r v) ≡ true
  uncut_in u v m q =
      has_kept (λ w. not (is_savepoint c r w)) u (r.preds v)
      ∙ and_from (has u (r.preds v)) (not (is_savepoint c r u)) m (not_from_false (is_savepoint c r u) q)

  -- one more arrow at the failing row's end
  nearer : {f x u : ℕ} → has x (r.preds f) ≡ true → is_savepoint c r x ≡ false → Backward c r x u → Backward c r f u
  nearer m q (near k h) = far (near m q) k h
  nearer m q (far b k h) = far (nearer m q b) k h

  to_backward : {u f : ℕ} → After (uncut c r) u f → Backward c r f u
  to_backward {u} {f} (next m) = let (k, q) = uncut_out u f m in near k q
  to_backward {u} {f} (further {w = x} p m) = let (k, q) = uncut_out x f m in nearer k q (to_backward p)

  from_backward : {f u : ℕ} → Backward c r f u → After (uncut c r) u f
  from_backward {f} (near {u = u} m q) = next (uncut_in u f m q)
  from_backward (far {x = x} {u = u} b m q) = joined (uncut c r) (next (uncut_in u x m q)) (from_backward b)

  -- a row that has a backward part has a predecessor
  some_pred : {f u : ℕ} → Backward c r f u → (w : ℕ) × (has w (r.preds f) ≡ true)
  some_pred (near {u = u} m q) = (u, m)
  some_pred (far b m q) = some_pred b

-- for every row f, whatever its state
pub backward_is : (c : Chart) (s : Sheet) → Orderly s → (f u : ℕ)
    → Decides (backward c s.rows f u) (Backward c s.rows f u)
backward_is c s o f u = (
  (λ h. to_backward c s.rows (sound_from (uncut c s.rows) u s.rows.count f h)),
  (λ b. let (w, m) = some_pred c s.rows b in
      complete_from (uncut c s.rows) low u s.rows.count f (follower_numbered s o f w m)
      (from_backward c s.rows b)),
)
  where
    low : Lower (uncut c s.rows)
    low v w m = o.lower v w (uncut_out c s.rows w v m).0

-- ── the struck set ──

module _ (c : Chart) (s : Sheet) (o : Orderly s) (f : ℕ) (running : s.rows.state f ≡ Running) where
  abbrev r : Rows
  r = s.rows

  abbrev part : ℕ → Bool
  part = backward c r f

  abbrev Struck : ℕ → Type 0
  Struck u = strikes c r (Partial f) u ≡ true

  -- predecessors of a live row are committed, and so live in turn
  committed : {u : ℕ} → Backward c r f u → r.state u ≡ Committed
  committed (near {u = u} m q) = o.committed f u (ap live running) m
  committed (far {x = x} {u = u} b m q) = o.committed x u (ap live (committed b)) m

  struck_if : (u : ℕ) → r.state u ≡ Committed → (part u || after r part u) ≡ true → Struck u
  struck_if u h e = and_from (in_state r Committed u) (part u || after r part u) (eq_same_state _ _ h) e

  struck_part : (u : ℕ) → Backward c r f u → Struck u
  struck_part u b = struck_if u (committed b) (or_left (part u) (after r part u) ((backward_is c s o f u).1 b))

  struck_later : (x v : ℕ) → Backward c r f x → After r.preds x v → r.state v ≡ Committed → Struck v
  struck_later x v b p h =
      struck_if v h (or_right (part v) (after r part v) (after_found s o part x v ((backward_is c s o f x).1 b) p))

  -- a struck row is in the backward part, or after a row of it
  from_struck : (u : ℕ) → Struck u
      → Backward c r f u ⊎ ((x : ℕ) × Backward c r f x × After r.preds x u × (r.state u ≡ Committed))
  from_struck u h =
      let (st, e) = and_parts (in_state r Committed u) (part u || after r part u) h in
      elim (or_cases (part u) (after r part u) e) [
        | inl a ↦ inl ((backward_is c s o f u).0 a)
        | inr b ↦
            let (x, q, p) = sound r.preds part r.count u b in
            inr (x, (backward_is c s o f x).0 q, p, same_state_eq _ _ st)
      ]

  struck_set : StruckSet c r f (strikes c r (Partial f))
  struck_set = record {
    closed = record {
      has_part = struck_part;
      has_later = λ u v h p e. elim (from_struck u h) [
        | inl b ↦ struck_later u v b p e
        | inr t ↦ struck_later t.0 v t.1 (joined r.preds t.2 p) e
      ];
    };
    least = λ R k u h. elim (from_struck u h) [
      | inl b ↦ k.has_part u b
      | inr t ↦ k.has_later t.0 u (k.has_part t.0 t.1) t.2 t.3
    ];
  }

pub struck_is_struck : (c : Chart) (s : Sheet) → Orderly s → StruckIsStruck c s
struck_is_struck c s o = record {
  part = λ f u _. backward_is c s o f u;
  set = λ f running. struck_set c s o f running;
}

-- ── what becomes of each row ──

passed_over : (st : RowState) (t i : Bool) → t ≡ true → st ≡ Committed → Decides i (fallen st t i ≡ PassedOver)
passed_over st t i a b = ((λ e. grind arith), λ e. grind arith)

falls_due : (st : RowState) (t i : Bool) → t ≡ true → st ≡ Committed → i ≡ false → fallen st t i ≡ Due
falls_due st t i a b e = grind arith

stays : (st : RowState) (t i : Bool) → t ≡ false → (st ≡ Running → ⊥) → fallen st t i ≡ st
stays st t i a n = grind arith

-- a row that rollback n dropped or struck, n ≤ b, is in the graph of rollback b + 1 exactly if it is due after it
now_due : (st : RowState) (t i : Bool) (n b : ℕ) → (t ≡ true → st ≡ Committed) → (st ≡ Due → ⊥) → n ≤ b
    → Decides (eqb (cond (same_state st Running || t) (b + 1) n) (b + 1)
    && (same_state (fallen st t i) Due || same_state (fallen st t i) Undone)) (fallen st t i ≡ Due)
now_due st t i n b c d l = ((λ h. grind (arith, nat_tests)), λ h. grind (arith, nat_tests))

pub struck_committed : (c : Chart) (r : Rows) (m : Mode) (k : ℕ) → strikes c r m k ≡ true → r.state k ≡ Committed
struck_committed c r Complete k h = same_state_eq _ _ h
struck_committed c r (Partial f) k h =
    same_state_eq _ _ (and_parts (in_state r Committed k) (backward c r f k || after r (backward c r f) k) h).0

pub abort_falls : (c : Chart) (s : Sheet) (v : View) (m : Mode) (column line : ℕ) → Orderly s
    → abort_fault s v m column line ≡ None → AbortFalls c s m
abort_falls c s v m column line o h = record {
  struck = was;
  passed = λ k t. passed_over (r.state k) (strikes c r m k) (idle c r k) t (was k t);
  due = λ k t e. falls_due (r.state k) (strikes c r m k) (idle c r k) t (was k t) e;
  dropped = λ k e. ap (λ x. fallen x (strikes c r m k) (idle c r k)) e;
  others = λ k t n. stays (r.state k) (strikes c r m k) (idle c r k) t n;
  graph = λ k. now_due (r.state k) (strikes c r m k) (idle c r k) (s.rolled k) s.rollback (was k)
      (o.none_due forward k) (o.past k);
}
  where
    r : Rows
    r = s.rows

    was : (k : ℕ) → strikes c r m k ≡ true → r.state k ≡ Committed
    was = struck_committed c r m

    forward : s.phase ≡ Forward
    forward = abort_forward s v m column line h
