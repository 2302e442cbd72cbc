-- The computed `within` is the relation `After`. Assumes nothing.
use Rattle.std.proofs.Common.{◌≡◌, ℕ, zero, suc, ◌<◌, ◌≤◌, Bool, true, ◌||◌, eqb, List, sym, refl, subst, inl, inr, arith}
use borrow.Author.Tests.{clash}
use Rattle.std.proofs.lemmas.Bool.{or_cases, or_left, or_right, eqb-true, eq-eqb}
use Rattle.model.specs.Rollback.{After, next, further, within}
use Rattle.model.specs.Sheets.{Lower}
use Rattle.model.proofs.Basics.{any_out, any_in}

-- ── from a row that passes a test ──

pub sound : (preds : ℕ → List ℕ) (from : ℕ → Bool) (n v : ℕ) → within preds n from v ≡ true
    → (u : ℕ) × (from u ≡ true) × After preds u v
sound preds from zero v h = absurd (clash h)
sound preds from (suc n) v h =
    let (w, m, q) = any_out (λ w. from w || within preds n from w) (preds v) h in
    elim (or_cases (from w) (within preds n from w) q) [
      | inl a ↦ (w, a, next m)
      | inr b ↦ let (u, f, p) = sound preds from n w b in (u, f, further p m)
    ]

pub complete : (preds : ℕ → List ℕ) → Lower preds → (from : ℕ → Bool) (u : ℕ) → from u ≡ true
    → (n v : ℕ) → v ≤ n → After preds u v → within preds n from v ≡ true
complete preds low from u f zero v l (next m) = let h = low v u m in absurd (omega arith)
complete preds low from u f zero v l (further {w = w} p m) = let h = low v w m in absurd (omega arith)
complete preds low from u f (suc n) v l (next m) =
    any_in (λ w. from w || within preds n from w) (preds v) u m (or_left (from u) (within preds n from u) f)
complete preds low from u f (suc n) v l (further {w = w} p m) =
    any_in (λ x. from x || within preds n from x) (preds v) w m
    (or_right (from w) (within preds n from w) (complete preds low from u f n w (let h = low v w m in omega arith) p))

-- ── from the row u ──

pub sound_from : (preds : ℕ → List ℕ) (u n v : ℕ) → within preds n (eqb u) v ≡ true → After preds u v
sound_from preds u n v h =
    let (x, e, p) = sound preds (eqb u) n v h in
    subst (λ y. After preds y v) (sym (eqb-true u x e)) p

pub complete_from : (preds : ℕ → List ℕ) → Lower preds → (u n v : ℕ) → v ≤ n → After preds u v
    → within preds n (eqb u) v ≡ true
complete_from preds low u n v l p = complete preds low (eqb u) u (eq-eqb u u refl) n v l p

-- ── paths ──

pub after_lower : (preds : ℕ → List ℕ) → Lower preds → {u v : ℕ} → After preds u v → u < v
after_lower preds low {u} {v} (next m) = low v u m
after_lower preds low {u} {v} (further {w = w} p m) =
    let a = after_lower preds low p in
    let b = low v w m in
    omega arith

pub joined : (preds : ℕ → List ℕ) {u w v : ℕ} → After preds u w → After preds w v → After preds u v
joined preds p (next m) = further p m
joined preds p (further q m) = further (joined preds p q) m
