-- An array that a closure filled. Assumes nothing.
use Rattle.std.proofs.Common.{◌≡◌, ℕ, zero, suc, ◌+◌, ◌<◌, ◌≤◌, List, get_or, sym, subst, inl, inr, arith}
use denote.Param.Members.{Mut}
use Rattle.std.specs.Array.{IsFromFnResult, IsFromFnResultFrom}
use Rattle.std.specs.Fn.{Called}
use Rattle.std.proofs.lemmas.Bool.{cases_eq}

-- an array filled by calls that leave the closure as it was
pub filled : {F : Type 0} {g : Mut F (ℕ × Unit {0}) ℕ} {f : F} {xs : List ℕ} {n : ℕ} (P : ℕ → ℕ → Type 0)
    → IsFromFnResult g f xs n → ((i y : ℕ) (e : F) → i < n → Called g f (i, tt) y e → (e ≡ f) × P i y)
    → (i : ℕ) → i < n → P i (get_or xs i 0)
filled {F} {g} {f} {xs} {n} P is tells = λ i. go 0 n (omega arith) is.each i (omega arith)
  where
    go : (a m : ℕ) → a + m ≡ n → IsFromFnResultFrom g f xs a m → (i : ℕ) → a ≤ i → i < n → P i (get_or xs i 0)
    go a zero e h i l u = absurd (omega arith)
    go a (suc m) e (q, y, at, called, more) i l u =
        let (same, here) = tells a y q (omega arith) called in
        elim (cases_eq i a) [
          | inl s ↦ subst (λ k. P k (get_or xs k 0)) (sym s) (subst (P a) (sym (at.1 0)) here)
          | inr ne ↦ go (a + 1) m (omega arith) (subst (λ k. IsFromFnResultFrom g k xs (a + 1) m) same more) i (omega arith) u
        ]
