-- A list searched from its front. Assumes nothing.
use Rattle.std.proofs.Common.{◌≡◌, ℕ, zero, suc, ◌+◌, ◌<◌, Bool, true, ◌&&◌, ◌||◌, false, List, [], ◌∷◌, ◌++◌, length, get_or, take, filter, sym, refl, ap, ◌∙◌, inl, inr, arith}
use Rattle.std.proofs.lemmas.Bool.{cases_eq, eq-eqb, ne_eqb, or_left, or_right}
use Rattle.std.proofs.lemmas.List.{take_more}
use Rattle.std.proofs.Math.Bool.{or_comm, or_assoc}
use Rattle.model.specs.Search.{any, has}

-- one that passes
pub any_found : {X : Type 0} (p : X → Bool) (xs : List X) (i : ℕ) (d : X) → i < length xs → p (get_or xs i d) ≡ true
    → any p xs ≡ true
any_found p [] i d h q = absurd (omega arith)
any_found p (x ∷ xs) zero d h q = or_left (p x) (any p xs) q
any_found p (x ∷ xs) (suc i) d h q = or_right (p x) (any p xs) (any_found p xs i d (omega arith) q)

-- those that pass a test
pub has_kept : (p : ℕ → Bool) (k : ℕ) (xs : List ℕ) → has k (filter p xs) ≡ (has k xs && p k)
has_kept p k [] = refl
has_kept p k (x ∷ xs) =
    let rest = has_kept p k xs in
    elim (cases_eq k x) [
      | inl e ↦ let same = ap p e in let met = eq-eqb k x e in grind arith
      | inr n ↦ let not_met = ne_eqb k x n in grind arith
    ]

-- one element more
any_push : (p : ℕ → Bool) (xs : List ℕ) (x : ℕ) → any p (xs ++ x ∷ []) ≡ (any p xs || p x)
any_push p [] x = or_comm (p x) false
any_push p (y ∷ ys) x = ap (λ b. p y || b) (any_push p ys x) ∙ sym (or_assoc (p y) (any p ys) (p x))

pub any_more : (p : ℕ → Bool) (xs : List ℕ) (i : ℕ) → i < length xs
    → any p (take (i + 1) xs) ≡ (any p (take i xs) || p (get_or xs i 0))
any_more p xs i h = ap (any p) (take_more xs i 0 h) ∙ any_push p (take i xs) (get_or xs i 0)
