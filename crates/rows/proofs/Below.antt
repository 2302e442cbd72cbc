-- Searches among the numbers below another: what they find where it is known. Assumes nothing.
use Rattle.std.proofs.Common.{◌≡◌, ℕ, zero, suc, ◌<◌, Bool, true, false, cond, Some, None, sym, refl, ap, ◌∙◌, ap₂, inl, inr, arith}
use Rattle.std.specs.Option.{option_or}
use Rattle.std.proofs.lemmas.Bool.{cases_eq, or_from}
use Rattle.model.specs.Search.{any_below, first_below}

-- none passes
pub any_below_none : (n : ℕ) (p : ℕ → Bool) → ((k : ℕ) → k < n → p k ≡ false) → any_below n p ≡ false
any_below_none zero p none = refl
any_below_none (suc n) p none =
    or_from (any_below n p) (p n) (any_below_none n p (λ k l. none k (omega arith))) (none n (omega arith))

pub first_none : (n : ℕ) (p : ℕ → Bool) → ((k : ℕ) → k < n → p k ≡ false) → first_below n p ≡ None
first_none zero p none = refl
first_none (suc n) p none =
    ap₂ (λ o b. option_or o (cond b (Some n) None)) (first_none n p (λ k l. none k (omega arith))) (none n (omega arith))

-- k passes, and none below it
pub first_is : (n : ℕ) (p : ℕ → Bool) (k : ℕ) → k < n → p k ≡ true → ((j : ℕ) → j < k → p j ≡ false)
    → first_below n p ≡ Some k
first_is zero p k l t none = absurd (omega arith)
first_is (suc n) p k l t none =
    elim (cases_eq k n) [
      | inl e ↦
          ap₂ (λ o b. option_or o (cond b (Some n) None)) (first_none n p (λ j h. none j (omega arith))) (ap p (sym e) ∙ t)
          ∙ ap Some (sym e)
      | inr ne ↦ ap (λ o. option_or o (cond (p n) (Some n) None)) (first_is n p k (omega arith) t none)
    ]
