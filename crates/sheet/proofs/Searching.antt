-- Searches among numbers. Assumes nothing.
use Rattle.std.proofs.Common.{◌≡◌, ℕ, zero, suc, ◌<◌, Bool, ◌||◌, refl, ap₂, arith}
use Rattle.model.specs.Search.{any_below}

-- two tests that agree below a number
pub any_below_same : (n : ℕ) (p q : ℕ → Bool) → ((k : ℕ) → k < n → p k ≡ q k) → any_below n p ≡ any_below n q
any_below_same zero p q same = refl
any_below_same (suc n) p q same =
    ap₂ ◌||◌ (any_below_same n p q (λ k l. same k (omega arith))) (same n (omega arith))
