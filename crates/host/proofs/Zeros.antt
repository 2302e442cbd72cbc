-- A list of zeros, read. Assumes nothing.
use Rattle.std.proofs.Common.{◌≡◌, ℕ, zero, suc, get_or, replicate, refl}

pub zero_at : (m n : ℕ) → ◌≡◌ {A = ℕ} (get_or (replicate m 0) n 0) 0
zero_at zero n = refl
zero_at (suc m) zero = refl
zero_at (suc m) (suc n) = zero_at m n
