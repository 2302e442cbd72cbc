-- Digits add up, up to the greatest number of the type. Assumes nothing.
use Rattle.std.proofs.Common.{◌≡◌, ℕ, ◌+◌, ◌-◌, ◌*◌, min, List, [], ◌∷◌, fold, arith}
use Rattle.journal.specs.Text.{value}

-- one digit more, where m is the greatest number
abbrev pub more : ℕ → ℕ → ℕ → ℕ
more m n b = min (min (n * 10) m + (b - 48)) m

-- n stands for the value v: it is v, or the greatest number if v is above
adds_up : (m : ℕ) (ds : List ℕ) (n v : ℕ) → n ≡ min v m → fold (more m) n ds ≡ min (fold (λ v b. 10 * v + (b - 48)) v ds) m
adds_up m [] n v h = h
adds_up m (d ∷ ds) n v h = adds_up m ds (more m n d) (10 * v + (d - 48)) (omega arith)

pub saturated : (m : ℕ) (ds : List ℕ) → fold (more m) 0 ds ≡ min (value ds) m
saturated m ds = adds_up m ds 0 0 (omega arith)
