-- Hex digits are read two by two. Assumes nothing.
use Rattle.std.proofs.Common.{◌≡◌, ℕ, suc, ◌/◌, List, [], ◌∷◌, length, get_or, map, refl, ap, ◌∙◌, arith}
use Rattle.std.specs.Simd.{first_chunks}
use Rattle.journal.specs.Text.{pair, paired}

abbrev pub pair_of : List ℕ → ℕ
pair_of ds = pair (get_or ds 0 0) (get_or ds 1 0)

-- a digit left over makes no byte
pub chunks_paired : (ds : List ℕ) → map pair_of (first_chunks 2 (length ds / 2) ds) ≡ paired ds
chunks_paired [] = refl
chunks_paired (a ∷ []) = refl
chunks_paired (a ∷ b ∷ ds) =
    let two : length (a ∷ b ∷ ds) / 2 ≡ suc (length ds / 2) = omega arith in
    ap (λ k. map pair_of (first_chunks 2 k (a ∷ b ∷ ds))) two ∙ ap (λ t. pair a b ∷ t) (chunks_paired ds)
