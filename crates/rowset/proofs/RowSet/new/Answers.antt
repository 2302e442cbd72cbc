use Rattle.std.proofs.Common.{◌≡◌, ℕ, zero, suc, ◌-◌, ◌/◌, ◌%◌, not, eqb, [], ◌∷◌, get_or, refl, ap, ◌∙◌}
use Rattle.std.specs.Int.{bit_at}
use Rattle.std.proofs.lemmas.Bool.{and_right}
use Rattle.std.proofs.lemmas.Nat.Bits.{bit_at-zero}
use Rattle.rowset.specs.Members.{is_set}
use Rattle.rowset.proofs.RowSet.new.Goals as goal

word_zero : (i : ℕ) → ◌≡◌ {A = ℕ} (get_or (0 ∷ 0 ∷ 0 ∷ 0 ∷ []) i 0) 0
word_zero zero = refl
word_zero (suc zero) = refl
word_zero (suc (suc zero)) = refl
word_zero (suc (suc (suc zero))) = refl
word_zero (suc (suc (suc (suc i)))) = refl

pub returns : goal.returns
unfolding is_set
returns c = λ k.
    let p = k - 1 in
    and_right (not (eqb k 0)) _
    (ap (λ x. eqb (bit_at x (p % 64)) 1) (word_zero (p / 64)) ∙ ap (λ x. eqb x 1) (bit_at-zero (p % 64)))
