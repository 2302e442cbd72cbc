-- How many rows are no longer live: an abort takes a live one, and none comes back. Assumes nothing.
use Rattle.std.proofs.Common.{◌≡◌, ℕ, zero, suc, ◌+◌, ◌<◌, ◌≤◌, Bool, true, false, cond, sym, ap, ◌∙◌, inl, inr, add-one, arith}
use Rattle.std.proofs.lemmas.Bool.{cases_eq}
use Rattle.values.specs.declared.RowState.{RowState}
use Rattle.model.specs.Rows.{live}
use Rattle.model.specs.Sheets.{gone}

pub gone_le : (st : ℕ → RowState) (n : ℕ) → gone st n ≤ n
gone_le st zero = omega arith
gone_le st (suc n) = let rest = gone_le st n in grind arith

pub gone_more : (st : ℕ → RowState) (n : ℕ) → gone st n ≤ gone st (n + 1)
gone_more st n = rw add-one (omega arith)

-- no row of 1 to n comes back to life
abbrev pub Wanes : (ℕ → RowState) → (ℕ → RowState) → ℕ → Type 0
Wanes old new n = (k : ℕ) → k ≤ n → live (new k) ≡ true → live (old k) ≡ true

one_le : (a b : Bool) → (b ≡ true → a ≡ true) → cond a 0 1 ≤ cond b 0 1
one_le a b h = grind arith

pub gone_rises : (old new : ℕ → RowState) (n : ℕ) → Wanes old new n → gone old n ≤ gone new n
gone_rises old new zero h = omega arith
gone_rises old new (suc n) h =
    let rest = gone_rises old new n (λ k l. h k (omega arith)) in
    let last = one_le (live (old (suc n))) (live (new (suc n))) (h (suc n) (omega arith)) in
    omega arith

-- where a live row is no longer live, more are gone
pub gone_grows : (old new : ℕ → RowState) (n : ℕ) → Wanes old new n
    → (k : ℕ) → 1 ≤ k → k ≤ n → live (old k) ≡ true → live (new k) ≡ false → gone old n < gone new n
gone_grows old new zero h k one low a b = absurd (omega arith)
gone_grows old new (suc n) h k one low a b =
    elim (cases_eq k (suc n)) [
      | inl e ↦
          let rest = gone_rises old new n (λ j l. h j (omega arith)) in
          let was : live (old (suc n)) ≡ true = ap (λ j. live (old j)) (sym e) ∙ a in
          let is : live (new (suc n)) ≡ false = ap (λ j. live (new j)) (sym e) ∙ b in
          grind arith
      | inr e ↦
          let rest = gone_grows old new n (λ j l. h j (omega arith)) k one (omega arith) a b in
          let last = one_le (live (old (suc n))) (live (new (suc n))) (h (suc n) (omega arith)) in
          omega arith
    ]
