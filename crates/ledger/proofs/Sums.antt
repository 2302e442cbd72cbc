-- Sums over the rows: what one changed row does to them. Assumes nothing.
use Rattle.std.proofs.Common.{◌≡◌, ℕ, zero, suc, ◌<◌, ◌≤◌, ℤ, pos, ◌+ℤ◌, ◌≤ℤ◌, refl, ap, ap₂, ⊎_elim, arith}
use Rattle.std.proofs.lemmas.Bool.Decides.{eqb_tells}
use Rattle.std.proofs.lemmas.Int.{ints}
use Rattle.host.specs.Keys.{RowKey}
use Rattle.ledger.specs.Fees.{sum_rows}

module _ (f g : RowKey → ℤ) (row : RowKey) (same : (k : RowKey) → (k ≡ row → ⊥) → g k ≡ f k) where
  -- a sum that does not come to the changed row is the same
  pub sum_same : (n : ℕ) → n < row → sum_rows n g ≡ sum_rows n f
  unfolding sum_rows
  sum_same zero h = refl
  sum_same (suc n) h =
      let less : n < row = omega arith in
      let other : suc n ≡ row → ⊥ = λ e. omega arith in
      ap₂ ◌+ℤ◌ (sum_same n less) (same (suc n) other)

  -- a sum that has the changed row differs by its change
  pub sum_put : (n : ℕ) → 0 < row → row ≤ n → sum_rows n g +ℤ f row ≡ sum_rows n f +ℤ g row
  unfolding sum_rows
  sum_put zero p h = absurd (omega arith)
  sum_put (suc n) p h =
      ⊎_elim
      (λ e.
      let less : n < row = omega (arith, e.1) in
      let below = sum_same n less in
      let old : f (suc n) ≡ f row = ap f e.1 in
      let new : g (suc n) ≡ g row = ap g e.1 in
      omega (arith, ints))
      (λ e.
      let other : suc n ≡ row → ⊥ = e.1 in
      let within : row ≤ n = omega arith in
      let ih = sum_put n p within in
      let here = same (suc n) other in
      omega (arith, ints))
      (eqb_tells (suc n) row)

-- a sum of what is never negative is not negative
pub sum_low : (f : RowKey → ℤ) → ((k : RowKey) → pos 0 ≤ℤ f k) → (n : ℕ) → pos 0 ≤ℤ sum_rows n f
unfolding sum_rows
sum_low f low zero = omega (arith, ints)
sum_low f low (suc n) = let ih = sum_low f low n in let here = low (suc n) in omega (arith, ints)

-- a sum of nothing
pub sum_none : (f : RowKey → ℤ) → ((k : RowKey) → f k ≡ pos 0) → (n : ℕ) → sum_rows n f ≡ pos 0
unfolding sum_rows
sum_none f none zero = refl
sum_none f none (suc n) = ap₂ ◌+ℤ◌ (sum_none f none n) (none (suc n))
