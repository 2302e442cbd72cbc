-- Without lines nothing is due and nothing stands.
use Rattle.std.proofs.Common.{◌≡◌, ◌+ℤ◌, ◌≤ℤ◌, true, false, length, pos, is_some, sym, refl, ap, ◌∙◌, subst, arith}
use Rattle.std.proofs.lemmas.Int.{ints}
use Rattle.host.specs.Known.{known_by}
use Rattle.host.specs.Keys.{RowKey, is_row, rows_most}
use Rattle.ledger.specs.Fees.{posted, standing_sum, reserved}
use Rattle.ledger.specs.Lines.{last_of, last_place, begun_in, kept_by, fees}
use Rattle.ledger.proofs.Sums.{sum_none}
use Rattle.ledger.proofs.book.Ledger.new.Goals as goal

pub invariant_of-result : goal.invariant_of-result
invariant_of-result c =
    let none = sum_none (λ _. pos 0) (λ _. refl) rows_most in
    let empty = sym c.new.ensures.used in
    let zero : length c.new.result.used ≡ 0 = ap length c.new.ensures.used in
    record {
      within = omega (arith, zero);
      counted = ap begun_in empty;
      placed = λ n. c.new-2.ensures n ∙ ap (λ xs. last_place xs n) empty;
      few = omega arith;
      fees = subst (λ xs. fees xs ≡ true) empty refl;
      rows = subst (λ xs. (n : RowKey) → is_row n ≡ false → is_some (last_of xs n) ≡ false) empty (λ _ _. refl);
      reserve = subst (λ xs. (pos (length xs) +ℤ reserved xs) ≤ℤ pos 0) empty (omega (arith, ints, none));
      balanced = subst (λ xs. posted xs ≡ standing_sum (known_by (kept_by 0 xs))) empty (sym none);
    }
