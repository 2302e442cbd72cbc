-- The highest rows, where a row is added. Assumes nothing.
use Rattle.std.proofs.Common.{◌≡◌, ℕ, zero, suc, ◌+◌, ◌<◌, ◌≤◌, true, false, not, ◌&&◌, ◌||◌, eqb, leb, ltb, List, [], length, add-one, refl, sym, ap, ap₂, ◌∙◌, inl, inr, arith}
use borrow.Author.Tests.{clash}
use Rattle.std.proofs.lemmas.Bool.{and_from, and_left, and_parts, cases_eq, cases_lt, eq-eqb, ne_eqb, leb-true, le-ltb, lt-ltb, not-true}
use Rattle.std.proofs.lemmas.Bool.Decides.{nat_tests}
use Rattle.model.specs.Rows.{Rows}
use Rattle.model.specs.Search.{at_put}
use Rattle.model.proofs.Basics.{any_below_in, put_same, put_other}
use Rattle.rowset.specs.declared.RowSet.{RowSet}
use Rattle.rowset.specs.Members.{is_number, contains}
use Rattle.rowset.proofs.Members.{within_numbers}
use Rattle.rows.specs.declared.row.Row.{Row}
use Rattle.rows.specs.Columns.{columns, steps_of}
use Rattle.rows.specs.Highest.{has_higher, is_highest, HasHighest}
use Rattle.rows.proofs.Below.{any_below_none}

-- among the rows that were there
same_higher : (step : ℕ → ℕ) (row s n k : ℕ) → n ≤ row → (k ≡ row → ⊥) → has_higher (at_put step row s) n k ≡ has_higher step n k
same_higher step row s zero k low ne = refl
same_higher step row s (suc n) k low ne =
    ap₂ ◌||◌ (same_higher step row s n k (omega arith) ne)
    (ap₂ (λ a b. ltb k n && eqb a b) (put_other step row s n (λ e. omega arith)) (put_other step row s k ne))

-- with the new row, for another
with_new : (step : ℕ → ℕ) (row s k : ℕ) → k < row → has_higher (at_put step row s) (row + 1) k ≡ (has_higher step row k || eqb s (step k))
with_new step row s k low =
    ap (λ n. has_higher (at_put step row s) n k) (add-one row)
    ∙ ap₂ ◌||◌ (same_higher step row s row k (omega arith) (λ e. omega arith))
    (ap (λ b. b && eqb (at_put step row s row) (at_put step row s k)) (lt-ltb k row low)
    ∙ ap₂ eqb (put_same step row s) (put_other step row s k (λ e. omega arith)))

none_higher : (step : ℕ → ℕ) (n k : ℕ) → n ≤ k + 1 → has_higher step n k ≡ false
none_higher step n k high =
    any_below_none n (λ j. ltb k j && eqb (step j) (step k)) (λ j l. and_left _ _ (le-ltb k j (omega arith)))

module _ (rows new : List Row) (s : ℕ) (few : length rows < 256) (long : length new ≡ length rows + 1)
    (steps : steps_of new ≡ at_put (steps_of rows) (length rows + 1) s) where
  abbrev row : ℕ
  row = length rows + 1

  abbrev step : ℕ → ℕ
  step = steps_of rows

  -- the highest rows then, by the steps that were there
  as_added : (k : ℕ) → is_highest (columns new) k ≡ ((leb 1 k && leb k row) && not (has_higher (at_put step row s) (row + 1) k))
  as_added k = ap₂ (λ n (f : ℕ → ℕ). (leb 1 k && leb k n) && not (has_higher f (n + 1) k)) long steps

  pub highest_added : (others now : RowSet)
      → ((k : ℕ) → contains others k ≡ (is_highest (columns rows) k && not (eqb (step k) s)))
      → ((k : ℕ) → contains now k ≡ (contains others k || (eqb k row && is_number k))) → HasHighest now new
  highest_added others now are put k = put k ∙ elim (cases_eq k row) [
    | inl e ↦
        let at = eq-eqb k row e in
        let number = ap is_number e ∙ within_numbers row (omega arith) (omega arith) in
        let none = none_higher (at_put step row s) (row + 1) k (omega arith) in
        let is = as_added k in grind (arith, nat_tests)
    | inr ne ↦ elim (cases_lt k row) [
      | inl low ↦
          let at = ne_eqb k row ne in
          let higher = with_new step row s k low in
          let is = as_added k in
          let was = are k in grind (arith, nat_tests)
      | inr high ↦
          let at = ne_eqb k row ne in
          let is = as_added k in
          let was = are k in grind (arith, nat_tests)
    ]
  ]

pub none_highest : (set : RowSet) (rows : List Row) → rows ≡ [] → ((k : ℕ) → contains set k ≡ false) → HasHighest set rows
none_highest set rows e none k = let size : length rows ≡ 0 = ap length e in none k ∙ (grind (arith, nat_tests))

-- a step has one highest row
higher_than_it : (r : Rows) (a b : ℕ) → is_highest r a ≡ true → is_highest r b ≡ true → r.step b ≡ r.step a → a < b → ⊥
higher_than_it r a b high other same above =
    let (low, last) = and_parts (leb 1 b) (leb b r.count) (and_parts _ _ other).0 in
    let inside : b < r.count + 1 = (let l = leb-true b r.count last in omega arith) in
    let passes = and_from (ltb a b) (eqb (r.step b) (r.step a)) (lt-ltb a b above) (eq-eqb _ _ same) in
    let there = any_below_in (r.count + 1) (λ j. ltb a j && eqb (r.step j) (r.step a)) b inside passes in
    clash (sym (not-true _ (and_parts _ _ high).1) ∙ there)

pub one_highest : (r : Rows) (a b : ℕ) → is_highest r a ≡ true → is_highest r b ≡ true → r.step a ≡ r.step b → a ≡ b
one_highest r a b high other same = elim (cases_eq a b) [
  | inl e ↦ e
  | inr ne ↦ elim (cases_lt a b) [
    | inl l ↦ absurd (higher_than_it r a b high other (sym same) l)
    | inr l ↦ absurd (higher_than_it r b a other high same (omega arith))
  ]
]
