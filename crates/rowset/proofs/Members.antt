-- A set's members, when a bit is written. Assumes nothing.
use Rattle.std.proofs.Common.{◌≡◌, ℕ, ◌+◌, ◌-◌, ◌*◌, ◌/◌, ◌%◌, ◌^◌, ◌<◌, ◌≤◌, Bool, true, false, cond, not, ◌&&◌, ◌||◌, eqb, leb, List, [], length, Some, None, get_or, w64, sym, ap, ap₂, ◌∙◌, inl, inr, arith}
use Rattle.std.specs.Int.{bit_at, trailing_zeros}
use Rattle.std.proofs.lemmas.Bool.Decides.{nat_tests}
use Rattle.std.proofs.lemmas.Bool.{cases_eq, cases_lt, both_ways, and_from, and_parts, and_right, le-leb, ne_eqb}
use Rattle.graph.specs.Reach.{Least}
use Rattle.rowset.specs.Members.{is_set, is_number}
use Rattle.rowset.proofs.Bits.{none_past, zeros, first_in_word, none_before}

module _ (old new : List ℕ) (q number : ℕ) (place : q + 1 ≡ number) (inside : q < 256) where
  pub inserted : ((p : ℕ) → is_set new p ≡ cond (eqb p q) true (is_set old p)) → (k : ℕ)
      → (not (eqb k 0) && is_set new (k - 1)) ≡ ((not (eqb k 0) && is_set old (k - 1)) || (eqb k number && is_number k))
  inserted write k = let w = write (k - 1) in grind (arith, nat_tests)

  pub removed : ((p : ℕ) → is_set new p ≡ cond (eqb p q) false (is_set old p)) → (k : ℕ)
      → (not (eqb k 0) && is_set new (k - 1)) ≡ ((not (eqb k 0) && is_set old (k - 1)) && not (eqb k number))
  removed write k = let w = write (k - 1) in grind (arith, nat_tests)

-- the numbers that a set can have
pub within_numbers : (k : ℕ) → 0 < k → k ≤ 256 → is_number k ≡ true
within_numbers k low high = and_from (leb 1 k) (leb k 256) (le-leb 1 k low) (le-leb k 256 high)

-- a number by the place of its bit
pub member_at : (words : List ℕ) (p number : ℕ) → p + 1 ≡ number → (not (eqb number 0) && is_set words (number - 1)) ≡ is_set words p
member_at words p number e =
    let place : number - 1 ≡ p = omega arith in
    let same = ap (is_set words) place in grind (arith, nat_tests)

-- a number that no set can have
pub outside : (words : List ℕ) → length words ≡ 4 → (k : ℕ) → is_number k ≡ false → (not (eqb k 0) && is_set words (k - 1)) ≡ false
outside words long k none = elim (cases_lt k 257) [
  | inl low ↦ grind (arith, nat_tests)
  | inr high ↦ let e = none_past words (k - 1) (omega arith) in and_right (not (eqb k 0)) _ e
]

-- taking such a number out
pub kept_without : (words : List ℕ) → length words ≡ 4 → (number : ℕ) → is_number number ≡ false → (k : ℕ)
    → (not (eqb k 0) && is_set words (k - 1)) ≡ ((not (eqb k 0) && is_set words (k - 1)) && not (eqb k number))
kept_without words long number none k = elim (cases_eq k number) [
  | inl e ↦ let gone = outside words long k (ap is_number e ∙ none) in grind arith
  | inr ne ↦ let other = ne_eqb k number ne in grind arith
]

-- two sets as one, by their bits
module _ (op : ℕ → ℕ → ℕ) (test : Bool → Bool → Bool) (none : test false false ≡ false)
    (bits : (a b j : ℕ) → eqb (bit_at (op a b) j) 1 ≡ test (eqb (bit_at a j) 1) (eqb (bit_at b j) 1))
    (xs ys zs : List ℕ) (few : length xs ≡ 4) (few' : length ys ≡ 4) (long : length zs ≡ 4)
    (each : (i : ℕ) → i < 4 → get_or zs i 0 ≡ op (get_or xs i 0) (get_or ys i 0)) where
  bit_combined : (p : ℕ) → is_set zs p ≡ test (is_set xs p) (is_set ys p)
  unfolding is_set
  bit_combined p = elim (cases_lt p 256) [
    | inl low ↦
        ap (λ x. eqb (bit_at x (p % 64)) 1) (each (p / 64) (omega arith))
        ∙ bits (get_or xs (p / 64) 0) (get_or ys (p / 64) 0) (p % 64)
    | inr high ↦
        none_past zs p (omega arith) ∙ sym none
        ∙ sym (ap₂ test (none_past xs p (omega arith)) (none_past ys p (omega arith)))
  ]

  pub combined : (k : ℕ) → (not (eqb k 0) && is_set zs (k - 1))
      ≡ test (not (eqb k 0) && is_set xs (k - 1)) (not (eqb k 0) && is_set ys (k - 1))
  combined k = go (eqb k 0)
    where
      go : (b : Bool) → (not b && is_set zs (k - 1)) ≡ test (not b && is_set xs (k - 1)) (not b && is_set ys (k - 1))
      go true = sym none
      go false = bit_combined (k - 1)

-- ── searches ──

module _ (words : List ℕ) (from : ℕ) where
  -- no bit from that place on
  pub no_member : ((p : ℕ) → from ≤ p → is_set words p ≡ false)
      → Least (λ k. (not (eqb k 0) && is_set words (k - 1)) ≡ true) from None
  no_member none = λ k l m. both_ways (is_set words (k - 1)) (none (k - 1) (omega arith)) (and_parts (not (eqb k 0)) _ m).1

  -- none up to bit s of the word w, and then some in this word
  module _ (w s y : ℕ) (inside : s < 64) (fits : get_or words w 0 < 2 ^ 64) (e : y ≡ get_or words w 0 / 2 ^ s) (some : y ≡ 0 → ⊥)
      (below : from ≤ 64 * w + s) (none : (p : ℕ) → from ≤ p → p < 64 * w + s → is_set words p ≡ false) where
    clear : (p : ℕ) → from ≤ p → p < 64 * w + (s + zeros words w s y inside fits e some) → is_set words p ≡ false
    clear p high low = elim (cases_lt p (64 * w + s)) [
      | inl l ↦ none p high l
      | inr h ↦ none_before words w s y inside fits e some p h low
    ]

    pub first_member : (t : ℕ) → t ≡ 64 * w + (s + trailing_zeros w64 y) + 1
        → Least (λ k. (not (eqb k 0) && is_set words (k - 1)) ≡ true) from (Some t)
    first_member t at =
        let p = 64 * w + (s + trailing_zeros w64 y) in (
          omega arith,
          member_at words p t (sym at) ∙ first_in_word words w s y inside fits e some,
          (λ k l u m. both_ways (is_set words (k - 1)) (clear (k - 1) (omega arith) (omega arith)) (and_parts (not (eqb k 0)) _ m).1),
        )

-- ── no words ──

pub none_in_none : (k : ℕ) → (not (eqb k 0) && is_set [] (k - 1)) ≡ false
none_in_none k = and_right (not (eqb k 0)) _ (none_past [] (k - 1) (omega arith))
