-- Bits in words of 64, and a set's members by them. Assumes nothing.
use Rattle.std.proofs.Common.{◌≡◌, ℕ, ◌+◌, ◌-◌, ◌*◌, ◌/◌, ◌%◌, ◌^◌, ◌<◌, ◌≤◌, max, min, true, false, cond, ◌&&◌, ◌||◌, eqb, ◌⊎◌, List, length, get_or, set, bit_and, bit_or, sym, refl, ap, ◌∙◌, inl, inr, arith, w64}
use Rattle.std.specs.Int.{bit_at, trailing_zeros}
use Rattle.std.proofs.lemmas.Bool.{cases_eq, cases_lt, eq-eqb, ne_eqb}
use Rattle.std.proofs.lemmas.Bool.Decides.{nat_tests}
use Rattle.std.proofs.lemmas.List.{get_or_past, get_or-set_same, get_or-set_other}
use Rattle.std.proofs.lemmas.Nat.{shr-shr, shr_le}
use Rattle.std.proofs.lemmas.Nat.Bits.{bit_at-zero, bit_at_and, bit_at_or, bit_at-lt, bit_at_above, bit_at-trailing_zeros}
use Rattle.rowset.specs.Members.{is_set}

-- ── where a bit stands ──

pub bit_here : (words : List ℕ) (w j p : ℕ) → p ≡ 64 * w + j → j < 64 → is_set words p ≡ eqb (bit_at (get_or words w 0) j) 1
unfolding is_set
bit_here words w j p e h =
    let word : p / 64 ≡ w = omega arith in
    let place : p % 64 ≡ j = omega arith in
    ap (λ i. eqb (bit_at (get_or words i 0) (p % 64)) 1) word ∙ ap (λ i. eqb (bit_at (get_or words w 0) i) 1) place

pub none_past : (words : List ℕ) (p : ℕ) → 64 * length words ≤ p → is_set words p ≡ false
unfolding is_set
none_past words p h =
    ap (λ x. eqb (bit_at x (p % 64)) 1) (get_or_past words (p / 64) 0 (omega arith))
    ∙ ap (λ x. eqb x 1) (bit_at-zero (p % 64))

-- a bit of two words as one
greater : (x y : ℕ) → x < 2 → y < 2 → eqb (max x y) 1 ≡ (eqb x 1 || eqb y 1)
greater x y h l = grind (arith, nat_tests)

lesser : (x y : ℕ) → x < 2 → y < 2 → eqb (min x y) 1 ≡ (eqb x 1 && eqb y 1)
lesser x y h l = grind (arith, nat_tests)

pub either_bit : (a b j : ℕ) → eqb (bit_at (bit_or a b) j) 1 ≡ (eqb (bit_at a j) 1 || eqb (bit_at b j) 1)
either_bit a b j =
    ap (λ x. eqb x 1) (bit_at_or a b j) ∙ greater (bit_at a j) (bit_at b j) (bit_at-lt a j) (bit_at-lt b j)

pub common_bit : (a b j : ℕ) → eqb (bit_at (bit_and a b) j) 1 ≡ (eqb (bit_at a j) 1 && eqb (bit_at b j) 1)
common_bit a b j =
    ap (λ x. eqb x 1) (bit_at_and a b j) ∙ lesser (bit_at a j) (bit_at b j) (bit_at-lt a j) (bit_at-lt b j)

-- ── a word written ──

module _ (words : List ℕ) (q v n : ℕ) (long : length words ≡ 4) (inside : q < 256) (here : bit_at v (q % 64) ≡ n)
    (others : (i : ℕ) → i < 64 → (i ≡ q % 64 → ⊥) → bit_at v i ≡ bit_at (get_or words (q / 64) 0) i) where
  word_there : get_or (set words (q / 64) v) (q / 64) 0 ≡ v
  word_there = get_or-set_same words (q / 64) v 0 (omega arith)

  pub bit_written : (p : ℕ) → is_set (set words (q / 64) v) p ≡ cond (eqb p q) (eqb n 1) (is_set words p)
  unfolding is_set
  bit_written p = elim (cases_eq p q) [
    | inl e ↦
        ap (is_set (set words (q / 64) v)) e
        ∙ ap (λ x. eqb (bit_at x (q % 64)) 1) word_there ∙ ap (λ x. eqb x 1) here
        ∙ sym (ap (λ b. cond b (eqb n 1) (is_set words p)) (eq-eqb p q e))
    | inr ne ↦
        unwritten ne (cases_eq (p / 64) (q / 64))
        ∙ sym (ap (λ b. cond b (eqb n 1) (is_set words p)) (ne_eqb p q ne))
  ]
    where
      unwritten : (p ≡ q → ⊥) → (p / 64 ≡ q / 64) ⊎ (p / 64 ≡ q / 64 → ⊥) → is_set (set words (q / 64) v) p ≡ is_set words p
      unwritten ne (inl same) =
          ap (λ i. eqb (bit_at (get_or (set words (q / 64) v) i 0) (p % 64)) 1) same
          ∙ ap (λ x. eqb (bit_at x (p % 64)) 1) word_there
          ∙ ap (λ x. eqb x 1) (others (p % 64) (omega arith) (λ e. ne (omega arith)))
          ∙ sym (ap (λ i. eqb (bit_at (get_or words i 0) (p % 64)) 1) same)
      unwritten ne (inr other) =
          ap (λ x. eqb (bit_at x (p % 64)) 1) (get_or-set_other words (q / 64) (p / 64) v 0 other)

-- ── the first bit from a place on ──

bit_shifted : (x s j : ℕ) → bit_at x (s + j) ≡ bit_at (x / 2 ^ s) j
bit_shifted x s j = ap (λ (y : ℕ). y % 2) (sym (shr-shr x s j))

module _ (words : List ℕ) (w s : ℕ) where
  bit_from : (y j p : ℕ) → y ≡ get_or words w 0 / 2 ^ s → p ≡ 64 * w + (s + j) → s + j < 64
      → is_set words p ≡ eqb (bit_at y j) 1
  bit_from y j p e at h =
      bit_here words w (s + j) p at h
      ∙ ap (λ x. eqb x 1) (bit_shifted (get_or words w 0) s j ∙ ap (λ x. bit_at x j) (sym e))

  -- a word without bits from s on
  pub none_in_word : get_or words w 0 / 2 ^ s ≡ 0 → (p : ℕ) → 64 * w + s ≤ p → p < 64 * w + 64 → is_set words p ≡ false
  none_in_word none p low high =
      bit_from 0 (p - (64 * w + s)) p (sym none) (omega arith) (omega arith)
      ∙ ap (λ x. eqb x 1) (bit_at-zero (p - (64 * w + s)))

  -- one that has some: the first is at the trailing zeros
  module _ (y : ℕ) (inside : s < 64) (fits : get_or words w 0 < 2 ^ 64) (e : y ≡ get_or words w 0 / 2 ^ s) (some : y ≡ 0 → ⊥) where
    -- how many places after s it is
    abbrev pub zeros : ℕ
    zeros = trailing_zeros w64 y

    lowest : (zeros < 64) × (bit_at y zeros ≡ 1) × ((i : ℕ) → i < zeros → bit_at y i ≡ 0)
    lowest = bit_at-trailing_zeros w64 y (omega arith) (omega (arith, shr_le (get_or words w 0) s))

    room : s + zeros < 64
    room = elim (cases_lt (s + zeros) 64) [
      | inl h ↦ h
      | inr h ↦
          let set = ap (λ x. bit_at x zeros) (sym e) in
          absurd (omega (
            arith,
            bit_at_above (get_or words w 0) 64 (s + zeros) fits h,
            bit_shifted (get_or words w 0) s zeros,
            set,
            lowest.1,
          ))
    ]

    pub first_in_word : is_set words (64 * w + (s + zeros)) ≡ true
    first_in_word = bit_from y zeros (64 * w + (s + zeros)) e refl room ∙ ap (λ x. eqb x 1) lowest.1

    pub none_before : (p : ℕ) → 64 * w + s ≤ p → p < 64 * w + (s + zeros) → is_set words p ≡ false
    none_before p low high =
        let j = p - (64 * w + s) in
        bit_from y j p e (omega arith) (omega (arith, room)) ∙ ap (λ x. eqb x 1) (lowest.2 j (omega arith))
