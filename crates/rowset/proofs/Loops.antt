-- Loops over the members of a set, each found as the least one above the last. Assumes nothing.
use Rattle.std.proofs.Common.{◌≡◌, ℕ, zero, suc, ◌+◌, ◌<◌, ◌≤◌, Bool, true, false, cond, ◌&&◌, ◌||◌, eqb, leb, length, Some, None, sym, subst, ap, ◌∙◌, inl, inr, arith}
use Rattle.std.proofs.lemmas.Bool.{cases_Bool, cases_eq, cases_lt, both_ways, eq-eqb, false_from_ne_true, le-leb, lt-leb, ne_eqb}
use Rattle.std.proofs.lemmas.Bool.Decides.{nat_tests}
use Rattle.graph.specs.Reach.{Least}
use Rattle.rowset.specs.declared.RowSet.{RowSet}
use Rattle.rowset.specs.Members.{is_number, contains}
use Rattle.rowset.proofs.Members.{outside}

-- only the numbers 1 to 256 are members
pub member_number : (set : RowSet) → length set.words ≡ 4 → (k : ℕ) → contains set k ≡ true → is_number k ≡ true
member_number set long k m = elim (cases_Bool (is_number k)) [
  | inl t ↦ t
  | inr f ↦ absurd (both_ways (contains set k) (outside set.words long k f) m)
]

pub member_within : (set : RowSet) → length set.words ≡ 4 → (k : ℕ) → contains set k ≡ true → k ≤ 256
member_within set long k m = let number = member_number set long k m in grind (arith, nat_tests)

-- ── what holds of each number up to the last, and of each that is no member ──

module _ (p : ℕ → Bool) (F : ℕ → Type 0) (out : (k : ℕ) → p k ≡ false → F k) {last : ℕ}
    (so_far : (k : ℕ) → k ≤ last → F k) where
  -- it holds of those below the next
  pub below_next : {t : ℕ} → Least (λ k. p k ≡ true) last (Some t) → (k : ℕ) → k < t → F k
  below_next next k l = elim (cases_lt last k) [
    | inl above ↦ out k (false_from_ne_true (p k) (next.2 k above l))
    | inr low ↦ so_far k low
  ]

  -- with the next
  pub with_next : {t : ℕ} → Least (λ k. p k ≡ true) last (Some t) → F t → (k : ℕ) → k ≤ t → F k
  with_next {t} next here k l = elim (cases_eq k t) [
    | inl e ↦ subst F (sym e) here
    | inr ne ↦ below_next next k (omega arith)
  ]

  -- of all, where there is no next
  pub at_all : Least (λ k. p k ≡ true) last None → (k : ℕ) → F k
  at_all past k = elim (cases_lt last k) [
    | inl above ↦ out k (false_from_ne_true (p k) (past k above))
    | inr low ↦ so_far k low
  ]

-- ── a column that changes up to the last ──

module _ {X : Type 0} (f g : ℕ → X) where
  -- f up to `last`, and g above it
  abbrev pub up_to : ℕ → ℕ → X
  up_to last k = cond (leb k last) (f k) (g k)

  within : (last k : ℕ) → k ≤ last → up_to last k ≡ f k
  within last k l = ap (λ b. cond b (f k) (g k)) (le-leb k last l)

  pub above : (last k : ℕ) → last < k → up_to last k ≡ g k
  above last k l = ap (λ b. cond b (f k) (g k)) (lt-leb k last l)

  pub up_to_none : f 0 ≡ g 0 → (k : ℕ) → g k ≡ up_to 0 k
  up_to_none same k = elim (cases_eq k 0) [
    | inl e ↦ ap g e ∙ sym same ∙ ap f (sym e) ∙ sym (within 0 k (omega arith))
    | inr ne ↦ sym (above 0 k (omega arith))
  ]

  -- and only at members
  module _ (p : ℕ → Bool) (still : (k : ℕ) → p k ≡ false → f k ≡ g k) where
    fixed : (last k : ℕ) → p k ≡ false → up_to last k ≡ f k
    fixed last k out = elim (cases_lt last k) [
      | inl high ↦ above last k high ∙ sym (still k out)
      | inr low ↦ within last k low
    ]

    pub up_to_next : {last t : ℕ} → Least (λ k. p k ≡ true) last (Some t) → (h : ℕ → X) → h t ≡ f t
        → (k : ℕ) → cond (eqb k t) (h k) (up_to last k) ≡ up_to t k
    up_to_next {last} {t} next h is k = elim (cases_eq k t) [
      | inl e ↦
          ap (λ b. cond b (h k) (up_to last k)) (eq-eqb k t e) ∙ ap h e ∙ is ∙ ap f (sym e)
          ∙ sym (within t k (omega arith))
      | inr ne ↦ ap (λ b. cond b (h k) (up_to last k)) (ne_eqb k t ne) ∙ elim (cases_lt k t) [
        | inl below ↦
            below_next p (λ j. up_to last j ≡ f j) (fixed last) (within last) next k below ∙ sym (within t k (omega arith))
        | inr past ↦ let high = next.0 in above last k (omega arith) ∙ sym (above t k (omega arith))
      ]
    ]

    pub up_to_end : {last : ℕ} → Least (λ k. p k ≡ true) last None → (k : ℕ) → up_to last k ≡ f k
    up_to_end {last} past = at_all p (λ j. up_to last j ≡ f j) (fixed last) (within last) past

-- the numbers up to another that pass a test are found
abbrev pub UpTo : (ℕ → Bool) → ℕ → (ℕ → Bool) → Type 0
UpTo q last found = (k : ℕ) → found k ≡ up_to q (λ j. false) last k

-- only members pass it, and t is the next one
module _ (p q : ℕ → Bool) (only : (k : ℕ) → p k ≡ false → q k ≡ false) {last t : ℕ}
    (next : Least (λ k. p k ≡ true) last (Some t)) (found now : ℕ → Bool) (before : UpTo q last found)
    (number : is_number t ≡ true) where
  -- it is put
  pub up_to_put : {b : Bool} → b ≡ q t → ((k : ℕ) → now k ≡ cond (eqb k t) (b && is_number k) (found k)) → UpTo q t now
  up_to_put {b} is put k =
      put k ∙ ap (cond (eqb k t) (b && is_number k)) (before k)
      ∙ up_to_next q (λ j. false) p only next (λ j. b && is_number j) passes k
    where
      passes : (b && is_number t) ≡ q t
      passes = grind arith

  -- it is inserted
  pub up_to_insert : q t ≡ true → ((k : ℕ) → now k ≡ (found k || (eqb k t && is_number k))) → UpTo q t now
  up_to_insert passes insert = up_to_put (sym passes) (λ k. insert k ∙ elim (cases_eq k t) [
    | inl e ↦ let at = eq-eqb k t e in let there = ap is_number e ∙ number in grind arith
    | inr ne ↦ let other = ne_eqb k t ne in grind arith
  ])

-- ── a value by number, that only members change ──

module _ {X : Type 0} (at : ℕ → X) (p : ℕ → Bool) (still : (k : ℕ) → p k ≡ false → at (suc k) ≡ at k) where
  -- none is between
  pub unchanged : (m n : ℕ) → m ≤ n → ((k : ℕ) → m ≤ k → k < n → p k ≡ true → ⊥) → at n ≡ at m
  unchanged m zero l none = let e : zero ≡ m = omega arith in ap at e
  unchanged m (suc n) l none =
      elim (cases_eq m (suc n)) [
        | inl e ↦ ap at (sym e)
        | inr ne ↦
            still n (false_from_ne_true (p n) (none n (omega arith) (omega arith)))
            ∙ unchanged m n (omega arith) (λ k h u. none k h (omega arith))
      ]

  pub to_next : {last t : ℕ} → Least (λ k. p k ≡ true) last (Some t) → at t ≡ at (last + 1)
  to_next {last} {t} (above, m, none) = unchanged (last + 1) t (omega arith) (λ k l h. none k (omega arith) h)

  pub to_end : {last : ℕ} (n : ℕ) → last < n → Least (λ k. p k ≡ true) last None → at n ≡ at (last + 1)
  to_end {last} n inside past = unchanged (last + 1) n (omega arith) (λ k l h. past k (omega arith))
