-- Some of the members of a set, counted up from the lowest. Assumes nothing.
use Rattle.std.proofs.Common.{◌≡◌, ℕ, cond, eqb, List, [], ◌∷◌, ◌++◌, refl, zero, suc, ◌+◌, ◌-◌, ◌<◌, leb, ltb, Bool, true, false, ◌&&◌, ◌||◌, add-one, add-zero, sym, ap, ◌∙◌, inl, inr, arith}
use Rattle.std.proofs.lemmas.Bool.{eq-eqb, ne_eqb, and_parts, cases_Bool, cases_eq, cases_lt, both_ways}
use Rattle.std.proofs.lemmas.Bool.Decides.{nat_tests}
use Rattle.std.proofs.lemmas.List.Folds.{list_any-append}
use Rattle.std.specs.List.{filter, list_any, range_with_len}
use Rattle.rowset.proofs.Loops.{unchanged}
use Rattle.model.specs.Search.{any_below, has}
use Rattle.rowset.specs.declared.RowSet.{RowSet}
use Rattle.rowset.specs.Members.{is_number, contains}
use Rattle.rowset.specs.Iteration.{greatest, members, members_above}
use Rattle.rowset.proofs.Iteration.{numbered}

-- one that fails changes nothing
still : (p : ℕ → Bool) (k : ℕ) → p k ≡ false → any_below (suc k) p ≡ any_below k p
still p k fails = grind arith

-- ── the list of a set's members ──

among_there : (p : ℕ → Bool) (a n k : ℕ) → list_any (eqb k) (filter p (range_with_len a n)) ≡ (p k && (leb a k && ltb k (a + n)))
among_there p a zero k = grind (arith, nat_tests)
among_there p a (suc n) k =
    let more = among_there p (a + 1) n k in
    elim (cases_Bool (p a)) [
      | inl is_in ↦ elim (cases_eq k a) [
        | inl e ↦ let same = ap p e in grind (arith, nat_tests)
        | inr ne ↦ grind (arith, nat_tests)
      ]
      | inr out ↦ elim (cases_eq k a) [
        | inl e ↦ let same = ap p e in grind (arith, nat_tests)
        | inr ne ↦ grind (arith, nat_tests)
      ]
    ]

pub among_members : (set : RowSet) (k : ℕ) → list_any (eqb k) (members set) ≡ contains set k
unfolding members_above
among_members set k = let all = among_there (contains set) 1 (greatest set - 0) k in elim (cases_Bool (contains set k)) [
  | inl is_in ↦ let within = numbered set k is_in in let there = all in grind (arith, nat_tests)
  | inr out ↦ grind (arith, nat_tests)
]

among : (k : ℕ) (xs : List ℕ) → has k xs ≡ list_any (eqb k) xs
among k [] = refl
among k (x ∷ xs) = ap (λ b. eqb k x || b) (among k xs)

pub has_members : (set : RowSet) (k : ℕ) → has k (members set) ≡ contains set k
has_members set k = among k (members set) ∙ among_members set k

-- the numbers of a list that pass a test are found
abbrev pub Found : (ℕ → Bool) → List ℕ → (ℕ → Bool) → Type 0
Found test xs found = (k : ℕ) → found k ≡ (list_any (eqb k) xs && test k)

pub found_put : (test : ℕ → Bool) (xs : List ℕ) (found now : ℕ → Bool) {x : ℕ} {b : Bool} → Found test xs found → is_number x ≡ true
    → b ≡ test x → ((k : ℕ) → now k ≡ cond (eqb k x) (b && is_number k) (found k)) → Found test (xs ++ (x ∷ [])) now
found_put test xs found now {x} {b} before number is put k =
    let old = before k in
    let new = put k in
    let more = list_any-append (eqb k) xs (x ∷ []) in
    elim (cases_eq k x) [
      | inl e ↦ let here = eq-eqb k x e in let there = ap is_number e ∙ number in let same = ap test e in grind arith
      | inr ne ↦ let other = ne_eqb k x ne in grind arith
    ]

pub found_all : (set : RowSet) (test : ℕ → Bool) {xs : List ℕ} {found : ℕ → Bool} → members set ≡ xs → Found test xs found
    → (k : ℕ) → found k ≡ (contains set k && test k)
found_all set test all is k = is k ∙ ap (λ b. b && test k) (ap (list_any (eqb k)) (sym all) ∙ among_members set k)

any_to : (p f : ℕ → Bool) (a n : ℕ) → any_below (a + n) (λ x. p x && f x)
    ≡ (any_below a (λ x. p x && f x) || list_any f (filter p (range_with_len a n)))
any_to p f a zero = ap (λ n. any_below n (λ x. p x && f x)) (add-zero a) ∙ (grind arith)
any_to p f a (suc n) =
    let same : a + suc n ≡ a + 1 + n = omega arith in
    let one = ap (λ n. any_below n (λ x. p x && f x)) (add-one a) in
    ap (λ n. any_below n (λ x. p x && f x)) same ∙ any_to p f (a + 1) n
    ∙ ap (λ b. b || list_any f (filter p (range_with_len (a + 1) n))) one ∙ elim (cases_Bool (p a)) [
      | inl is_in ↦ grind arith
      | inr out ↦ grind arith
    ]

-- some member passes a test that none above n passes
pub some_listed : (set : RowSet) (f : ℕ → Bool) (n : ℕ) → ((k : ℕ) → n < k → f k ≡ false)
    → list_any f (members set) ≡ any_below (n + 1) (λ x. contains set x && f x)
unfolding members_above
some_listed set f n above =
    let g : ℕ → Bool = λ x. contains set x && f x in
    let all : any_below (1 + (greatest set - 0)) g ≡ list_any f (members set) = any_to (contains set) f 1 (greatest set - 0) in
    sym all ∙ elim (cases_lt n (greatest set)) [
      | inl low ↦ unchanged (λ m. any_below m g) g (still g) (n + 1) (1 + (greatest set - 0)) (omega arith)
          (λ k h u t. both_ways (f k) (above k (omega arith)) (and_parts (contains set k) (f k) t).1)
      | inr high ↦ sym (unchanged (λ m. any_below m g) g (still g) (1 + (greatest set - 0)) (n + 1) (omega arith)
          (λ k h u t. let within = numbered set k (and_parts (contains set k) (f k) t).0 in absurd (omega arith)))
    ]
