-- Checks that passed, states that are equal, searches and lists. Assumes nothing.
use Rattle.std.proofs.Common.{◌≡◌, ℕ, zero, suc, ◌<◌, Bool, true, false, cond, not, eqb, ◌⊎◌, List, [], ◌∷◌, ◌++◌, Some, None, Option, sym, refl, ap, ◌∙◌, subst, inl, inr, arith}
use borrow.Author.Tests.{clash}
use Rattle.std.specs.Option.{option_or}
use Rattle.std.proofs.lemmas.Bool.{or_cases, or_left, or_right, eqb-true, eqb-false, eq-eqb, ne_eqb, not-false, cases_Bool}
use Rattle.values.specs.Checks.{bad, bad_at, first_fault}
use Rattle.values.specs.Numbers.{same_state, same_phase}
use Rattle.values.specs.declared.Cause.{Cause}
use Rattle.values.specs.declared.Fault.{Fault}
use Rattle.values.specs.declared.Layer.{Layer}
use Rattle.values.specs.declared.Phase.{Phase}
use Rattle.values.specs.declared.RowState.{RowState}
use Rattle.model.specs.Search.{any_below, first_below, each_below, all_below, any, has, at_put, In, here, there}

-- ── checks that passed ──

pub some_none : {X P : Type 0} {x : X} → Some x ≡ None → P
some_none e = let z : ◌≡◌ {A = ℕ} 0 1 = cc in absurd (omega arith)

pub bad_none : (b : Bool) (c : Cause) (l : Layer) (x : ℕ) → bad b c l x ≡ None → b ≡ false
bad_none true c l x h = some_none h
bad_none false c l x h = refl

-- a check that a test fails: the test was passed
pub passed_test : (b : Bool) (c : Cause) (l : Layer) (x : ℕ) → bad (not b) c l x ≡ None → b ≡ true
passed_test b c l x h = not-false b (bad_none (not b) c l x h)

pub bad_at_none : (o : Option ℕ) (c : Cause) (l : Layer) → bad_at o c l ≡ None → o ≡ None
bad_at_none None c l h = refl
bad_at_none (Some x) c l h = some_none h

-- none of the checks stands
abbrev pub Passed : List (Option Fault) → Type 0
Passed [] = Unit {0}
Passed (c ∷ cs) = (c ≡ None) × Passed cs

pub passes : (cs : List (Option Fault)) → first_fault cs ≡ None → Passed cs
passes [] h = tt
passes (None ∷ cs) h = (refl, passes cs h)
passes (Some f ∷ cs) h = some_none h

-- ── states and phases ──

pub same_state_eq : (a b : RowState) → same_state a b ≡ true → a ≡ b
same_state_eq a b h = grind arith

pub eq_same_state : (a b : RowState) → a ≡ b → same_state a b ≡ true
eq_same_state a b e = ap (λ x. same_state x b) e ∙ eq-eqb _ _ refl

pub same_phase_eq : (a b : Phase) → same_phase a b ≡ true → a ≡ b
same_phase_eq a b h = grind arith

-- ── columns ──

-- what holds of a column and of the value put in, holds of the new column
pub put_all : {X : Type 0} (P : ℕ → X → Type 0) (f : ℕ → X) (k : ℕ) (x : X)
    → ((j : ℕ) → P j (f j)) → P k x → (j : ℕ) → P j (at_put f k x j)
put_all P f k x h q j = go (eqb j k) refl
  where
    go : (t : Bool) → eqb j k ≡ t → P j (cond t x (f j))
    go true e = subst (λ i. P i x) (sym (eqb-true j k e)) q
    go false e = h j

pub put_same : {X : Type 0} (f : ℕ → X) (k : ℕ) (x : X) → at_put f k x k ≡ x
put_same f k x = ap (λ t. cond t x (f k)) (eq-eqb k k refl)

pub put_other : {X : Type 0} (f : ℕ → X) (k : ℕ) (x : X) (j : ℕ) → (j ≡ k → ⊥) → at_put f k x j ≡ f j
put_other f k x j n = ap (λ t. cond t x (f j)) (ne_eqb j k n)

-- ── membership ──

pub any_out : (p : ℕ → Bool) (xs : List ℕ) → any p xs ≡ true → (x : ℕ) × (has x xs ≡ true) × (p x ≡ true)
any_out p [] h = absurd (clash h)
any_out p (x ∷ xs) h =
    elim (or_cases (p x) (any p xs) h) [
      | inl a ↦ (x, or_left (eqb x x) (has x xs) (eq-eqb x x refl), a)
      | inr b ↦ let (y, m, q) = any_out p xs b in (y, or_right (eqb y x) (has y xs) m, q)
    ]

pub any_in : (p : ℕ → Bool) (xs : List ℕ) (x : ℕ) → has x xs ≡ true → p x ≡ true → any p xs ≡ true
any_in p [] x m q = m
any_in p (y ∷ ys) x m q =
    elim (or_cases (eqb x y) (has x ys) m) [
      | inl e ↦ or_left (p y) (any p ys) (subst (λ z. p z ≡ true) (eqb-true x y e) q)
      | inr b ↦ or_right (p y) (any p ys) (any_in p ys x b q)
    ]

pub in_left : {X : Type 0} (x : X) (xs ys : List X) → In x xs → In x (xs ++ ys)
in_left x [] ys m = elim m [ ]
in_left x (y ∷ xs) ys here = here
in_left x (y ∷ xs) ys (there m) = there (in_left x xs ys m)

pub in_right : {X : Type 0} (x : X) (xs ys : List X) → In x ys → In x (xs ++ ys)
in_right x [] ys m = m
in_right x (y ∷ xs) ys m = there (in_right x xs ys m)

pub in_cases : {X : Type 0} (x : X) (xs ys : List X) → In x (xs ++ ys) → In x xs ⊎ In x ys
in_cases x [] ys m = inr m
in_cases x (y ∷ xs) ys here = inl here
in_cases x (y ∷ xs) ys (there m) = elim (in_cases x xs ys m) [ inl a ↦ inl (there a) | inr b ↦ inr b ]

-- ── searches ──

pub any_below_in : (n : ℕ) (p : ℕ → Bool) (k : ℕ) → k < n → p k ≡ true → any_below n p ≡ true
any_below_in zero p k l q = absurd (omega arith)
any_below_in (suc n) p k l q =
    elim (cases_Bool (eqb k n)) [
      | inl e ↦ or_right (any_below n p) (p n) (subst (λ z. p z ≡ true) (eqb-true k n e) q)
      | inr e ↦ or_left (any_below n p) (p n)
          (any_below_in n p k (let ne = eqb-false k n e in omega arith) q)
    ]

pub any_below_out : (n : ℕ) (p : ℕ → Bool) → any_below n p ≡ true → (k : ℕ) × (k < n) × (p k ≡ true)
any_below_out zero p h = absurd (clash h)
any_below_out (suc n) p h =
    elim (or_cases (any_below n p) (p n) h) [
      | inl a ↦ let (k, l, q) = any_below_out n p a in (k, omega arith, q)
      | inr b ↦ (n, omega arith, b)
    ]

or_none : (o : Option ℕ) (b : Bool) (n : ℕ) → option_or o (cond b (Some n) None) ≡ None → (o ≡ None) × (b ≡ false)
or_none None true n h = some_none h
or_none None false n h = (refl, refl)
or_none (Some x) b n h = some_none h

-- where the search finds none, each fails
pub first_below_none : (n : ℕ) (p : ℕ → Bool) → first_below n p ≡ None → (k : ℕ) → k < n → p k ≡ false
first_below_none zero p h k l = absurd (omega arith)
first_below_none (suc n) p h k l =
    let b = or_none (first_below n p) (p n) n h in
    elim (cases_Bool (eqb k n)) [
      | inl e ↦ ap p (eqb-true k n e) ∙ b.1
      | inr e ↦ first_below_none n p b.0 k (let ne = eqb-false k n e in omega arith)
    ]

pub each_below_in : {X : Type 0} (n : ℕ) (f : ℕ → List X) (k : ℕ) (x : X) → k < n → In x (f k) → In x (each_below n f)
each_below_in zero f k x l m = absurd (omega arith)
each_below_in (suc n) f k x l m =
    elim (cases_Bool (eqb k n)) [
      | inl e ↦ in_right x (each_below n f) (f n) (subst (λ z. In x (f z)) (eqb-true k n e) m)
      | inr e ↦ in_left x (each_below n f) (f n)
          (each_below_in n f k x (let ne = eqb-false k n e in omega arith) m)
    ]

pub each_below_out : {X : Type 0} (n : ℕ) (f : ℕ → List X) (x : X) → In x (each_below n f) → (k : ℕ) × (k < n) × In x (f k)
each_below_out zero f x m = elim m [ ]
each_below_out (suc n) f x m =
    elim (in_cases x (each_below n f) (f n) m) [
      | inl a ↦ let (k, l, q) = each_below_out n f x a in (k, omega arith, q)
      | inr b ↦ (n, omega arith, b)
    ]

one_if : (b : Bool) (k x : ℕ) → In x (cond b (k ∷ []) []) → (b ≡ true) × (x ≡ k)
one_if true k x here = (refl, refl)
one_if true k x (there m) = elim m [ ]
one_if false k x m = elim m [ ]

pub all_below_in : (n : ℕ) (p : ℕ → Bool) (k : ℕ) → k < n → p k ≡ true → In k (all_below n p)
all_below_in n p k l q =
    each_below_in n (λ j. cond (p j) (j ∷ []) []) k k l (subst (λ t. In k (cond t (k ∷ []) [])) (sym q) here)

pub all_below_out : (n : ℕ) (p : ℕ → Bool) (k : ℕ) → In k (all_below n p) → (k < n) × (p k ≡ true)
all_below_out n p k m =
    let (j, l, q) = each_below_out n (λ j. cond (p j) (j ∷ []) []) k m in
    let (t, e) = one_if (p j) j k q in
    (omega arith, ap p e ∙ t)
