-- A list numbered from 1. Assumes nothing.
use Rattle.std.proofs.Common.{◌≡◌, ℕ, ◌+◌, ◌-◌, ◌<◌, ◌≤◌, Bool, true, false, cond, eqb, ◌⊎◌, List, [], ◌∷◌, ◌++◌, length, get_or, set, Some, None, Option, sym, refl, ap, ◌∙◌, inl, inr, ⊎_elim, arith, get_or-set_other, get_or-set_same}
use mathlib.Core.Path.{fun_ext}
use denote.Ref.{Bor}
use Rattle.std.specs.Option.{MatchOption, option_copied, unwrap_or}
use Rattle.std.specs.List.{slice_get}
use Rattle.std.proofs.lemmas.Option.{unwrap_or-slice_get}
use Rattle.std.proofs.lemmas.Bool.Decides.{nat_tests, eqb_tells, leb_tells}
use Rattle.std.proofs.lemmas.List.{get_or_past, get_or_push, get_or_append_left, get_or_default, length-append}
use Rattle.model.specs.Search.{at_put}
use Rattle.rows.specs.Columns.{item_at, numbered}

-- an item read by its number, or another where there is none
pub unwrap_or-numbered : {X : Type 0} (xs : List X) (k : ℕ) (none : X)
    → unwrap_or (numbered xs k) none ≡ cond (eqb k 0) none (get_or xs (k - 1) none)
unwrap_or-numbered xs k none = go (eqb k 0)
  where
    go : (b : Bool) → unwrap_or (cond b None (slice_get xs (k - 1))) none ≡ cond b none (get_or xs (k - 1) none)
    go true = refl
    go false = unwrap_or-slice_get xs (k - 1) none

pub past : {X : Type 0} (none : X) (xs : List X) (k : ℕ) → (k ≡ 0) ⊎ (length xs < k)
    → none ≡ cond (eqb k 0) none (get_or xs (k - 1) none)
past none xs k (inl z) = grind (arith, nat_tests)
past none xs k (inr h) = let p = get_or_past xs (k - 1) none (omega arith) in grind (arith, nat_tests)

pub inside : {X : Type 0} (none : X) (xs : List X) (k : ℕ) (y : X) → 0 < k → k ≤ length xs → y ≡ get_or xs (k - 1) y
    → y ≡ cond (eqb k 0) none (get_or xs (k - 1) none)
inside none xs k y h l e =
    let p = get_or_default xs (k - 1) y none (omega arith) in
    let q : cond (eqb k 0) none (get_or xs (k - 1) none) ≡ get_or xs (k - 1) none = grind (arith, nat_tests) in
    e ∙ p ∙ sym q

-- looked up
pub found : {X : Type 0} (d : X) (xs : List X) (k : ℕ) (o : Option (Bor X)) → option_copied o ≡ numbered xs k
    → MatchOption o (item_at d xs k ≡ d) (λ y. y.now ≡ item_at d xs k)
found d xs k None e = sym (unwrap_or-numbered xs k d) ∙ ap (λ q. unwrap_or q d) (sym e)
found d xs k (Some y) e = ap (λ q. unwrap_or q d) e ∙ unwrap_or-numbered xs k d

-- one item written
pub item_set : {X : Type 0} (d : X) (xs : List X) (k : ℕ) (x : X) → 0 < k → k ≤ length xs
    → item_at d (set xs (k - 1) x) ≡ at_put (item_at d xs) k x
item_set d xs k x h l = fun_ext (λ j. ⊎_elim (same j) (λ e. ⊎_elim (none j) (other j e.1) (eqb_tells j 0)) (eqb_tells j k))
  where
    same : (j : ℕ) → (eqb j k ≡ true) × (j ≡ k) → item_at d (set xs (k - 1) x) j ≡ at_put (item_at d xs) k x j
    same j e =
        let q : j ≡ k = e.1 in
        let lt : k - 1 < length xs = omega arith in
        let p : get_or (set xs (k - 1) x) (k - 1) d ≡ x = rw get_or-set_same in
        grind (arith, nat_tests, p, q)

    none : (j : ℕ) → (eqb j 0 ≡ true) × (j ≡ 0) → item_at d (set xs (k - 1) x) j ≡ at_put (item_at d xs) k x j
    none j e = let z : j ≡ 0 = e.1 in grind (arith, nat_tests, z)

    other : (j : ℕ) → (j ≡ k → ⊥) → (eqb j 0 ≡ false) × (j ≡ 0 → ⊥) → item_at d (set xs (k - 1) x) j ≡ at_put (item_at d xs) k x j
    other j n z =
        let ne : j - 1 ≡ k - 1 → ⊥ = λ s. n (let nz : j ≡ 0 → ⊥ = z.1 in omega arith) in
        let p : get_or (set xs (k - 1) x) (j - 1) d ≡ get_or xs (j - 1) d = rw get_or-set_other in
        grind (arith, nat_tests, p, n)

-- one item more
pub item_push : {X : Type 0} (d : X) (xs : List X) (x : X) → item_at d (xs ++ x ∷ []) ≡ at_put (item_at d xs) (length xs + 1) x
item_push d xs x = fun_ext (λ j. ⊎_elim (last j) (λ e. ⊎_elim (none j) (other j e.1) (eqb_tells j 0)) (eqb_tells j (length xs + 1)))
  where
    n : ℕ
    n = length xs

    last : (j : ℕ) → (eqb j (length xs + 1) ≡ true) × (j ≡ length xs + 1)
        → item_at d (xs ++ x ∷ []) j ≡ at_put (item_at d xs) (length xs + 1) x j
    last j e =
        let q : j ≡ length xs + 1 = e.1 in
        let p : get_or (xs ++ x ∷ []) (j - 1) d ≡ x = get_or_push xs x d (j - 1) (omega (arith, q)) in
        grind (arith, nat_tests, p, q)

    none : (j : ℕ) → (eqb j 0 ≡ true) × (j ≡ 0) → item_at d (xs ++ x ∷ []) j ≡ at_put (item_at d xs) (length xs + 1) x j
    none j e = let z : j ≡ 0 = e.1 in grind (arith, nat_tests, z)

    past : (j : ℕ) → (j ≡ length xs + 1 → ⊥) → length xs < j → get_or (xs ++ x ∷ []) (j - 1) d ≡ get_or xs (j - 1) d
    past j q h =
        get_or_past (xs ++ x ∷ []) (j - 1) d (omega (arith, length-append xs (x ∷ [])))
        ∙ sym (get_or_past xs (j - 1) d (omega arith))

    other : (j : ℕ) → (j ≡ length xs + 1 → ⊥) → (eqb j 0 ≡ false) × (j ≡ 0 → ⊥)
        → item_at d (xs ++ x ∷ []) j ≡ at_put (item_at d xs) (length xs + 1) x j
    other j q z =
        let nz : j ≡ 0 → ⊥ = z.1 in
        let p : get_or (xs ++ x ∷ []) (j - 1) d ≡ get_or xs (j - 1) d =
        ⊎_elim (λ l. let h : j ≤ length xs = l.1 in get_or_append_left xs (x ∷ []) d (j - 1) (omega arith))
        (λ l. past j q l.1) (leb_tells j (length xs)) in
        grind (arith, nat_tests, p, q)
