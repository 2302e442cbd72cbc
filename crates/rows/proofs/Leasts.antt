-- The least number of a list that is above another. Assumes nothing.
use Rattle.std.proofs.Common.{◌≡◌, ℕ, ◌<◌, ◌≤◌, min, Bool, true, false, ◌&&◌, eqb, ltb, List, [], ◌∷◌, filter, Some, None, Option, sym, refl, ap, ◌∙◌, inl, inr, ⊎_elim, arith}
use borrow.Author.Tests.{clash}
use Rattle.std.specs.List.{fold, reduce}
use Rattle.std.proofs.lemmas.Bool.{and_from, and_parts, cases_lt, eq-eqb, eqb-true, lt-ltb, ltb-true, or_cases, or_left, or_right}
use Rattle.graph.specs.Reach.{Least}
use Rattle.model.specs.Search.{has}
use Rattle.rows.proofs.Lists.{has_kept}

-- the same for what is equivalent
pub least_like : (P Q : ℕ → Type 0) (after : ℕ) (o : Option ℕ) → ((k : ℕ) → P k → Q k) → ((k : ℕ) → Q k → P k)
    → Least P after o → Least Q after o
least_like P Q after None to from h = λ k l q. h k l (from k q)
least_like P Q after (Some t) to from h = (h.0, to t h.1, λ k l u q. h.2 k l u (from k q))

-- the least of a list stands in it
fold_least : (x : ℕ) (ys : List ℕ)
    → (has (fold min x ys) (x ∷ ys) ≡ true) × ((k : ℕ) → has k (x ∷ ys) ≡ true → fold min x ys ≤ k)
fold_least x [] = (
  or_left (eqb x x) false (eq-eqb x x refl),
  (λ k m. ⊎_elim (λ e. let same = eqb-true k x e in omega arith) (λ f. absurd (clash f)) (or_cases (eqb k x) false m)),
)
fold_least x (y ∷ zs) =
    let m = fold min (min x y) zs in
    let (there, least) = fold_least (min x y) zs in
    let low = least (min x y) (or_left (eqb (min x y) (min x y)) (has (min x y) zs) (eq-eqb (min x y) (min x y) refl)) in (
      ⊎_elim
          (λ e. let is = eqb-true m (min x y) e in
          elim (cases_lt x y) [
            | inl l ↦ or_left (eqb m x) (has m (y ∷ zs)) (eq-eqb m x (omega arith))
            | inr l ↦ or_right (eqb m x) (has m (y ∷ zs)) (or_left (eqb m y) (has m zs) (eq-eqb m y (omega arith)))
          ])
          (λ h. or_right (eqb m x) (has m (y ∷ zs)) (or_right (eqb m y) (has m zs) h))
          (or_cases (eqb m (min x y)) (has m zs) there),
      (λ k h. ⊎_elim (λ e. let same = eqb-true k x e in omega arith)
          (λ h'. ⊎_elim (λ e. let same = eqb-true k y e in omega arith)
          (λ t. least k (or_right (eqb k (min x y)) (has k zs) t)) (or_cases (eqb k y) (has k zs) h'))
          (or_cases (eqb k x) (has k (y ∷ zs)) h)),
    )

-- the least of those above `after` that pass a test
module _ (passes : ℕ → Bool) (xs : List ℕ) (after : ℕ) where
  abbrev kept : List ℕ
  kept = filter (λ k. ltb after k && passes k) xs

  stays : (k : ℕ) → after < k → has k (filter passes xs) ≡ true → has k kept ≡ true
  stays k l h =
      let (listed, fit) = and_parts (has k xs) (passes k) (sym (has_kept passes k xs) ∙ h) in
      has_kept (λ j. ltb after j && passes j) k xs
      ∙ and_from (has k xs) (ltb after k && passes k) listed (and_from (ltb after k) (passes k) (lt-ltb after k l) fit)

  pub least_kept : Least (λ k. has k (filter passes xs) ≡ true) after (reduce min kept)
  least_kept = go kept refl
    where
      go : (ys : List ℕ) → ys ≡ kept → Least (λ k. has k (filter passes xs) ≡ true) after (reduce min ys)
      go [] e = λ k l h. clash (ap (has k) e ∙ stays k l h)
      go (y ∷ ys) e =
          let m = fold min y ys in
          let (there, least) = fold_least y ys in
          let (listed, fits) =
          and_parts (has m xs) (ltb after m && passes m)
          (sym (has_kept (λ j. ltb after j && passes j) m xs) ∙ sym (ap (has m) e) ∙ there) in
          let (above, fit) = and_parts (ltb after m) (passes m) fits in (
            ltb-true after m above,
            has_kept passes m xs ∙ and_from (has m xs) (passes m) listed fit,
            (λ k l u h. let le = least k (ap (has k) e ∙ stays k l h) in omega arith),
          )
