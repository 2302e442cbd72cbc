-- Lemmas on the least target among listed arrows.
use Rattle.std.proofs.Common.{◌≡◌, ℕ, zero, suc, ◌<◌, ◌≤◌, Bool, true, false, ◌&&◌, eqb, ltb, leb, ◌⊎◌, List, [], ◌∷◌, length, map, Some, None, Option, sym, refl, subst, inl, inr, ⊎_elim, arith}
use Rattle.std.specs.List.{filter, fold, reduce}
use Rattle.std.specs.Prelude.{min}
use Rattle.std.proofs.lemmas.Bool.{cases_Bool, cases_lt}
use Rattle.std.proofs.lemmas.Bool.Decides.{nat_tests}
use Rattle.graph.specs.Reach.{Least}
use Rattle.graph_examples.specs.Arrows.{Listed}

-- the least is the same of two facts that are the same above `a`
pub least_same : (P Q : ℕ → Type 0) (a : ℕ) (r : Option ℕ) → ((k : ℕ) → a < k → P k → Q k) → ((k : ℕ) → a < k → Q k → P k) →
    Least P a r → Least Q a r
least_same P Q a None to back h = λ k l q. h k l (back k l q)
least_same P Q a (Some t) to back h = (h.0, to t h.0 h.1, λ k l m q. h.2 k l m (back k l q))

-- an arrow of a list is its first, or one of the others
pub listed_split : (x : ℕ × ℕ) (xs : List (ℕ × ℕ)) (j k : ℕ) → Listed (x ∷ xs) (length (x ∷ xs)) j k →
    ((x.0 ≡ j) × (x.1 ≡ k)) ⊎ Listed xs (length xs) j k
listed_split x xs j k (zero, h) = inl h.1
listed_split x xs j k (suc i, h) = inr (i, (omega (arith, h.0), h.1))

-- an arrow of the others is one of the list
pub listed_more : (x : ℕ × ℕ) (xs : List (ℕ × ℕ)) (j k : ℕ) → Listed xs (length xs) j k → Listed (x ∷ xs) (length (x ∷ xs)) j k
listed_more x xs j k h = (suc h.0, (omega (arith, h.1.0), h.1.1))

-- the first goes where it goes
pub first : {j : ℕ} (x : ℕ × ℕ) (xs : List (ℕ × ℕ)) → x.0 ≡ j → Listed (x ∷ xs) (length (x ∷ xs)) j x.1
first x xs e = (zero, (omega arith, (e, refl)))

module _ (j n a : ℕ) where
  -- whether an arrow goes from j to a point above `a`, up to n
  abbrev pub passes : ℕ × ℕ → Bool
  passes x = eqb x.0 j && (ltb a x.1 && leb x.1 n)

  -- one of the arrows goes from j to k, a point up to n
  abbrev pub Seen : List (ℕ × ℕ) → ℕ → Type 0
  Seen xs k = Listed xs (length xs) j k × (k ≤ n)

  pub passes_parts : (x : ℕ × ℕ) → passes x ≡ true → (x.0 ≡ j) × (a < x.1) × (x.1 ≤ n)
  passes_parts x h = (grind (arith, nat_tests), grind (arith, nat_tests), grind (arith, nat_tests))

  pub fails : (x : ℕ × ℕ) → passes x ≡ false → x.0 ≡ j → a < x.1 → x.1 ≤ n → ⊥
  fails x h e l m = grind (arith, nat_tests)

  -- the targets of the arrows that pass
  abbrev pub targets : List (ℕ × ℕ) → List ℕ
  targets xs = map (λ x. x.1) (filter passes xs)

  -- m is the least of `top` and of the targets of the arrows that pass
  pub record LeastWith (top : ℕ) (xs : List (ℕ × ℕ)) (m : ℕ) : Type 0 where
    pub under : m ≤ top
    pub one : (m ≡ top) ⊎ ((a < m) × Seen xs m)
    pub none : (k : ℕ) → a < k → k < m → Seen xs k → ⊥

  pub least_with : (top : ℕ) (xs : List (ℕ × ℕ)) → LeastWith top xs (fold min top (targets xs))
  least_with top [] = record { under = omega arith; one = inl refl; none = λ k l m h. absurd (omega (arith, h.0.1.0)) }
  least_with top (x ∷ xs) = elim (cases_Bool (passes x)) [
    | inl pos ↦
        let p = passes_parts x pos in
        let h = least_with (min top x.1) xs in
        let r = fold min (min top x.1) (targets xs) in
        let is : LeastWith top (x ∷ xs) r = record {
          under = omega (arith, h.under);
          one = ⊎_elim
              (λ e. elim (cases_lt x.1 top) [
                | inl low ↦ inr (let P : ℕ → Type 0 = λ k. (a < k) × Seen (x ∷ xs) k in
                    subst P (omega (arith, e)) (p.1, (first x xs p.0, p.2)))
                | inr high ↦ inl (omega (arith, e))
              ])
              (λ s. inr (s.0, (listed_more x xs j r s.1.0, s.1.1))) h.one;
          none = λ k l m s. ⊎_elim (λ e. absurd (omega (arith, h.under, e.1))) (λ t. h.none k l m (t, s.1)) (listed_split x xs j k s.0);
        } in
        rw pos is
    | inr neg ↦
        let h = least_with top xs in
        let r = fold min top (targets xs) in
        let is : LeastWith top (x ∷ xs) r = record {
          under = h.under;
          one = ⊎_elim inl (λ s. inr (s.0, (listed_more x xs j r s.1.0, s.1.1))) h.one;
          none = λ k l m s. ⊎_elim (λ e. fails x neg e.0 (omega (arith, e.1)) (omega (arith, e.1, s.1)))
              (λ t. h.none k l m (t, s.1)) (listed_split x xs j k s.0);
        } in
        rw neg is
  ]

  -- the least target of the arrows that pass is the least point that is seen
  pub least_target : (xs : List (ℕ × ℕ)) → Least (Seen xs) a (reduce min (targets xs))
  least_target [] = λ k l h. absurd (omega (arith, h.0.1.0))
  least_target (x ∷ xs) = elim (cases_Bool (passes x)) [
    | inl pos ↦
        let p = passes_parts x pos in
        let h = least_with x.1 xs in
        let r = fold min x.1 (targets xs) in
        let Q : ℕ → Type 0 = λ k. (a < k) × Seen (x ∷ xs) k in
        let here : Q r = ⊎_elim (λ e. subst Q (sym e) (p.1, (first x xs p.0, p.2)))
        (λ s. (s.0, (listed_more x xs j r s.1.0, s.1.1))) h.one in
        let is : Least (Seen (x ∷ xs)) a (Some r) = (
          here.0,
          here.1,
          λ k l m s. ⊎_elim (λ e. omega (arith, h.under, e.1)) (λ t. h.none k l m (t, s.1)) (listed_split x xs j k s.0),
        ) in
        rw pos is
    | inr neg ↦
        let is : Least (Seen (x ∷ xs)) a (reduce min (targets xs)) = least_same (Seen xs) (Seen (x ∷ xs)) a (reduce min (targets xs))
        (λ k l s. (listed_more x xs j k s.0, s.1))
        (λ k l s. ⊎_elim (λ e. absurd (fails x neg e.0 (omega (arith, e.1)) (omega (arith, e.1, s.1)))) (λ t. (t, s.1)) (listed_split x xs j k s.0))
        (least_target xs) in
        rw neg is
  ]
