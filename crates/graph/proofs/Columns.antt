-- Lemmas on the marks of a column.
use Rattle.std.proofs.Common.{◌≡◌, ℕ, ◌<◌, Bool, true, false, cond, not, ◌&&◌, eqb, ltb, List, length, get_or, set, sym, ap, ◌∙◌, subst, inl, inr, arith}
use Rattle.std.proofs.lemmas.List.{get_or-set_same, get_or-set_other, length-set}
use Rattle.std.proofs.lemmas.Bool.{cases_eq, lt-ltb, ltb-true, and_parts}
use Rattle.std.proofs.lemmas.Bool.Decides.{nat_tests}
use Rattle.graph.specs.Column.{mark_count, covered, marked, Marked, Plain, with_mark, Kept}

-- a point that has a mark is below the number of marks
pub below_count : (size k : ℕ) → covered size k ≡ true → k < mark_count
below_count size k h = ltb-true k mark_count (and_parts (ltb k mark_count) (ltb k size) h).0

-- and its byte is within the column
pub below_size : (size k : ℕ) → covered size k ≡ true → k < size
below_size size k h = ltb-true k size (and_parts (ltb k mark_count) (ltb k size) h).1

-- a point with a mark, once it is marked
pub with_mark_below : (xs : List ℕ) (k : ℕ) → k < mark_count → with_mark xs k ≡ set xs k 1
with_mark_below xs k h = rw (lt-ltb k mark_count h)

-- a mark leaves what follows the marks as it was
pub kept_set : (xs : List ℕ) (i v : ℕ) → i < mark_count → Kept xs (set xs i v)
kept_set xs i v h = record {
  rest = λ k l. get_or-set_other xs i k v 0 (λ e. omega arith);
  size = length-set xs i v;
}

-- what is kept twice is kept
pub kept_then : {xs ys zs : List ℕ} → Kept xs ys → Kept ys zs → Kept xs zs
kept_then p q = record { rest = λ k h. q.rest k h ∙ p.rest k h; size = q.size ∙ p.size }

-- a point is marked once its mark is set
pub marked_here : (xs : List ℕ) (t : ℕ) → t < mark_count → t < length xs → Marked (set xs t 1) t
marked_here xs t low len = let one = get_or-set_same xs t 1 0 len in grind (arith, nat_tests)

-- and any other point is marked if it was
pub marked_other : (xs : List ℕ) (t k v : ℕ) → (k ≡ t → ⊥) → marked (set xs t v) k ≡ marked xs k
marked_other xs t k v ne = ap (λ (y : ℕ). ltb k mark_count && not (eqb y 0)) (get_or-set_other xs t k v 0 ne)

-- a marked point stays marked
pub marked_set : (xs : List ℕ) (t k : ℕ) → t < mark_count → t < length xs → Marked xs k → Marked (set xs t 1) k
marked_set xs t k low len m =
    elim (cases_eq k t) [
      | inl e ↦ let P : ℕ → Type 0 = Marked (set xs t 1) in subst P (sym e) (marked_here xs t low len)
      | inr ne ↦ marked_other xs t k 1 ne ∙ m
    ]

-- marks that are 0 or 1 stay so
pub plain_set : (xs : List ℕ) (t : ℕ) → t < mark_count → t < length xs → Plain xs → Plain (set xs t 1)
plain_set xs t low len p k h =
    elim (cases_eq k t) [
      | inl e ↦
          let one : get_or (set xs t 1) k 0 ≡ 1 = ap (λ (j : ℕ). get_or (set xs t 1) j 0) e ∙ get_or-set_same xs t 1 0 len in
          grind (arith, nat_tests)
      | inr ne ↦ get_or-set_other xs t k 1 0 ne ∙ p k h ∙ ap (λ (b : Bool). cond b 1 0) (sym (marked_other xs t k 1 ne))
    ]

-- where no point is marked, the marks are 0 or 1
pub plain_unmarked : (xs : List ℕ) → ((k : ℕ) → marked xs k ≡ false) → Plain xs
plain_unmarked xs none k h = let z = none k in grind (arith, nat_tests)
