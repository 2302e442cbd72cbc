-- What marks that are exactly the steps reached say of the steps. Assumes nothing.
use Rattle.std.proofs.Common.{◌≡◌, ℕ, ◌+◌, ◌<◌, ◌≤◌, Bool, true, false, not, Bor, List, [], ◌∷◌, is_ok, Some, None, Ok, Err, Option, Result, sym, ◌∙◌, arith, MatchOption, MatchResult}
use Rattle.std.proofs.lemmas.Bool.{not-false, not-true}
use Rattle.std.proofs.lemmas.Iterator.{first_from_Range}
use Rattle.std.proofs.iter.Yields.{nat_range_steps}
use Rattle.std.specs.Bool.{⊤}
use Rattle.std.specs.Fn.{Mut, CalledAt}
use Rattle.std.specs.Iterator.{YieldsThen}
use Rattle.std.specs.List.{FoldsTo}
use Rattle.std.specs.declared.ops.Range.{Range}
use Rattle.std.proofs.lemmas.Bool.Decides.{nat_tests}
use Rattle.graph.specs.Column.{Marked}
use Rattle.graph.specs.Reach.{Start, Explored}
use Rattle.process.specs.declared.parts.Arrow.{Arrow}
use Rattle.process.specs.Stored.{Tail, Head}
use Rattle.process.specs.Stored.{ends_at, Leads, Fine}
use Rattle.process.specs.Shape.{fine_by, LowestUnfit, Shaped}

-- the three parts of the test
fine_says : (xs : List ℕ) (zs : List Arrow) (k : ℕ) → fine_by xs zs k ≡ true
    → (ends_at Tail zs k ≤ 8) × (ends_at Head zs k ≤ 8) × Marked xs k
fine_says xs zs k e = (grind (arith, nat_tests), grind (arith, nat_tests), grind (arith, nat_tests))

fine_if : (xs : List ℕ) (zs : List Arrow) (k : ℕ) → ends_at Tail zs k ≤ 8 → ends_at Head zs k ≤ 8 → Marked xs k
    → fine_by xs zs k ≡ true
fine_if xs zs k out in_few m = grind (arith, nat_tests)

module _ (zs : List Arrow) (n : ℕ) (before xs : List ℕ) (e : Explored (Leads zs n) (Start n (1 ∷ [])) before xs) where
  fine_from : (k : ℕ) → fine_by xs zs k ≡ true → Fine zs n k
  fine_from k b =
      let w = fine_says xs zs k b in
      record { out_few = w.0; in_few = w.1; reached = e.sound k w.2 }

  not_fine_from : (k : ℕ) → fine_by xs zs k ≡ false → Fine zs n k → ⊥
  not_fine_from k b f =
      let t = fine_if xs zs k f.out_few f.in_few (e.whole k f.reached) in
      let z : true ≡ false = sym t ∙ b in
      grind (arith, nat_tests)

  pub shaped_from : (r : Option ℕ) → LowestUnfit xs zs n r → Shaped zs n r
  shaped_from None h = λ k w. fine_from k (h k w)
  shaped_from (Some k) h = record {
    step_of = h.0;
    below_fine = λ j lo hi. fine_from j (h.1 j lo hi);
    not_fine = not_fine_from k h.2;
  }

-- `find` over a range, by the test that the closure computes
pub first_by : {F : Type 0} {g : Mut F (Bor ℕ × Unit {0}) Bool} (s u : Range ℕ) (f : F) (r : Option ℕ) (test : ℕ → Bool)
    → (xs : List ℕ) × (j : F) × YieldsThen nat_range_steps s xs r u × FoldsTo (λ p x q. CalledAt g p x false q) f xs j
    × MatchOption r ⊤ (λ x. (h : F) × CalledAt g j x true h)
    → ((x : ℕ) (b : Bool) (q : F) → CalledAt g f x b q → (q ≡ f) × (b ≡ test x))
    → MatchOption r ((k : ℕ) → s.start ≤ k → k < s.end → false ≡ test k)
    (λ i. (s.start ≤ i) × (i < s.end) × (true ≡ test i) × ((k : ℕ) → s.start ≤ k → k < i → false ≡ test k))
first_by s u f r test ran tells =
    first_from_Range s u f r (λ x. true ≡ test x) (λ x. false ≡ test x) ran
    (λ x q c. (tells x true q c).1) (λ x q. tells x false q)

-- the first step that fails the test
pub lowest_from : (xs : List ℕ) (zs : List Arrow) (n : ℕ) (r : Option ℕ)
    → MatchOption r ((k : ℕ) → 1 ≤ k → k < n + 1 → false ≡ not (fine_by xs zs k))
    (λ i. (1 ≤ i) × (i < n + 1) × (true ≡ not (fine_by xs zs i)) × ((k : ℕ) → 1 ≤ k → k < i → false ≡ not (fine_by xs zs k)))
    → LowestUnfit xs zs n r
lowest_from xs zs n None h = λ k w. not-false _ (sym (h k w.0 (omega (arith, w.1))))
lowest_from xs zs n (Some k) h =
    ((h.0, omega (arith, h.1)), (λ j lo hi. not-false _ (sym (h.3 j lo hi))), not-true _ (sym h.2))

-- what holds of an answer that is known to be `Ok`
pub at_ok : {T E : Type 0} (A B : Type 0) (r : Result T E) → is_ok r ≡ true → MatchResult r (λ _. A) (λ _. B) → A
at_ok A B (Ok x) e h = h
at_ok A B (Err y) e h = let z : ◌≡◌ {A = ℕ} 0 1 = cc in absurd (omega arith)
