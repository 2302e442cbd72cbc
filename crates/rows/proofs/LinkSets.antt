-- The sets of the rows that are linked to each row. Assumes nothing.
use Rattle.std.proofs.Common.{◌≡◌, ℕ, ◌<◌, ◌≤◌, Bool, true, eqb, List, length, Some, get_or, set, sym, refl, ap, ◌∙◌, inl, inr, arith}
use Rattle.std.proofs.lemmas.Bool.{both_ways, cases_eq, eq-eqb}
use Rattle.std.proofs.lemmas.List.{get_or-set_same, get_or-set_other}
use Rattle.graph.specs.Reach.{Least}
use Rattle.model.specs.Rollback.{linked}
use Rattle.model.specs.Rows.{Rows}
use Rattle.model.specs.Search.{has}
use Rattle.rowset.specs.declared.RowSet.{RowSet}
use Rattle.rowset.specs.Members.{contains}
use Rattle.rowset.proofs.Loops.{below_next}
use Rattle.rows.specs.States.{no_set}
use Rattle.rows.specs.Linked.{links_at, HasLinks}
use Rattle.rows.proofs.Lists.{any_found}

-- an element stands in its list
pub has_element : (xs : List ℕ) (i : ℕ) → i < length xs → has (get_or xs i 0) xs ≡ true
has_element xs i h = any_found (eqb (get_or xs i 0)) xs i 0 h (eq-eqb _ (get_or xs i 0) refl)

-- the sets of the wanted rows from `least` on are known up to `last`, and t is the next of them
module _ (r : Rows) (least : ℕ) (sets : List RowSet) (wanted : ℕ → Bool) (last t : ℕ)
    (next : Least (λ k. wanted k ≡ true) last (Some t))
    (known : (q : ℕ) → least ≤ q → q ≤ last → wanted q ≡ true → HasLinks r least q (links_at sets q)) where
  pub known_below : (q : ℕ) → least ≤ q → q < t → wanted q ≡ true → HasLinks r least q (links_at sets q)
  known_below q from l =
      below_next wanted (λ k. least ≤ k → wanted k ≡ true → HasLinks r least k (links_at sets k))
      (λ k out from w. absurd (both_ways (wanted k) out w)) (λ k low from. known k from low) next q l from

  pub known_more : (x : RowSet) → t < length sets → HasLinks r least t x
      → (q : ℕ) → least ≤ q → q ≤ t → wanted q ≡ true → HasLinks r least q (links_at (set sets t x) q)
  known_more x room here q from l w u on = elim (cases_eq q t) [
    | inl e ↦
        ap (λ k. contains (links_at (set sets t x) k) u) e
        ∙ ap (λ s. contains s u) (get_or-set_same sets t x no_set room) ∙ here u on ∙ ap (λ k. linked r u k) (sym e)
    | inr ne ↦ ap (λ s. contains s u) (get_or-set_other sets t q x no_set ne) ∙ known_below q from (omega arith) w u on
  ]
