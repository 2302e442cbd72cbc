-- The rows that are linked to a row, by those that are linked to its predecessors. Assumes nothing.
use Rattle.std.proofs.Common.{◌≡◌, ℕ, ◌<◌, Bool, true, false, cond, ◌||◌, eqb, List, [], length, Decides, sym, refl, ap, ◌∙◌, inl, inr, arith}
use borrow.Author.Tests.{clash}
use Rattle.std.proofs.lemmas.Bool.{eq-eqb, ne_eqb, eqb-true, or_cases, or_left, or_right, and_parts, and_from}
use Rattle.std.proofs.lemmas.Bool.Decides.{same_from_decides}
use Rattle.values.specs.declared.RowState.TheVariants.{PassedOver}
use Rattle.model.specs.Rollback.{After, next, further, over_passed, linked}
use Rattle.model.specs.Rows.{Rows, in_state}
use Rattle.model.specs.Search.{any, has}
use Rattle.model.specs.Sheets.{Lower}
use Rattle.model.proofs.Basics.{any_out, any_in}
use Rattle.model.proofs.Reach.{after_lower}
use Rattle.rows.specs.declared.row.Row.{Row}
use Rattle.rows.specs.Columns.{columns, preds_of, Positive}
use Rattle.rows.specs.Linked.{brings}
use Rattle.rows.proofs.Arrows.{has_cond, joins_forth}
use Rattle.rows.proofs.Walks.{within_is}

-- the predecessors of a passed-over row; none of any other
abbrev passed_preds : Rows → ℕ → List ℕ
passed_preds r v = cond (in_state r PassedOver v) (r.preds v) []

-- what stands in a list that is there only if a test passes
has_test : (b : Bool) (xs : List ℕ) (k : ℕ) → has k (cond b xs []) ≡ true → b ≡ true
has_test true xs k m = refl
has_test false xs k m = m

module _ (rows : List Row) (lower : Lower (preds_of rows)) (positive : Positive (preds_of rows)) where
  abbrev r : Rows
  r = columns rows

  -- ── arrows of the paths to v ──

  lower_over : (v : ℕ) → Lower (over_passed r v)
  lower_over v x w m = lower x w (has_cond (eqb x v || in_state r PassedOver x) (preds_of rows x) w m)

  -- those into v are all there
  at_end : (v : ℕ) → over_passed r v v ≡ preds_of rows v
  at_end v = ap (λ b. cond (b || in_state r PassedOver v) (preds_of rows v) []) (eq-eqb v v refl)

  -- and into another row those of a passed-over one
  elsewhere : (v x : ℕ) → (x ≡ v → ⊥) → over_passed r v x ≡ passed_preds r x
  elsewhere v x ne = ap (λ b. cond (b || in_state r PassedOver x) (preds_of rows x) []) (ne_eqb x v ne)

  passed_over : (v x w : ℕ) → has w (passed_preds r x) ≡ true → has w (over_passed r v x) ≡ true
  passed_over v x w = go (eqb x v) (in_state r PassedOver x)
    where
      go : (a b : Bool) → has w (cond b (preds_of rows x) []) ≡ true → has w (cond (a || b) (preds_of rows x) []) ≡ true
      go true true m = m
      go true false m = absurd (clash m)
      go false b m = m

  -- ── paths ──

  widen : (v : ℕ) {u w : ℕ} → After (passed_preds r) u w → After (over_passed r v) u w
  widen v {u} {w} (next m) = next (passed_over v w u m)
  widen v {u} {w} (further {w = x} p m) = further (widen v p) (passed_over v w x m)

  -- below v
  narrow : (v : ℕ) {u w : ℕ} → w < v → After (over_passed r v) u w → After (passed_preds r) u w
  narrow v {u} {w} low (next m) = next (sym (ap (has u) (elsewhere v w (λ e. omega arith))) ∙ m)
  narrow v {u} {w} low (further {w = x} p m) =
      let less = lower_over v w x m in
      further (narrow v (omega arith) p) (sym (ap (has x) (elsewhere v w (λ e. omega arith))) ∙ m)

  end_passed : {u q : ℕ} → After (passed_preds r) u q → in_state r PassedOver q ≡ true
  end_passed {u} {q} (next m) = has_test (in_state r PassedOver q) (preds_of rows q) u m
  end_passed {u} {q} (further {w = w} p m) = has_test (in_state r PassedOver q) (preds_of rows q) w m

  -- at a passed-over row
  past_end : (u q : ℕ) → in_state r PassedOver q ≡ true → After (over_passed r q) u q → After (passed_preds r) u q
  past_end u q passed = go
    where
      into : (w : ℕ) → has w (over_passed r q q) ≡ true → has w (passed_preds r q) ≡ true
      into w m = ap (λ b. has w (cond b (preds_of rows q) [])) passed ∙ sym (ap (has w) (at_end q)) ∙ m

      go : After (over_passed r q) u q → After (passed_preds r) u q
      go (next m) = next (into u m)
      go (further {w = w} p m) = further (narrow q (lower_over q q w m) p) (into w m)

  -- ── what is linked ──

  linked_is : (u v : ℕ) → Decides (linked r u v) (After (over_passed r v) u v)
  linked_is u v =
      within_is (length rows) (over_passed r v) (lower_over v) u v
      (λ w m. (joins_forth rows lower positive w v (sym (ap (has w) (at_end v)) ∙ m)).1.1)

  -- only lower rows
  pub linked_lower : (u v : ℕ) → linked r u v ≡ true → u < v
  linked_lower u v t = after_lower (over_passed r v) (lower_over v) ((linked_is u v).0 t)

  linked_out : (u v : ℕ) → any (λ q. brings r q u) (preds_of rows v) ≡ true → After (over_passed r v) u v
  linked_out u v h =
      let (q, m, t) = any_out (λ q. brings r q u) (preds_of rows v) h in
      let there = ap (has q) (at_end v) ∙ m in
      elim (or_cases (eqb u q) _ t) [
        | inl e ↦ next (ap (λ k. has k (over_passed r v v)) (eqb-true u q e) ∙ there)
        | inr b ↦
            let (passed, l) = and_parts (in_state r PassedOver q) (linked r u q) b in
            further (widen v (past_end u q passed ((linked_is u q).0 l))) there
      ]

  linked_in : (u v : ℕ) → After (over_passed r v) u v → any (λ q. brings r q u) (preds_of rows v) ≡ true
  linked_in u v (next m) =
      any_in (λ q. brings r q u) (preds_of rows v) u (sym (ap (has u) (at_end v)) ∙ m) (or_left (eqb u u) _ (eq-eqb u u refl))
  linked_in u v (further {w = w} p m) =
      let back = narrow v (lower_over v v w m) p in
      any_in (λ q. brings r q u) (preds_of rows v) w (sym (ap (has w) (at_end v)) ∙ m)
      (or_right (eqb u w) _ (and_from (in_state r PassedOver w) (linked r u w) (end_passed back)
      ((linked_is u w).1 (widen w back))))

  pub linked_step : (u v : ℕ) → linked r u v ≡ any (λ q. brings r q u) (preds_of rows v)
  linked_step u v =
      same_from_decides (linked r u v) (any (λ q. brings r q u) (preds_of rows v)) (linked_is u v) (linked_out u v, linked_in u v)
