-- What the least member of a set tells of searches among a table's rows. Assumes nothing.
use Rattle.std.proofs.Common.{◌≡◌, ℕ, ◌+◌, ◌<◌, ◌≤◌, Bool, true, false, not, ◌&&◌, ltb, List, length, Some, None, Option, sym, ap, ◌∙◌, inl, inr, arith}
use Rattle.std.specs.Option.{is_some}
use Rattle.std.proofs.lemmas.Bool.{and_left, and_parts, cases_lt, false_from_ne_true, lt-ltb, le-ltb}
use Rattle.std.proofs.lemmas.Bool.Decides.{nat_tests}
use Rattle.values.specs.declared.RowState.{RowState}
use Rattle.values.specs.declared.RowState.TheVariants.{Absent, Due}
use Rattle.values.specs.Numbers.{same_state}
use Rattle.graph.specs.Reach.{Least}
use Rattle.model.specs.Rows.{in_state, live}
use Rattle.model.specs.Search.{any_below, first_below}
use Rattle.model.proofs.Basics.{any_below_in}
use Rattle.rowset.specs.declared.RowSet.{RowSet}
use Rattle.rowset.specs.Members.{contains}
use Rattle.rows.specs.declared.row.Row.{Row}
use Rattle.rows.specs.Columns.{columns, row_at}
use Rattle.rows.specs.Marking.{due_above}
use Rattle.rows.specs.States.{row_in}
use Rattle.rows.proofs.Below.{any_below_none, first_none, first_is}
use Rattle.rows.proofs.Columns.{known_within}

-- ── the least number above another that passes a test ──

-- p and q say the same of the numbers above `after`, and no other passes q
pub record Above (n after : ℕ) (p q : ℕ → Bool) : Type 0 where
  pub same : (k : ℕ) → after < k → p k ≡ q k
  pub none : (k : ℕ) → k ≤ after → q k ≡ false
  pub inside : (k : ℕ) → p k ≡ true → k < n

module _ (n after : ℕ) (p q : ℕ → Bool) (above : Above n after p q) where
  below : (m : ℕ) → ((k : ℕ) → after < k → k < m → p k ≡ true → ⊥) → (k : ℕ) → k < m → q k ≡ false
  below m fails k l = elim (cases_lt after k) [
    | inl high ↦ sym (above.same k high) ∙ false_from_ne_true _ (fails k high l)
    | inr low ↦ above.none k low
  ]

  pub first_above : (o : Option ℕ) → Least (λ k. p k ≡ true) after o → o ≡ first_below n q
  first_above None none = sym (first_none n q (below n (λ k l u. none k l)))
  first_above (Some t) (high, passes, least) =
      sym (first_is n q t (above.inside t passes) (sym (above.same t high) ∙ passes) (below t least))

  pub some_above : (o : Option ℕ) → Least (λ k. p k ≡ true) after o → is_some o ≡ any_below n q
  some_above None none = sym (any_below_none n q (below n (λ k l u. none k l)))
  some_above (Some t) (high, passes, least) =
      sym (any_below_in n q t (above.inside t passes) (sym (above.same t high) ∙ passes))

-- ── rows ──

-- a row in a state is a row
pub row_within : (rows : List Row) (st : RowState) (k : ℕ) → row_in (columns rows) st k ≡ true → (0 < k) × (k ≤ length rows)
row_within rows st k h = known_within rows k (grind (arith, nat_tests, and_parts (not (same_state st Absent)) _ h))

-- the members of a set, where each is a row
pub all_rows : (rows : List Row) (set : RowSet) (q : ℕ → Bool) → ((k : ℕ) → contains set k ≡ q k)
    → ((k : ℕ) → q k ≡ true → (0 < k) × (k ≤ length rows)) → Above (length rows + 1) 0 (contains set) q
all_rows rows set q has within = record {
  same = λ k l. has k;
  none = λ k l. false_from_ne_true (q k) (λ t. let w = within k t in omega arith);
  inside = λ k m. let w = within k (sym (has k) ∙ m) in omega arith;
}

-- a live row is a row
pub live_within : (rows : List Row) (k : ℕ) → live (row_at rows k).state ≡ true → (0 < k) × (k ≤ length rows)
live_within rows k h = known_within rows k (grind (arith, nat_tests))

-- one is due above another, where a least one is found there
pub due_above_is : (rows : List Row) (row : ℕ) (o : Option ℕ) → Least (λ k. in_state (columns rows) Due k ≡ true) row o
    → is_some o ≡ due_above (columns rows) row
due_above_is rows row o h = some_above (length rows + 1) row due (λ k. ltb row k && due k) (record {
  same = λ k l. sym (ap (λ b. b && due k) (lt-ltb row k l));
  none = λ k l. and_left (ltb row k) (due k) (le-ltb row k l);
  inside = λ k d. let w = row_within rows Due k d in omega arith;
}) o h
  where
    due : ℕ → Bool
    due k = in_state (columns rows) Due k
