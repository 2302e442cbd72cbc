-- The sets of the rows in each state, read and written. Assumes nothing.
use Rattle.std.proofs.Common.{◌≡◌, ℕ, ◌<◌, ◌≤◌, Bool, true, false, cond, not, ◌&&◌, eqb, List, [], replicate, sym, ap, ◌∙◌, inl, inr, arith}
use Rattle.std.proofs.lemmas.Bool.{cases_eq, eq-eqb, ne_eqb}
use Rattle.std.proofs.lemmas.Bool.Decides.{nat_tests}
use Rattle.values.specs.declared.RowState.{RowState}
use Rattle.values.specs.declared.RowState.TheVariants.{Absent, Running, Committed, Dropped, Due, Undone, PassedOver}
use Rattle.values.specs.Numbers.{row_state_number, same_state}
use Rattle.model.specs.Search.{at_put}
use Rattle.rowset.specs.declared.RowSet.{RowSet}
use Rattle.rowset.specs.Members.{is_number, contains}
use Rattle.rowset.proofs.Members.{none_in_none, within_numbers}
use Rattle.rows.specs.declared.row.Row.{Row}
use Rattle.rows.specs.Columns.{columns, row_at}
use Rattle.rows.specs.States.{set_at, row_in, HaveStates}
use Rattle.rows.proofs.Columns.{row_past}
use Rattle.rows.proofs.Followers.{nowhere}

-- the set of that state
abbrev pub of_state : List RowSet → RowState → RowSet
of_state sets st = set_at sets (row_state_number st)

-- a row put into the set of a state or taken out of it
abbrev pub Put : List RowSet → RowState → ℕ → Bool → List RowSet → Type 0
Put before to k is_member now = (st : RowState) (j : ℕ) → contains (of_state now st) j
    ≡ cond (same_state st to && eqb j k) (not (same_state st Absent) && (is_member && is_number j)) (contains (of_state before st) j)

-- the sets have the rows but one, by their states
abbrev pub Without : ℕ → List RowSet → List Row → Type 0
Without k sets rows = (st : RowState) (j : ℕ) → contains (of_state sets st) j ≡ (row_in (columns rows) st j && not (eqb j k))

-- a row taken out of the set of its state
pub taken_out : (rows : List Row) (k : ℕ) (from : RowState) (before now : List RowSet) → from ≡ (row_at rows k).state
    → Put before from k false now → HaveStates before rows → Without k now rows
taken_out rows k from before now is put had st j = put st j ∙ elim (cases_eq j k) [
  | inl e ↦
      let at = eq-eqb j k e in
      let old = had st j in
      let state : same_state (row_at rows j).state st ≡ same_state from st =
      ap (λ i. same_state (row_at rows i).state st) e ∙ ap (λ s. same_state s st) (sym is) in grind (arith, nat_tests)
  | inr ne ↦ let at = ne_eqb j k ne in let old = had st j in grind arith
]

-- a row that is not there is in no set
pub none_there : (rows : List Row) (k : ℕ) (sets : List RowSet) → same_state (row_at rows k).state Absent ≡ true
    → HaveStates sets rows → Without k sets rows
none_there rows k sets absent had st j = had st j ∙ elim (cases_eq j k) [
  | inl e ↦
      let at = eq-eqb j k e in
      let state : same_state (row_at rows j).state Absent ≡ true = ap (λ i. same_state (row_at rows i).state Absent) e ∙ absent in
      grind (arith, nat_tests)
  | inr ne ↦ let at = ne_eqb j k ne in grind arith
]

-- a row put into the set of its new state
pub put_back : (rows new : List Row) (k : ℕ) (to : RowState) (before now : List RowSet) → 0 < k → k ≤ 256
    → ◌≡◌ {A = ℕ → RowState} (λ j. (row_at new j).state) (at_put (λ j. (row_at rows j).state) k to)
    → Put before to k true now → Without k before rows → HaveStates now new
put_back rows new k to before now low high states put had st j =
    put st j
    ∙ elim (cases_eq j k) [
      | inl e ↦
          let at = eq-eqb j k e in
          let old = had st j in
          let there = ap is_number e ∙ within_numbers k low high in grind (arith, nat_tests)
      | inr ne ↦ let at = ne_eqb j k ne in let old = had st j in grind arith
    ]
    ∙ sym (ap (λ f. not (same_state st Absent) && same_state (f j) st) states)

-- no rows and empty sets
pub none_in_any : (set : RowSet) (rows : List Row) → rows ≡ [] → ((k : ℕ) → contains set k ≡ false) → HaveStates (replicate 6 set) rows
none_in_any set rows e none st k =
    empty st
    ∙ (let state = ap (λ r. same_state r.state Absent) (row_past rows k (nowhere rows k e)) in grind (arith, nat_tests))
  where
    empty : (st : RowState) → contains (of_state (replicate 6 set) st) k ≡ false
    empty Absent = none_in_none k
    empty Running = none k
    empty Committed = none k
    empty Dropped = none k
    empty Due = none k
    empty Undone = none k
    empty PassedOver = none k

-- rows whose states stay
pub kept_states : (rows new : List Row) (sets : List RowSet)
    → ◌≡◌ {A = ℕ → RowState} (λ j. (row_at new j).state) (λ j. (row_at rows j).state) → HaveStates sets rows → HaveStates sets new
kept_states rows new sets same had st j =
    had st j ∙ sym (ap (λ f. not (same_state st Absent) && same_state (f j) st) same)
