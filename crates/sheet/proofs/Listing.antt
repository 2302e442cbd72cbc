-- The parts of a listing: arrows, and how many there can be, and restart points. Assumes nothing.
use Rattle.std.proofs.Common.{◌≡◌, ℕ, zero, suc, ◌+◌, ◌-◌, ◌++◌, cond, refl, add-zero, add-one, ◌*◌, ◌<◌, ◌≤◌, Bool, true, false, ◌&&◌, ◌||◌, eqb, List, [], ◌∷◌, length, map, sym, ap, ◌∙◌, inl, inr, arith}
use mathlib.Core.Path.{fun_ext}
use Rattle.std.proofs.lemmas.Bool.{and_parts, eqb-true, cases_Bool, cases_eq, cases_lt, and_left, and_right}
use Rattle.values.specs.declared.RowArrow.{RowArrow}
use Rattle.values.specs.declared.RowState.TheVariants.{Committed}
use Rattle.values.specs.Numbers.{same_state}
use Rattle.model.specs.Chart.{Chart}
use Rattle.model.specs.Rollback.{behind, stopped}
use Rattle.model.specs.Rows.{Rows, in_state, is_savepoint}
use Rattle.model.specs.Search.{any_below, each_below, all_below}
use Rattle.model.specs.Sheet.{in_graph, arrows_from, graph_arrows}
use Rattle.rowset.specs.declared.RowSet.{RowSet}
use Rattle.rowset.specs.Members.{is_number, contains}
use Rattle.rowset.proofs.Members.{outside, within_numbers}
use Rattle.rowset.proofs.Iteration.{numbered}
use Rattle.rowset.specs.Iteration.{greatest, members as members_of, members_above}
use Rattle.std.specs.List.{filter, range_with_len}
use Rattle.std.proofs.lemmas.List.{append-nil, append_assoc}
use Rattle.rows.specs.Columns.{no_row, row_at}
use Rattle.rows.specs.Marking.{HasBackward}
use Rattle.rows.proofs.Columns.{known_within, row_past}
use Rattle.sheet.specs.declared.sheets.Sheet.{Sheet as Code}
use Rattle.sheet.specs.Listings.{HasBehind, ends, members, only_if}
use Rattle.sheet.specs.SheetOf.{sheet_of, chart_of}
use Rattle.sheet.proofs.Puts.{each_lower, map_each, given, length_given}
use Rattle.sheet.proofs.Searching.{any_below_same}

-- members as a list, where none is above a number
pub members_below : (set : RowSet) (n : ℕ) (p : ℕ → Bool) → n ≤ 257 → ((k : ℕ) → contains set k ≡ p k)
    → ((k : ℕ) → n ≤ k → p k ≡ false) → members set ≡ all_below n p
unfolding members
members_below set n p low is none =
    ap (all_below 257) (fun_ext is)
    ∙ each_lower (λ k. only_if (p k) k) n 257 low (λ k l h. ap (λ b. only_if b k) (none k l))

-- members as a list, as an iterator gives them
all_to : (p : ℕ → Bool) (a n : ℕ) → all_below (a + n) p ≡ all_below a p ++ filter p (range_with_len a n)
all_to p a zero = ap (λ n. all_below n p) (add-zero a) ∙ sym (append-nil (all_below a p))
all_to p a (suc n) =
    let same : a + suc n ≡ a + 1 + n = omega arith in
    ap (λ n. all_below n p) same ∙ all_to p (a + 1) n
    ∙ ap (λ m. all_below m p ++ filter p (range_with_len (a + 1) n)) (add-one a) ∙ append_assoc (all_below a p) _ _
    ∙ ap (λ xs. all_below a p ++ xs) (one (p a))
  where
    one : (b : Bool) → cond b (a ∷ []) [] ++ filter p (range_with_len (a + 1) n)
        ≡ cond b (a ∷ filter p (range_with_len (a + 1) n)) (filter p (range_with_len (a + 1) n))
    one true = refl
    one false = refl

pub members_listed : (set : RowSet) → length set.words ≡ 4 → members set ≡ members_of set
unfolding members members_above
members_listed set long =
    let size : 256 ≡ greatest set - 0 = omega (arith, long) in
    all_to (contains set) 1 256 ∙ ap (λ n. filter (contains set) (range_with_len 1 n)) size

-- the same, where none is above a number
pub members_to : (set : RowSet) (n : ℕ) (p : ℕ → Bool) → 0 < n → ((k : ℕ) → contains set k ≡ p k)
    → ((k : ℕ) → n ≤ k → p k ≡ false) → members_of set ≡ all_below n p
unfolding members_above
members_to set n p some is none =
    let m = 1 + (greatest set - 0) in
    sym (all_to (contains set) 1 (greatest set - 0)) ∙ ap (all_below m) (fun_ext is) ∙ elim (cases_lt n m) [
      | inl low ↦ each_lower (λ k. only_if (p k) k) n m (omega arith) (λ k l h. ap (λ b. only_if b k) (none k l))
      | inr high ↦ sym (each_lower (λ k. only_if (p k) k) m n (omega arith) (λ k l h. ap (λ b. only_if b k) (past k l)))
    ]
  where
    past : (k : ℕ) → 1 + (greatest set - 0) ≤ k → p k ≡ false
    past k l = elim (cases_Bool (p k)) [
      | inl is_in ↦ let within = numbered set k (is k ∙ is_in) in absurd (omega arith)
      | inr out ↦ out
    ]

module _ (x : Code) where
  -- an arrow from a row
  abbrev pub arrow : ℕ → ℕ → RowArrow
  arrow v u = record { from = v; to = u }

  -- the rows that the arrows from a row lead to
  pub ends_listed : (v : ℕ) (set : RowSet) → ((u : ℕ) → contains set u ≡ ends (sheet_of x) v u)
      → members_of set ≡ all_below ((sheet_of x).rows.count + 1) (ends (sheet_of x) v)
  ends_listed v set is =
      members_to set ((sheet_of x).rows.count + 1) (ends (sheet_of x) v) (omega arith) is (λ k l. elim (cases_Bool (ends (sheet_of x) v k)) [
        | inl is_in ↦
            let within = (known_within x.table.rows.items k (let there = (and_parts (in_graph (sheet_of x) k) _ is_in).0 in grind arith)).1 in absurd (omega arith)
        | inr out ↦ out
      ])

  -- there are no more than rows
  pub few_ends : (v : ℕ) (set : RowSet) → ((u : ℕ) → contains set u ≡ ends (sheet_of x) v u)
      → length (members_of set) ≤ (sheet_of x).rows.count + 1
  few_ends v set is =
      let same = ap length (ends_listed v set is) in
      let few = length_given (ends (sheet_of x) v) (λ k. k ∷ []) 1 ((sheet_of x).rows.count + 1) (λ k. omega arith) in
      omega (arith, same, few)

  -- a row of the graph is one of the rows
  pub graph_within : (k : ℕ) → in_graph (sheet_of x) k ≡ true → k ≤ (sheet_of x).rows.count
  graph_within k there = (known_within x.table.rows.items k (grind arith)).1

  -- so is a row of the first step
  pub step_within : (k : ℕ) → (sheet_of x).rows.step k ≡ 1 → k ≤ (sheet_of x).rows.count
  step_within k first = elim (cases_lt (sheet_of x).rows.count k) [
    | inl past ↦ let none = ap (λ row. row.step) (row_past x.table.rows.items k (inr past)) in omega (arith, none, first)
    | inr there ↦ there
  ]

  pub first_step_within : (k : ℕ) → (sheet_of x).rows.count < k → eqb ((sheet_of x).rows.step k) 1 ≡ false
  first_step_within k past = elim (cases_Bool (eqb ((sheet_of x).rows.step k) 1)) [
    | inl first ↦ let within = step_within k (eqb-true _ _ first) in absurd (omega arith)
    | inr other ↦ other
  ]

  -- an arrow from a row
  abbrev pub arrow_to : ℕ → ℕ → List RowArrow
  arrow_to v u = record { from = v; to = u } ∷ []

  -- the arrows from a row, by the set of the rows that they lead to
  pub arrows_by : (v : ℕ) (p : ℕ → Bool) → ((u : ℕ) → p u ≡ ends (sheet_of x) v u)
      → each_below ((sheet_of x).rows.count + 1) (given p (arrow_to v)) ≡ arrows_from (sheet_of x) v
  arrows_by v p is =
      let n = (sheet_of x).rows.count + 1 in
      let arrow : ℕ → RowArrow = λ u. record { from = v; to = u } in
      sym (map_each arrow p n) ∙ ap (λ q. map arrow (all_below n q)) (fun_ext is)

  -- the arrows of the graph, by the set of its rows
  pub graph_by : (p : ℕ → Bool) → ((k : ℕ) → p k ≡ in_graph (sheet_of x) k)
      → each_below ((sheet_of x).rows.count + 1) (given p (arrows_from (sheet_of x))) ≡ graph_arrows (sheet_of x)
  graph_by p is = ap (λ q. each_below ((sheet_of x).rows.count + 1) (given q (arrows_from (sheet_of x)))) (fun_ext is)

  few_from : (v : ℕ) → length (arrows_from (sheet_of x) v) ≤ 257
  few_from v =
      let n = (sheet_of x).rows.count + 1 in
      let arrow : ℕ → RowArrow = λ u. record { from = v; to = u } in
      let same = map_each arrow (ends (sheet_of x) v) n in
      let few = length_given (ends (sheet_of x) v) (arrow_to v) 1 n (λ k. omega arith) in
      omega (arith, x.table.few, x.table.rows.ok.0, ap length same, few)

  -- so the place after the arrows from the rows below another is small
  pub few_below : (p : ℕ → Bool) (n : ℕ) → length (each_below n (given p (arrows_from (sheet_of x)))) ≤ n * 257
  few_below p n = length_given p (arrows_from (sheet_of x)) 257 n few_from

  -- ── restart points ──

  past : (k : ℕ) → (sheet_of x).rows.count < k → no_row ≡ row_at x.table.rows.items k
  past k high = row_past x.table.rows.items k (inr high)

  module _ (f : ℕ) where
    -- only rows stop the way back
    not_stopped : (k : ℕ) → (sheet_of x).rows.count < k → stopped (chart_of x) (sheet_of x).rows f k ≡ false
    not_stopped k high =
        let r = (sheet_of x).rows in
        let none : in_state r Committed k ≡ false = ap (λ row. same_state row.state Committed) (sym (past k high)) in
        and_right (is_savepoint (chart_of x) r k) _ (and_left (in_state r Committed k) _ none)

    pub stops_listed : (set : RowSet) → ((k : ℕ) → contains set k ≡ stopped (chart_of x) (sheet_of x).rows f k)
        → members set ≡ all_below ((sheet_of x).rows.count + 1) (stopped (chart_of x) (sheet_of x).rows f)
    stops_listed set is =
        members_below set ((sheet_of x).rows.count + 1) (stopped (chart_of x) (sheet_of x).rows f)
        (omega (arith, x.table.few, x.table.rows.ok.0)) is (λ k l. not_stopped k (omega arith))

    -- a search of the rows behind, by their set
    pub any_behind : (set : RowSet) → HasBehind (chart_of x) (sheet_of x).rows f set → (q : ℕ → Bool) → q 0 ≡ false
        → any_below ((sheet_of x).rows.count + 1) (λ k. contains set k && q k)
        ≡ any_below ((sheet_of x).rows.count + 1) (λ k. behind (chart_of x) (sheet_of x).rows f k && q k)
    any_behind set has q none =
        let b : ℕ → Bool = behind (chart_of x) (sheet_of x).rows f in
        any_below_same ((sheet_of x).rows.count + 1) (λ k. contains set k && q k) (λ k. b k && q k)
        (λ k l. elim (cases_eq k 0) [
          | inl e ↦
              let out : q k ≡ false = ap q e ∙ none in
              and_right (contains set k) (q k) out ∙ sym (and_right (b k) (q k) out)
          | inr ne ↦
              let number = within_numbers k (omega arith) (omega (arith, x.table.few, x.table.rows.ok.0)) in
              ap (λ t. t && q k) (has k ∙ ap (λ t. t && b k) number)
        ])

-- the failing row, added to its backward part
pub behind_by : (c : Chart) (r : Rows) (f : ℕ) (set more : RowSet) → length set.words ≡ 4 → HasBackward c r f set
    → ((k : ℕ) → contains more k ≡ (contains set k || (eqb k f && is_number k))) → HasBehind c r f more
behind_by c r f set more long has put k =
    let new = put k in
    let old = has k in
    elim (cases_Bool (is_number k)) [
      | inl t ↦ grind arith
      | inr n ↦ let none = outside set.words long k n in grind arith
    ]
