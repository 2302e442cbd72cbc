-- A row that may start can be added to the table. Assumes nothing.
use Rattle.std.proofs.Common.{◌≡◌, ℕ, ◌+◌, ◌≤◌, Bool, true, false, cond, not, ◌&&◌, ◌||◌, eqb, ltb, leb, List, ◌++◌, length, None, Option, refl, sym, subst, ap, ◌∙◌, inl, inr, arith}
use Rattle.std.proofs.lemmas.Bool.{and_from, or_parts, not-false, eqb-true, le-leb, lt-ltb, cases_Bool, both_ways, not_from_false, not_from_true}
use Rattle.values.specs.declared.Cause.TheVariants.{NoSuch, WrongCount}
use Rattle.values.specs.declared.Flow.{Flow}
use Rattle.values.specs.declared.Kind.{Kind}
use Rattle.values.specs.declared.Layer.TheVariants.{Sheet as OfSheet}
use Rattle.values.specs.declared.RowState.TheVariants.{Absent, Running}
use Rattle.values.specs.Numbers.{same_state}
use Rattle.host.specs.Keys.{key_of}
use Rattle.host.specs.View.{View, begin_checks}
use Rattle.model.specs.Chart.{Chart, step_at, has_step, arrows_into, by_flow, wanted}
use Rattle.model.specs.Search.{any}
use Rattle.model.specs.Rows.{added, any_live, is_row}
use Rattle.model.specs.Sheet.{Sheet, with_rows}
use Rattle.model.specs.Calls.{lawful, start_checks, start_fault}
use Rattle.model.proofs.Basics.{passes, passed_test, bad_none, any_out}
use Rattle.model.proofs.Accepted.{start_fits, start_room}
use Rattle.values.specs.declared.Entry.{Entry}
use Rattle.values.specs.declared.Fault.{Fault}
use Rattle.values.specs.Checks.{first_fault}
use Rattle.process.specs.Accepted.{tables_of}
use Rattle.process.specs.declared.accepted.Process.{Process}
use Rattle.rows.specs.declared.table.RowTable.{RowTable}
use Rattle.rows.specs.Columns.{fits, no_row, row_at}
use Rattle.rows.specs.Tables.{rows_of, rolled_of}
use Rattle.rows.proofs.Columns.{known_within, row_past}
use Rattle.sheet.specs.declared.sheets.Sheet.{Sheet as Code}
use Rattle.sheet.specs.Graphs.{HasGraph}
use Rattle.sheet.specs.Parts.{sheet_from}
use Rattle.sheet.specs.SheetOf.{sheet_of, chart_of}
use Rattle.sheet.proofs.Graphs.{graph_state, graph_put}
use Rattle.sheet.proofs.Comings.{Passes, none_declines, other_rows}
use mathlib.Core.Logic.{∥∥₁_map}
use Rattle.model.specs.Sheets.{Kept}
use Rattle.model.proofs.Kept.{on_start}

module _ (c : Chart) (s : Sheet) (v : View) (k : ℕ) (fs : List ℕ) (fair : Bool) (kind : Kind)
    (none : start_fault c s v k fs fair kind ≡ None) where
  abbrev miscounted : Bool
  miscounted = not (eqb (length fs) (wanted c k)) || (eqb k 1 && any_live s.rows)

  step_there : has_step c k ≡ true
  step_there =
      let ps = passes (start_checks c s k fs fair ++ begin_checks v (key_of (s.rows.count + 1)) kind) none in
      passed_test (has_step c k) NoSuch OfSheet k ps.1.0

  counted : length fs ≡ wanted c k
  counted =
      let ps = passes (start_checks c s k fs fair ++ begin_checks v (key_of (s.rows.count + 1)) kind) none in
      let b = bad_none miscounted WrongCount OfSheet (length fs) ps.1.1.0 in
      let (n, _) = or_parts (not (eqb (length fs) (wanted c k))) _ b in
      eqb-true (length fs) (wanted c k) (not-false _ n)

  few_wanted : (entry : Flow) (t : Bool) → arrows_into c k ≤ 8 → cond t 0 (by_flow entry 1 (arrows_into c k)) ≤ 8
  few_wanted entry t h = grind arith

  may_add : arrows_into c k ≤ 8 → ((x : ℕ) → same_state (s.rows.state x) Absent ≡ false → is_row s.rows x ≡ true)
      → fits s.rows fs ≡ true
  may_add few rows =
      let room = lt-ltb s.rows.count 256 (start_room c s v k fs fair kind none) in
      let short : length fs ≤ 8 =
      (let w = few_wanted (step_at c k).entry (eqb k 1) few in let e = counted in omega arith) in
      let inside : any (λ x. not (is_row s.rows x)) fs ≡ false = elim (cases_Bool (any (λ x. not (is_row s.rows x)) fs)) [
        | inl t ↦
            let (x, m, q) = any_out (λ x. not (is_row s.rows x)) fs t in
            let committed = start_fits c s v k fs fair kind none x m in
            let there = rows x (ap (λ st. same_state st Absent) committed) in
            absurd (both_ways (not (is_row s.rows x)) (not_from_true _ there) q)
        | inr t ↦ t
      ] in
      and_from (ltb s.rows.count 256) _ room
      (and_from (leb (length fs) 8) _ (le-leb (length fs) 8 short) (not_from_false _ inside))

-- the facts of a table and of a process
table_rows : (t : RowTable) (x : ℕ) → same_state ((rows_of t).state x) Absent ≡ false → is_row (rows_of t) x ≡ true
table_rows t x h = let known = known_within t.rows.items x h in grind arith

few_into : (p : Process) (k : ℕ) → has_step (tables_of p) k ≡ true → arrows_into (tables_of p) k ≤ 8
few_into p k h = let few = p.in_few k in grind arith

-- the sheet's own checks of a start
abbrev pub start_own : Code → ℕ → List ℕ → Entry → List (Option Fault)
start_own x k fs e = start_checks (chart_of x) (sheet_of x) k fs (lawful (step_at (chart_of x) k) e)

-- and the host's
abbrev pub start_asked : Code → View → Entry → List (Option Fault)
start_asked x v e = begin_checks v (key_of ((sheet_of x).rows.count + 1)) e.kind

-- where neither declines
module _ (x : Code) (v : View) (k : ℕ) (fs : List ℕ) (e : Entry)
    (own : Passes (first_fault (start_own x k fs e))) (asked : Passes (first_fault (start_asked x v e))) where
  none : first_fault (start_own x k fs e ++ start_asked x v e) ≡ None
  none = none_declines (start_own x k fs e) (start_asked x v e) own asked

  -- the row fits into the table
  pub room : fits (rows_of x.table) fs ≡ true
  room =
      let d = chart_of x in
      let s = sheet_of x in
      let fair = lawful (step_at d k) e in
      may_add d s v k fs fair e.kind none (few_into x.process k (step_there d s v k fs fair e.kind none)) (table_rows x.table)

  module _ (t : RowTable) {added_it : Bool} (is : added_it ≡ fits (rows_of x.table) fs)
      (rows : rows_of t ≡ cond added_it (added (rows_of x.table) k fs e) (rows_of x.table))
      (rolled : rolled_of t ≡ rolled_of x.table) where
    -- the sheet once it was added
    pub pushed : sheet_from t x.phase x.rollback x.serial x.mode ≡ with_rows (sheet_of x) (added (sheet_of x).rows k fs e)
    pushed =
        let s = sheet_of x in
        other_rows x t (added s.rows k fs e)
        (rows ∙ ap (λ b. cond b (added s.rows k fs e) s.rows) (is ∙ room)) rolled

    pub start_kept : ∥ Kept (sheet_from t x.phase x.rollback x.serial x.mode) ∥₁
    start_kept = ∥∥₁_map x.kept (λ kept. subst Kept (sym pushed) (on_start (chart_of x) (sheet_of x) v kept k fs e none))

    -- the number of the new row was absent
    pub start_holds : HasGraph (sheet_from t x.phase x.rollback x.serial x.mode) x.graph
    start_holds =
        let s = sheet_of x in
        let n = s.rows.count + 1 in
        let absent : no_row ≡ row_at x.table.rows.items n = row_past x.table.rows.items n (inr (omega arith)) in
        subst (λ u. HasGraph u x.graph) (sym pushed)
        (graph_put s x.graph n Running (sym (ap (λ r. graph_state r.state) absent)) x.holds (added s.rows k fs e) refl)
