-- A rollback: which rows the host can drop, and the sheet afterwards. Assumes nothing.
use Rattle.std.proofs.Common.{◌≡◌, ℕ, ◌+◌, ◌<◌, Bool, true, false, cond, ◌&&◌, ◌||◌, None, ap, ◌∙◌, ap₂, arith}
use Rattle.std.proofs.lemmas.Bool.Decides.{nat_tests}
use Rattle.values.specs.Checks.{first_fault}
use Rattle.values.specs.Numbers.{same_host_state}
use Rattle.values.specs.declared.Cause.TheVariants.{ShutHost, OtherState}
use Rattle.values.specs.declared.HostState.TheVariants.{Open}
use Rattle.values.specs.declared.Layer.TheVariants.{Host as OfHost}
use Rattle.values.specs.declared.Mode.{Mode}
use Rattle.values.specs.declared.Mode.TheVariants.{Complete, Partial}
use Rattle.values.specs.declared.Phase.TheVariants.{Undoing}
use Rattle.values.specs.declared.RowState.TheVariants.{Running, Committed}
use Rattle.host.specs.Keys.{key_of, is_row}
use Rattle.host.specs.View.{View, move_checks}
use Rattle.model.specs.Calls.{lowest_row}
use Rattle.model.specs.Rollback.{fallen, strikes}
use Rattle.model.specs.Rows.{Rows, in_state, idle, with_states}
use Rattle.model.specs.Sheet.{aborted}
use Rattle.model.proofs.Basics.{passes, bad_at_none, first_below_none}
use Rattle.model.specs.Chart.{Chart}
use Rattle.rowset.specs.declared.RowSet.{RowSet}
use Rattle.rowset.specs.Members.{contains}
use Rattle.rows.specs.Marking.{HasStruck}
use Rattle.rows.specs.declared.table.RowTable.{RowTable}
use Rattle.rows.specs.Tables.{rows_of, rolled_of}
use Rattle.rows.proofs.Columns.{known_within}
use Rattle.sheet.specs.declared.sheets.Sheet.{Sheet as Code}
use Rattle.sheet.specs.Calls.{abort_own_checks, not_open, Droppable}
use Rattle.sheet.specs.Parts.{sheet_from}
use Rattle.sheet.specs.SheetOf.{sheet_of, chart_of}

-- a host that is open for the row, and has it open, can drop it
drops : (v : View) (k : ℕ) → is_row (key_of k) ≡ true → v.shut ≡ false → same_host_state (v.state (key_of k)) Open ≡ true
    → first_fault (move_checks Open v (key_of k)) ≡ None
drops v k row unshut there = grind arith

-- where the checks of abort pass, each running row can be dropped
pub droppable : (x : Code) (v : View) (m : Mode) → first_fault (abort_own_checks (sheet_of x) v m) ≡ None
    → Droppable (sheet_of x).rows v
droppable x v m none k runs =
    let ps = passes (abort_own_checks (sheet_of x) v m) none in
    let r = (sheet_of x).rows in
    let known = known_within x.table.rows.items k (grind arith) in
    let low : k < r.count + 1 = omega (arith, known.1) in
    let shut = first_below_none (r.count + 1) (λ j. v.shut && in_state r Running j)
    (bad_at_none (lowest_row r (λ j. v.shut && in_state r Running j)) ShutHost OfHost ps.1.1.0) k low in
    let opened = first_below_none (r.count + 1) (not_open r v)
    (bad_at_none (lowest_row r (not_open r v)) OtherState OfHost ps.1.1.1.0) k low in
    drops v k (let few = x.table.few in grind (arith, nat_tests)) (grind arith) (grind arith)

-- only committed rows are struck
strikes_committed : (c : Chart) (r : Rows) (m : Mode) (k : ℕ) → (in_state r Committed k && strikes c r m k) ≡ strikes c r m k
strikes_committed c r Complete k = grind arith
strikes_committed c r (Partial f) k = grind arith

module _ (x : Code) (m : Mode) (set : RowSet) where
  abbrev r : Rows
  r = rows_of x.table

  abbrev strike : ℕ → Bool
  strike = strikes (chart_of x) r m

  -- the committed rows of a set
  abbrev pub of_set : ℕ → Bool
  of_set k = in_state r Committed k && contains set k

  -- the sheet once its rows fell, where the set has the rows that the abort strikes
  pub rolled_back : (t : RowTable) → rows_of t ≡ with_states r (λ k. fallen (r.state k) (of_set k) (idle (chart_of x) r k))
      → rolled_of t ≡ (λ k. cond (in_state r Running k || of_set k) (x.rollback + 1) (rolled_of x.table k))
      → HasStruck (chart_of x) r m set
      → sheet_from t Undoing (x.rollback + 1) x.serial m ≡ aborted (chart_of x) (sheet_of x) m
  rolled_back t rows rolled has =
      let struck : (k : ℕ) → of_set k ≡ strike k =
      λ k. ap (λ b. in_state r Committed k && b) (has k) ∙ strikes_committed (chart_of x) r m k in
      let fell : rows_of t ≡ with_states r (λ k. fallen (r.state k) (strike k) (idle (chart_of x) r k)) =
      rows ∙ (λ i. with_states r (λ k. fallen (r.state k) (struck k i) (idle (chart_of x) r k))) in
      let numbers : rolled_of t ≡ (λ k. cond (in_state r Running k || strike k) (x.rollback + 1) (rolled_of x.table k)) =
      rolled ∙ (λ i k. cond (in_state r Running k || struck k i) (x.rollback + 1) (rolled_of x.table k)) in
      ap₂ (λ (y : Rows) (z : ℕ → ℕ). record {
        rows = y;
        rolled = z;
        phase = Undoing;
        rollback = x.rollback + 1;
        serial = x.serial;
        mode = m;
      }) fell numbers
