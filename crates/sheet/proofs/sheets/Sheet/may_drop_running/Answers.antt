-- The first running row that the host would not drop is told.
use Rattle.std.proofs.Common.{◌≡◌, ℕ, true, Err, rules, sym, ap, ◌∙◌, subst}
use Rattle.values.specs.Checks.{answer, first_fault}
use Rattle.values.specs.declared.HostState.TheVariants.{Open}
use Rattle.values.specs.declared.RowState.TheVariants.{Running}
use Rattle.host.specs.Keys.{key_of}
use Rattle.host.specs.View.{move_checks}
use Rattle.host.proofs.Checks.{passes}
use Rattle.model.specs.Rows.{in_state}
use Rattle.rowset.specs.Members.{contains}
use Rattle.rowset.proofs.Iteration.{top_more, next_member, no_next_member}
use Rattle.sheet.specs.SheetOf.{sheet_of}
use Rattle.sheet.proofs.Aborting.{Clear, fails_with, clear_first, clear_more, clear_below, clear_all, drops_all, declines_first, runs_within, runs_as_row}
use Rattle.sheet.proofs.sheets.Sheet.may_drop_running.Goals as goal

pub loop-row-init : goal.loop-row-init
loop-row-init g c = clear_first c.args.self.now.table (g.X.Host.view c.args.host.now)

pub loop-row-preserved : goal.loop-row-preserved
loop-row-preserved g c =
    let r = (sheet_of c.args.self.now).rows in
    let v = g.X.Host.view c.args.host.now in
    let next = next_member c.rows_in-running.result _ _ c.into_iter-row-iterator.ensures.into_iter_gives c.iter-row-items.ensures
    c.loop-row.yielded_by c.in-Some.ensures.steps in
    subst (Clear r v) (sym (top_more 0 c.loop-row.yielded c.in-Some.row))
    (clear_more r v (contains c.rows_in-running.result) c.rows_in-running.ensures next c.loop-row.invariant
    (passes _ _ (simp c.row_key.ensures at c.may_move.ensures) c.in_ok-may_move.was))

pub returns-in_err-may_move : goal.returns-in_err-may_move
returns-in_err-may_move g c =
    let s = sheet_of c.args.self.now in
    let v = g.X.Host.view c.args.host.now in
    let n = c.in-Some.row in
    let is : (k : ℕ) → contains c.rows_in-running.result k ≡ in_state s.rows Running k = c.rows_in-running.ensures in
    let next = next_member c.rows_in-running.result _ _ c.into_iter-row-iterator.ensures.into_iter_gives c.iter-row-items.ensures
    c.loop-row.yielded_by c.in-Some.ensures.steps in
    let runs : in_state s.rows Running n ≡ true = sym (is n) ∙ next.1 in
    let e = c.in_err-may_move.field-0.0 in
    let fails = fails_with (first_fault (move_checks Open v (key_of n))) c.may_move.result e
    (simp c.row_key.ensures at c.may_move.ensures) c.in_err-may_move.was in
    let told : c.from_residual.result ≡ Err e = search rules in
    told ∙ sym (ap (λ f. answer f tt) (declines_first s v n e (runs_within c.args.self.now.table n runs) (runs_as_row c.args.self.now.table n runs)
    runs (clear_below s.rows v (contains c.rows_in-running.result) is next c.loop-row.invariant) fails))

pub returns : goal.returns
returns g c =
    let s = sheet_of c.args.self.now in
    let v = g.X.Host.view c.args.host.now in
    let past = no_next_member c.rows_in-running.result _ _ c.into_iter-row-iterator.ensures.into_iter_gives c.iter-row-items.ensures
    c.loop-row.yielded_by c.in-None.ensures.steps.0 in
    sym (ap (λ f. answer f tt)
    (drops_all s v (clear_all s.rows v (contains c.rows_in-running.result) c.rows_in-running.ensures past c.loop-row.invariant)))
