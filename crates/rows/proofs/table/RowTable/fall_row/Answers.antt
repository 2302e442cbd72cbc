use Rattle.std.proofs.Common.{[], cond, true, ap, ap₂, ◌∙◌}
use Rattle.values.specs.declared.RowState.TheVariants.{Absent}
use Rattle.model.specs.Rollback.{fallen}
use Rattle.model.specs.Rows.{Rows, idle, in_state, marked}
use Rattle.rows.specs.Tables.{rows_of}
use Rattle.rows.proofs.Falls.{one_fallen}
use Rattle.rows.proofs.table.RowTable.fall_row.Goals as goal

pub returns-clause-rows : goal.returns-clause-rows
returns-clause-rows c =
    let r = rows_of c.args.self.now in
    let row = c.args.row in
    let to = c.fallen-to.result in
    let state = c.state.ensures ∙ ap (λ (x : Rows). x.state row) c.set_rolled.ensures.rows in
    let is_idle = c.is_idle.ensures ∙ ap (λ (x : Rows). idle (c.args.steps.now, []) x row) c.set_rolled.ensures.rows in
    let is = c.fallen-to.ensures ∙ ap₂ (λ st b. fallen st true b) state is_idle in
    c.set_state.ensures.rows
    ∙ ap (λ (x : Rows). cond (in_state x Absent row) x (marked x row to)) c.set_rolled.ensures.rows
    ∙ one_fallen (c.args.steps.now, []) r row to is

pub returns-clause-rolled : goal.returns-clause-rolled
returns-clause-rolled c = c.set_state.ensures.rolled ∙ c.set_rolled.ensures.rolled
