-- The host drops what runs, and the rows fall that the abort strikes.
use Rattle.std.proofs.Common.{◌≤◌, sym, subst, ap, ◌∙◌, rules, arith}
use Rattle.std.proofs.Math.Bridge.{le_prop}
use mathlib.Core.Logic.{∥∥₁_elim, ∥∥₁_map}
use Rattle.model.specs.Sheets.{Kept}
use Rattle.model.proofs.Kept.{on_abort}
use Rattle.values.specs.declared.RowState.TheVariants.{Due}
use Rattle.model.specs.Rows.{in_state}
use Rattle.sheet.specs.Graphs.{HasGraph}
use Rattle.sheet.specs.SheetOf.{sheet_of, chart_of}
use Rattle.sheet.proofs.Graphs.{graph_due}
use Rattle.sheet.proofs.Rolling.{droppable, rolled_back}
use Rattle.sheet.proofs.sheets.Sheet.roll_back.Goals as goal

pub drop_running-requires : goal.drop_running-requires
drop_running-requires g c = droppable c.args.self.now (g.X.Host.view c.args.host.now) c.args.mode c.requires.may

pub overflow_add-rollback : goal.overflow_add-rollback
overflow_add-rollback g c =
    let few : c.args.self.now.rollback ≤ 256 =
    ∥∥₁_elim c.args.self.now.kept le_prop (λ kept. omega (arith, kept.orderly.few_rollbacks, kept.orderly.few_rows)) in
    search (rules, arith)

pub invariant_of-self-2 : goal.invariant_of-self-2
invariant_of-self-2 g c =
    let x = c.args.self.now in
    let has = simp (c.unwrap-struck.ensures, c.steps.ensures) at c.struck.ensures.answer in
    let fell = simp c.steps-2.ensures at c.fall.ensures in
    let is = rolled_back x c.args.mode c.unwrap-struck.result c.fall.new.self fell.rows fell.rolled has in
    let v = g.X.Host.view c.args.host.now in
    record {
      kept = ∥∥₁_map x.kept
          (λ kept. subst Kept (sym is) (on_abort (chart_of x) (sheet_of x) v kept c.args.mode 257 256 c.requires.may));
      holds = subst (λ s. HasGraph s c.rows_in-self.result) (sym is)
          (graph_due (chart_of x) (sheet_of x) v c.args.mode 257 256 c.rows_in-self.result x.kept c.requires.may
          (λ k. c.rows_in-self.ensures k ∙ ap (λ s. in_state s.rows Due k) is));
    }

pub returns-clause-sheet : goal.returns-clause-sheet
returns-clause-sheet g c =
    let x = c.args.self.now in
    let has = simp (c.unwrap-struck.ensures, c.steps.ensures) at c.struck.ensures.answer in
    let fell = simp c.steps-2.ensures at c.fall.ensures in
    rolled_back x c.args.mode c.unwrap-struck.result c.fall.new.self fell.rows fell.rolled has
