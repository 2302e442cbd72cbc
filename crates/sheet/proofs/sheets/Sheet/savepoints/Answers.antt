use Rattle.std.proofs.Common.{ℕ, Bool, ◌∙◌, arith}
use Rattle.std.proofs.Math.Bool.{and_comm}
use Rattle.model.specs.Rows.{is_savepoint}
use Rattle.rowset.specs.Members.{contains}
use Rattle.rowset.proofs.Iteration.{next_member, given_all}
use Rattle.rowset.proofs.Loops.{member_number}
use Rattle.rows.proofs.Members.{found_put, found_all}
use Rattle.sheet.specs.SheetOf.{sheet_of, chart_of}
use Rattle.sheet.proofs.sheets.Sheet.savepoints.Goals as goal

pub loop-row-preserved : goal.loop-row-preserved
loop-row-preserved c =
    let x = c.args.self.now in
    let stops : ℕ → Bool = is_savepoint (chart_of x) (sheet_of x).rows in
    let next = next_member c.args.rows _ _ c.into_iter-row-iterator.ensures.into_iter_gives c.iter-row-items.ensures c.loop-row.yielded_by c.in-Some.ensures.steps in
    found_put stops c.loop-row.yielded (contains c.loop-row.savepoints) (contains c.put.new.self) c.loop-row.invariant
    (member_number c.args.rows (omega arith) c.in-Some.row next.1) (simp c.steps.ensures at c.is_savepoint.ensures) c.put.ensures

pub returns : goal.returns
returns c = λ k.
    let x = c.args.self.now in
    let stops : ℕ → Bool = is_savepoint (chart_of x) (sheet_of x).rows in
    let all = given_all c.args.rows _ _ c.into_iter-row-iterator.ensures.into_iter_gives c.iter-row-items.ensures c.loop-row.yielded_by c.in-None.ensures.steps.0 in
    found_all c.args.rows stops all c.loop-row.invariant k ∙ and_comm (contains c.args.rows k) (stops k)
