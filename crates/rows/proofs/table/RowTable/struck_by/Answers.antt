use Rattle.std.proofs.Common.{◌&&◌, ap, ◌∙◌}
use Rattle.values.specs.declared.RowState.TheVariants.{Committed}
use Rattle.model.specs.Rows.{in_state}
use Rattle.rows.specs.Tables.{rows_of}
use Rattle.rows.proofs.table.RowTable.struck_by.Goals as goal

pub returns : goal.returns
returns c =
    let done = c.in_ok-mark_part.ensures in
    record {
      test = done.test;
      answer = λ k. c.committed_marked.ensures k ∙ ap (λ b. in_state (rows_of c.args.self.now) Committed k && b) (done.answer k);
      loans = done.loans;
    }
