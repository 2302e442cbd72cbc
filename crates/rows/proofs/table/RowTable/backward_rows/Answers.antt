use Rattle.std.proofs.Common.{◌&&◌, vec_items, ap, ◌∙◌, arith}
use Rattle.rowset.specs.Members.{is_number}
use Rattle.rows.specs.Steps.{steps_only}
use Rattle.rows.proofs.Aborts.{backward_numbers}
use Rattle.rows.proofs.table.RowTable.backward_rows.Goals as goal

pub returns : goal.returns
returns c =
    let t = c.args.self.now in
    let done = c.in_ok-mark_backward.ensures in
    record {
      test = done.test;
      answer = λ u. c.marked_rows.ensures u ∙ ap (λ b. is_number u && b) (done.answer u)
          ∙ backward_numbers (vec_items t.rows) t.lower t.positive (omega (arith, t.few, t.rows.ok.0)) (steps_only c.args.steps.now) c.args.f u;
      loans = done.loans;
    }
