use Rattle.std.proofs.Common.{not, vec_items, sym, ◌∙◌}
use Rattle.std.proofs.lemmas.Bool.{or_left, or_right, not_from_false}
use Rattle.graph.specs.Held.{held}
use Rattle.rows.specs.Marking.{due_above}
use Rattle.rows.specs.Tables.{rows_of}
use Rattle.graph.proofs.Scratches.{same_loans}
use Rattle.rows.proofs.Later.{none_later, lowest_later}
use Rattle.rows.proofs.table.RowTable.due_after.Goals as goal

pub returns-then-not-any_due_above : goal.returns-then-not-any_due_above
returns-then-not-any_due_above c =
    let t = c.args.self.now in
    let none = sym c.if-not-any_due_above.ensures in
    record {
      test = sym (or_left (not (due_above (rows_of t) c.args.row)) _ (not_from_false _ none));
      answer = sym (none_later (vec_items t.rows) t.lower t.positive c.args.row none);
      loans = same_loans;
    }

pub returns : goal.returns
returns c =
    let t = c.args.self.now in
    let done = c.in_ok-walk.ensures in
    let e = done.answer in
    record {
      test = sym (or_right (not (due_above (rows_of t) c.args.row)) _ (sym done.test));
      answer = c.lowest_due.ensures
          ∙ lowest_later (vec_items t.rows) t.lower t.positive c.args.row (held c.walk.new.scratch.marks.now) e;
      loans = done.loans;
    }
