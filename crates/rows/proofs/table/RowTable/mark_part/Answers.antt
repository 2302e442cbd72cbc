use Rattle.std.proofs.Common.{◌≡◌, ℕ, true, length, is_ok, vec_items, sym, ap, ◌∙◌, ap₂}
use Rattle.process.proofs.Shapes.{at_ok}
use Rattle.graph.specs.Held.{held}
use Rattle.graph.specs.Reach.{roomy}
use Rattle.graph.proofs.Scratches.{same_loans_then}
use Rattle.model.specs.Search.{has}
use Rattle.rowset.specs.Members.{contains}
use Rattle.rows.specs.Steps.{steps_only}
use Rattle.rows.specs.Tables.{rows_of}
use Rattle.rows.proofs.Aborts.{walked_ok, part_marked}
use Rattle.rows.proofs.table.RowTable.mark_part.Goals as goal

pub returns : goal.returns
returns c =
    let t = c.args.self.now in
    let n = (rows_of t).count in
    let before = c.args.scratch.now in
    let between = c.backward_rows.new.scratch in
    let ys = held c.walk.new.scratch.marks.now in
    let first = c.in_ok-part.ensures in
    let second = c.walk.ensures in
    let same_room : roomy n (length between.line.now) (length (held between.marks.now)) ≡ roomy n (length before.line.now) (length (held before.marks.now)) =
    ap₂ (roomy n) first.loans.places first.loans.kept.size in
    let ok : is_ok c.walk.result ≡ true = second.test ∙ same_room ∙ sym first.test in
    let walked = at_ok _ _ c.walk.result ok second.answer in
    let starts = c.as_slice.result.now in
    let listed : (u : ℕ) → has u starts ≡ contains c.in_ok-part.part u = λ u. ap (has u) c.as_slice.ensures.value ∙ c.listed.ensures u in
    record {
      test = second.test ∙ same_room;
      answer = walked_ok c.walk.result _ _ ok
          (part_marked (vec_items t.rows) t.lower t.positive (steps_only c.args.steps.now) c.args.f c.in_ok-part.part starts ys
          first.answer listed walked);
      loans = same_loans_then first.loans second.loans;
    }
