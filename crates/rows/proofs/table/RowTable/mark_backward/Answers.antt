use Rattle.std.proofs.Common.{ℕ, List, vec_items, ◌∙◌, subst}
use Rattle.std.proofs.lemmas.Result.{MatchResult-weaker}
use Rattle.graph.specs.Held.{held}
use Rattle.graph.specs.Reach.{Start, Explored}
use Rattle.model.specs.Rollback.{uncut}
use Rattle.rows.specs.Arrows.{Drawn, back}
use Rattle.rows.specs.Steps.{steps_only}
use Rattle.rows.specs.Tables.{rows_of}
use Rattle.rows.proofs.Aborts.{backward_marked}
use Rattle.rows.proofs.table.RowTable.mark_backward.Goals as goal

pub returns : goal.returns
returns c =
    let t = c.args.self.now in
    let n = (rows_of t).count in
    let chart = steps_only c.args.steps.now in
    let before = held c.args.scratch.now.marks.now in
    let xs = held c.walk.new.scratch.marks.now in
    let From : List ℕ → Type 0 = λ starts. Explored (Drawn n (back (uncut chart (rows_of t)))) (Start n starts) before xs in
    let done = c.walk.ensures in
    record {
      test = done.test;
      answer = MatchResult-weaker c.walk.result done.answer
          (λ _ e. backward_marked (vec_items t.rows) t.lower t.positive chart c.args.f xs
          (subst From (c.as_slice.ensures ∙ c.uncut-starts.ensures) e))
          (λ _ e. e);
      loans = done.loans;
    }
