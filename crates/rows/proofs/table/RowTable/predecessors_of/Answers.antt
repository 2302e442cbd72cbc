use Rattle.std.proofs.Common.{ℕ, Bool, vec_items, sym, ap, ◌∙◌}
use Rattle.std.specs.List.{list_any}
use Rattle.model.specs.Search.{has}
use Rattle.rows.specs.Tables.{rows_of}
use Rattle.rowset.proofs.Iteration.{given_all}
use Rattle.rows.proofs.Arrows.{no_preds}
use Rattle.rows.proofs.Members.{some_listed}
use Rattle.rows.proofs.table.RowTable.predecessors_of.Goals as goal

pub returns : goal.returns
returns c = λ w.
    let t = c.args.self.now in
    let follows : ℕ → Bool = λ x. has w ((rows_of t).preds x) in
    let all = given_all c.args.rows.now _ _ c.into_iter-row-iterator.ensures.into_iter_gives c.iter-row-items.ensures c.loop-row.yielded_by c.in-None.ensures.steps.0 in
    c.loop-row.invariant w ∙ ap (list_any follows) (sym all)
    ∙ some_listed c.args.rows.now follows (rows_of t).count (λ x h. ap (has w) (no_preds (vec_items t.rows) t.lower t.positive x h))
