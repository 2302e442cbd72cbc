use Rattle.std.proofs.Common.{◌≡◌, ℕ, Bool, true, List, Option, not, ◌&&◌, ltb, filter, vec_items, rules, tests, sym, ◌∙◌, subst}
use Rattle.std.proofs.lemmas.Iterator.{YieldsList-from_slice}
use Rattle.std.proofs.lemmas.Iterator.Adapters.{option_map_id}
use Rattle.std.proofs.lemmas.Iterator.Consumers.{YieldsList-from_copied, YieldsList-from_filter, min_from_yields_List}
use Rattle.graph.specs.Reach.{Least}
use Rattle.model.specs.Rollback.{uncut}
use Rattle.model.specs.Rows.{is_savepoint}
use Rattle.model.specs.Search.{has}
use Rattle.rows.specs.Arrows.{back}
use Rattle.rows.specs.Steps.{steps_only}
use Rattle.rows.specs.Tables.{rows_of}
use Rattle.rows.proofs.Arrows.{joins_cut, least_drawn}
use Rattle.rows.proofs.Leasts.{least_kept}
use Rattle.rows.proofs.graphs.BackToSavepointsArrows.next.Goals as goal

pub returns : goal.returns
returns c =
    let t = c.args.table.now in
    let r = rows_of t in
    let chart = steps_only c.args.self.now.steps.now in
    let joins = joins_cut (vec_items t.rows) t.lower t.positive chart in
    let after = c.args.after in
    let xs = c.predecessors.result.now in
    let free : ℕ → Bool = λ k. not (is_savepoint chart r k) in
    let is = min_from_yields_List _ _ c.min.ensures.ran
    (YieldsList-from_filter _ (λ k. ltb after k && free k) (YieldsList-from_copied (YieldsList-from_slice xs cc))
    c.filter.ensures.closure (λ x b q k. search (rules, tests))) in
    let P : Option ℕ → Type 0 = Least (λ k. has k (filter free xs) ≡ true) after in
    let Q : List ℕ → Type 0 = λ ys. Least (λ k. has k (filter free ys) ≡ true) after c.min.result in
    least_drawn r.count (back (uncut chart r)) joins c.args.from after c.min.result
    (subst Q c.predecessors.ensures.all (subst P (sym (sym (option_map_id c.min.result) ∙ is)) (least_kept free xs after)))
