use Rattle.std.proofs.Common.{vec_items}
use Rattle.rows.specs.Arrows.{forth}
use Rattle.rows.specs.Tables.{rows_of}
use Rattle.rows.proofs.Arrows.{joins_forth, least_drawn}
use Rattle.rows.proofs.graphs.ForthArrows.next.Goals as goal

pub returns : goal.returns
returns c =
    let t = c.args.table.now in
    let joins = joins_forth (vec_items t.rows) t.lower t.positive in
    least_drawn (rows_of t).count (forth (rows_of t).preds) joins c.args.from c.args.after c.next_follower.result
    c.next_follower.ensures
