use Rattle.std.proofs.Common.{vec_items, ◌∙◌}
use Rattle.rows.proofs.Searches.{due_above_is}
use Rattle.rows.proofs.table.RowTable.any_due_above.Goals as goal

pub returns : goal.returns
returns c = c.is_some.ensures ∙ due_above_is (vec_items c.args.self.now.rows) c.args.row c.next_due.result c.next_due.ensures
