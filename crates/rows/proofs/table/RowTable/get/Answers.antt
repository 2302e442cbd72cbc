use Rattle.std.proofs.Common.{List, ap, ◌∙◌}
use Rattle.rows.specs.declared.row.Row.{Row}
use Rattle.rows.specs.Columns.{numbered}
use Rattle.rows.proofs.Columns.{row_found}
use Rattle.rows.proofs.table.RowTable.get.Goals as goal

pub returns : goal.returns
returns c =
    let k = c.args.number in
    row_found c.args.self.now.rows.items k c.numbered.result
    (c.numbered.ensures ∙ ap (λ (rows : List Row). numbered rows k) c.deref.ensures.value)
