-- To a row below `least` only rows below it are linked.
use Rattle.std.proofs.Common.{◌≡◌, ◌<◌, false, vec_items, arith}
use Rattle.std.proofs.lemmas.Bool.{false_from_ne_true, ne_eqb}
use Rattle.model.specs.Rollback.{linked}
use Rattle.rows.specs.Linked.{brings}
use Rattle.rows.specs.Tables.{rows_of}
use Rattle.rows.proofs.Links.{linked_lower}
use Rattle.rows.proofs.table.RowTable.add_links.Goals as goal

pub returns-then-row-least : goal.returns-then-row-least
returns-then-row-least c = λ u on.
    let t = c.args.self.now in
    let row = c.args.row in
    let above : row < u = omega arith in
    let other = ne_eqb u row (λ e. omega arith) in
    let none : linked (rows_of t) u row ≡ false =
    false_from_ne_true _ (λ l. let low = linked_lower (vec_items t.rows) t.lower t.positive u row l in omega arith) in
    let brought : brings (rows_of t) row u ≡ false = grind arith in
    grind arith
