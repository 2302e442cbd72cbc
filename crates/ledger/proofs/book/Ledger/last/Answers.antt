-- The line at the row's place is its last one.
use Rattle.std.proofs.Common.{ap, ◌∙◌, length, arith}
use Rattle.ledger.proofs.Last.{found_at, found_none, place_within}
use Rattle.ledger.proofs.book.Ledger.last.Goals as goal

pub offset_bounds-used-i : goal.offset_bounds-used-i
offset_bounds-used-i c =
    let b = c.args.self.now in
    let within = place_within b.table.used c.args.row c.in_ok-i.i (c.in_ok-i.ensures ∙ b.placed c.args.row) in
    omega (arith, within, b.within)

pub bounds-used-i : goal.bounds-used-i
bounds-used-i c =
    let b = c.args.self.now in
    let within = place_within b.table.used c.args.row c.in_ok-i.i (c.in_ok-i.ensures ∙ b.placed c.args.row) in
    omega (arith, within, ap length c.used.ensures)

pub returns-in_err-i : goal.returns-in_err-i
returns-in_err-i c =
    let b = c.args.self.now in
    c.from_residual.ensures ∙ found_none b.table.used c.args.row (c.in_err-i.ensures ∙ b.placed c.args.row)

pub returns : goal.returns
returns c =
    let b = c.args.self.now in
    found_at b.table.used _ c.args.row c.in_ok-i.i _ (c.in_ok-i.ensures ∙ b.placed c.args.row) c.used.ensures
