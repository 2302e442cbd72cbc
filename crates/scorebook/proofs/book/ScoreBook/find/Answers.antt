-- The record at the row's place is the row's record.
use Rattle.std.proofs.Common.{◌∙◌}
use Rattle.scorebook.proofs.Placed.{found_at, found_none}
use Rattle.scorebook.proofs.book.ScoreBook.find.Goals as goal

pub returns-in_err-i : goal.returns-in_err-i
returns-in_err-i c =
    let b = c.args.self.now in
    c.from_residual.ensures ∙ found_none b.table.used c.args.row (c.in_err-i.ensures ∙ b.placed c.args.row)

pub returns : goal.returns
returns c =
    let b = c.args.self.now in
    found_at b.table.used _ c.args.row c.in_ok-i.i _ (c.in_ok-i.ensures ∙ b.placed c.args.row) c.used.ensures
