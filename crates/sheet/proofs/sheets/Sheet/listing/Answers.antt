use Rattle.std.proofs.Common.{length, rules}
use Rattle.sheet.proofs.Clearing.{left_cleared}
use Rattle.sheet.proofs.sheets.Sheet.listing.Goals as goal

pub returns-clause-column : goal.returns-clause-column
returns-clause-column c = left_cleared c.args.column.now (length c.args.line.now) (search rules)
