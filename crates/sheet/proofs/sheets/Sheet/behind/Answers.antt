use Rattle.std.proofs.Common.{arith}
use Rattle.sheet.specs.SheetOf.{sheet_of, chart_of}
use Rattle.sheet.proofs.Listing.{behind_by}
use Rattle.sheet.proofs.sheets.Sheet.behind.Goals as goal

pub returns-clause-rows : goal.returns-clause-rows
returns-clause-rows c =
    let x = c.args.self.now in
    let has = simp (c.unwrap-behind.ensures, c.steps-steps.ensures) at c.backward_rows.ensures.answer in
    behind_by (chart_of x) (sheet_of x).rows c.args.f c.unwrap-behind.result c.insert.new.self (omega arith)
    has c.insert.ensures
