use Rattle.model.specs.Rows.{is_savepoint}
use Rattle.rowset.specs.Members.{contains}
use Rattle.rows.proofs.Members.{Found}
use Rattle.sheet.specs.SheetOf.{sheet_of, chart_of}
use Rattle.sheet.proofs.sheets.Sheet.savepoints.Given as goal

abbrev pub invariant-loop-row : goal.invariant-loop-row
invariant-loop-row l = Found (is_savepoint (chart_of l.self) (sheet_of l.self).rows) l.yielded (contains l.savepoints)
