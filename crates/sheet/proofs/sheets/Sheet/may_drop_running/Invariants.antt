-- The rows so far may be dropped.
use Rattle.rowset.proofs.Iteration.{top}
use Rattle.sheet.specs.SheetOf.{sheet_of}
use Rattle.sheet.proofs.Aborting.{Clear}
use Rattle.sheet.proofs.sheets.Sheet.may_drop_running.Given as goal

abbrev pub invariant-loop-row : goal.invariant-loop-row
invariant-loop-row g l = Clear (sheet_of l.self).rows (g.X.Host.view l.host) (top 0 l.yielded)
