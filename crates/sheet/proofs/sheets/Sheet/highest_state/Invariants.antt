use Rattle.std.proofs.Common.{◌≡◌}
use Rattle.model.specs.Summaries.{highest_state}
use Rattle.sheet.specs.SheetOf.{sheet_of}
use Rattle.sheet.proofs.sheets.Sheet.highest_state.Given as goal

abbrev pub invariant-loop-row : goal.invariant-loop-row
invariant-loop-row l = l.highest ≡ highest_state (sheet_of l.self).rows l.step l.row
