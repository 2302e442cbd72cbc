use Rattle.std.proofs.Common.{◌+◌, ◌≤◌}
use Rattle.rowset.proofs.Iteration.{top}
use Rattle.sheet.specs.Fields.{ShowsNow, shown_below}
use Rattle.sheet.specs.SheetOf.{sheet_of}
use Rattle.sheet.proofs.sheets.Sheet.write_rows.Given as goal

abbrev pub invariant-loop-row : goal.invariant-loop-row
invariant-loop-row l =
    record {
      shows : ShowsNow l.self (shown_below l.self (top 0 l.yielded + 1)) l.fn.bytes l.bytes;
      within : top 0 l.yielded ≤ (sheet_of l.self).rows.count;
    }
