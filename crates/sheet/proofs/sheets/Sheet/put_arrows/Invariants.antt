use Rattle.std.proofs.Common.{◌+◌, ◌≤◌}
use Rattle.model.specs.Search.{each_below}
use Rattle.model.specs.Sheet.{arrows_from}
use Rattle.rowset.specs.Members.{contains}
use Rattle.rowset.proofs.Iteration.{top}
use Rattle.sheet.specs.Listings.{Puts}
use Rattle.sheet.specs.SheetOf.{sheet_of}
use Rattle.sheet.proofs.Puts.{given}
use Rattle.sheet.proofs.sheets.Sheet.put_arrows.Given as goal

abbrev pub invariant-loop-row : goal.invariant-loop-row
invariant-loop-row l =
    record {
      puts : Puts (each_below (top 0 l.yielded + 1) (given (contains l.self.graph) (arrows_from (sheet_of l.self)))) 0
          l.initial.table l.next l.table;
      within : top 0 l.yielded ≤ (sheet_of l.self).rows.count;
    }
