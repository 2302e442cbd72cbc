use Rattle.std.proofs.Common.{map, ◌≡◌, ◌≤◌, ◌+◌}
use Rattle.values.specs.declared.RowState.TheVariants.{Running}
use Rattle.model.specs.Calls.{dropped_below}
use Rattle.model.specs.Rows.{in_state}
use Rattle.host.specs.Keys.{key_of}
use Rattle.host.specs.Made.{Made}
use Rattle.host.specs.declared.calls.Call.TheVariants.{Drop}
use Rattle.rowset.proofs.Iteration.{top}
use Rattle.sheet.specs.SheetOf.{sheet_of}
use Rattle.sheet.proofs.sheets.Sheet.drop_running.Given as goal

abbrev pub invariant-loop-row : goal.invariant-loop-row
invariant-loop-row g l =
    record {
      dropped : g.X.Host.view l.host
          ≡ dropped_below (in_state (sheet_of l.self).rows Running) (top 0 l.yielded + 1) (g.X.Host.view l.initial.host);
      made : Made g.X.Host.view g.X.Host.makes l.initial.host (map (λ k. Drop (key_of k)) l.yielded) l.host;
      goes : g.X.Host.goes l.initial.host l.host;
      within : top 0 l.yielded ≤ (sheet_of l.self).rows.count;
    }
