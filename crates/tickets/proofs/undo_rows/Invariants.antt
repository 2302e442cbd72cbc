-- The undos so far lead down to the row that is next, and what is still to come completes them.
use Rattle.std.proofs.Common.{◌≡◌, ◌<◌}
use Rattle.host.specs.Keys.{rows_most}
use Rattle.host.specs.Made.{Made}
use Rattle.model.specs.Run.{column_after}
use Rattle.sheet.specs.SheetOf.{sheet_of}
use Rattle.tickets.specs.Endings.{Holds}
use Rattle.tickets.specs.Rollbacks.{undone_down, undone_down_asks}
use Rattle.tickets.proofs.Lending.{Used}
use Rattle.tickets.proofs.undo_rows.Given as goal

abbrev pub invariant-loop-row : goal.invariant-loop-row
invariant-loop-row g l =
    let m = l.fn.memory in
    let view = g.X.Host.view in
    record {
      down : undone_down rows_most (sheet_of l.initial.sheet) (view l.initial.host) l.ticket.number m.column.len m.line.len
          ≡ undone_down l.row (sheet_of l.sheet) (view l.host) l.ticket.number m.column.len m.line.len;
      made : (y : _) → Made view g.X.Host.makes l.host
          (undone_down_asks l.row (sheet_of l.sheet) (view l.host) l.ticket.number m.column.len m.line.len) y
          → Made view g.X.Host.makes l.initial.host
          (undone_down_asks rows_most (sheet_of l.initial.sheet) (view l.initial.host) l.ticket.number m.column.len m.line.len) y;
      goes : g.X.Host.goes l.initial.host l.host;
      holds : Holds l.ticket (sheet_of l.sheet);
      process : l.sheet.process ≡ l.initial.sheet.process;
      used : Used m l.column l.line;
      column : l.row < rows_most → l.column.items ≡ column_after m.column.items m.line.len;
    }
