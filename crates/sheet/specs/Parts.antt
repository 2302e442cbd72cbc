-- What the fields of a sheet are in the model. Assumes nothing.
use Rattle.std.specs.Prelude.{ℕ}
use Rattle.values.specs.declared.Mode.{Mode}
use Rattle.values.specs.declared.Phase.{Phase}
use Rattle.rows.specs.Tables.{rows_of, rolled_of}
use Rattle.rows.specs.declared.table.RowTable.{RowTable}
use Rattle.model.specs.Sheet.{Sheet}

abbrev pub sheet_from : RowTable → Phase → ℕ → ℕ → Mode → Sheet
sheet_from table phase rollback serial mode = record {
  rows = rows_of table;
  rolled = rolled_of table;
  phase = phase;
  rollback = rollback;
  serial = serial;
  mode = mode;
}
