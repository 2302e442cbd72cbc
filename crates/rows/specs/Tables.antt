-- What a table of rows is in the model: its columns. Assumes nothing.
use Rattle.std.specs.Prelude.{ℕ, vec_items}
use Rattle.model.specs.Rows.{Rows}
use Rattle.rows.specs.declared.table.RowTable.{RowTable}
use Rattle.rows.specs.Columns.{columns, row_at}

abbrev pub rows_of : RowTable → Rows
rows_of t = columns (vec_items t.rows)

-- the rollback that dropped or struck each row
abbrev pub rolled_of : RowTable → ℕ → ℕ
rolled_of t k = (row_at (vec_items t.rows) k).rolled
