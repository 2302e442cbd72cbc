use Rattle.std.proofs.Common.{◌≡◌, ◌≤◌, not, length, take, filter}
use Rattle.model.specs.Rows.{is_savepoint}
use Rattle.rows.specs.Steps.{steps_only}
use Rattle.rows.specs.Tables.{rows_of}
use Rattle.rows.proofs.table.RowTable.uncut.Given as goal

abbrev pub invariant-loop-w : goal.invariant-loop-w
invariant-loop-w l =
    (l.uncut.items ≡ filter (λ w. not (is_savepoint (steps_only l.steps) (rows_of l.self) w)) (take l.w-index l.w-items))
    × (length l.uncut.items ≤ l.w-index)
