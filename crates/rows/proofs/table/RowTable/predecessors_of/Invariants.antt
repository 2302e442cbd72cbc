use Rattle.std.proofs.Common.{◌≡◌, ℕ}
use Rattle.std.specs.List.{list_any}
use Rattle.model.specs.Search.{has}
use Rattle.rowset.specs.Members.{contains}
use Rattle.rows.specs.Tables.{rows_of}
use Rattle.rows.proofs.table.RowTable.predecessors_of.Given as goal

abbrev pub invariant-loop-row : goal.invariant-loop-row
invariant-loop-row l = (w : ℕ) → contains l.before w ≡ list_any (λ x. has w ((rows_of l.self).preds x)) l.yielded
