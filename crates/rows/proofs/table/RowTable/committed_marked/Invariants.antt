use Rattle.graph.specs.Column.{marked}
use Rattle.graph.specs.Held.{held}
use Rattle.rowset.specs.Members.{contains}
use Rattle.rows.proofs.Members.{Found}
use Rattle.rows.proofs.table.RowTable.committed_marked.Given as goal

abbrev pub invariant-loop-row : goal.invariant-loop-row
invariant-loop-row l = Found (marked (held l.marks)) l.yielded (contains l.set)
