use Rattle.std.proofs.Common.{◌-◌, ◌&&◌}
use Rattle.graph.specs.Column.{marked}
use Rattle.graph.specs.Held.{held}
use Rattle.rowset.specs.Members.{is_number, contains}
use Rattle.rowset.proofs.Loops.{UpTo}
use Rattle.rows.proofs.struck.marked_rows.Given as goal

abbrev pub invariant-loop-number : goal.invariant-loop-number
invariant-loop-number l = UpTo (λ k. is_number k && marked (held l.marks) k) l.last (contains l.set)

abbrev pub decreases-loop-number : goal.decreases-loop-number
decreases-loop-number l = 257 - l.last
