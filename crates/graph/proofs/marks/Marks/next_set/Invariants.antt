use Rattle.std.proofs.Common.{◌≡◌, ℕ, ◌-◌, ◌<◌, false}
use Rattle.graph.specs.Column.{marked}
use Rattle.graph.specs.Held.{held}
use Rattle.graph.proofs.marks.Marks.next_set.Given as goal

-- no point up to here is marked
abbrev pub invariant-loop-i : goal.invariant-loop-i
invariant-loop-i l =
    record {
      above : l.i < 257 → l.after < l.i;
      none : (k : ℕ) → l.after < k → k < l.i → marked (held l.self) k ≡ false;
    }

abbrev pub decreases-loop-i : goal.decreases-loop-i
decreases-loop-i l = l.end - l.i
