use Rattle.std.proofs.Common.{◌+◌, length}
use Rattle.graph.specs.Column.{Kept}
use Rattle.graph.specs.Held.{held}
use Rattle.graph.specs.Reach.{Start}
use Rattle.graph.specs.Search.{Search, unmarked}
use Rattle.graph.specs.Taking.{SameTraversal}
use Rattle.graph.specs.Waiting.{waiting}
use Rattle.graph.proofs.traversal.Traversal.run.Given as goal

-- the search goes on, in the same memory
abbrev pub invariant-loop-p : goal.invariant-loop-p
invariant-loop-p g l =
    let m = g.G.Graph in
    Search (m.arrow l.g) (Start (m.points l.g) l.starts) (m.points l.g) (held l.self.marks.now) (waiting l.self.queue.now)
    × Kept (held l.fn.self.marks.now) (held l.self.marks.now)
    × SameTraversal l.fn.self l.self

abbrev pub decreases-loop-p : goal.decreases-loop-p
decreases-loop-p g l = length (waiting l.self.queue.now) + unmarked (g.G.Graph.points l.g) (held l.self.marks.now)
