use Rattle.std.proofs.Common.{◌-◌, ◌≤◌}
use Rattle.graph.specs.Taking.{TakesIn}
use Rattle.graph.proofs.traversal.Traversal.expand.Given as goal

-- the targets up to `after` are taken in, and nothing else is
abbrev pub invariant-loop-t : goal.invariant-loop-t
invariant-loop-t g l = TakesIn (λ q. g.G.Graph.arrow l.g l.p q × (q ≤ l.after)) l.initial.self l.self

abbrev pub decreases-loop-t : goal.decreases-loop-t
decreases-loop-t g l = g.G.Graph.points l.g - l.after
