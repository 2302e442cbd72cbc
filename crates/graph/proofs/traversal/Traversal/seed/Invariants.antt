use Rattle.std.proofs.Common.{◌≡◌, ℕ, ◌<◌, get_or}
use Rattle.graph.specs.Reach.{Within}
use Rattle.graph.specs.Taking.{TakesIn}
use Rattle.graph.proofs.traversal.Traversal.seed.Given as goal

-- the starts so far that are points are taken in, and nothing else is
abbrev pub invariant-loop-s : goal.invariant-loop-s
invariant-loop-s l =
    TakesIn (λ k. Within l.initial.self.points k × ((i : ℕ) × ((i < l.s-index) × (get_or l.starts i 0 ≡ k)))) l.initial.self l.self
