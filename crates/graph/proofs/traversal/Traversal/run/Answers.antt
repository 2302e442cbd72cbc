use Rattle.std.proofs.Common.{ℕ, List, ◌∙◌, subst, rules}
use Rattle.graph.specs.Held.{held}
use Rattle.graph.specs.Reach.{Start}
use Rattle.graph.specs.Search.{Search}
use Rattle.graph.proofs.Columns.{kept_then}
use Rattle.graph.proofs.Searches.{search_from, search_next, search_done}
use Rattle.graph.proofs.traversal.Traversal.run.Goals as goal

pub loop-p-init : goal.loop-p-init
loop-p-init g c = (
  search_from (g.G.Graph.arrow c.args.g.now) c.args.starts.now c.requires.points c.requires.empty c.requires.none
      c.seed.ensures.grown c.seed.ensures.all,
  c.seed.ensures.grown.kept,
  c.seed.ensures.same,
)

pub loop-p-preserved : goal.loop-p-preserved
loop-p-preserved g c = (
  search_next (g.G.Graph.arrow c.args.g.now) (c.loop-p.invariant.2.points ∙ c.requires.points) c.in-Some.ensures.waiting
      c.loop-p.invariant.0 c.expand.ensures.grown c.expand.ensures.all,
  kept_then c.loop-p.invariant.1 c.expand.ensures.grown.kept,
  search rules,
)

pub returns-clause-explored : goal.returns-clause-explored
returns-clause-explored g c =
    let m = g.G.Graph in
    let n = m.points c.args.g.now in
    let S : List ℕ → Type 0 = Search (m.arrow c.args.g.now) (Start n c.args.starts.now) n (held c.loop-p.self.marks.now) in
    search_done _ _ n _ c.loop-p.invariant.1 (subst S c.in_default.ensures.waiting.0 c.loop-p.invariant.0)
