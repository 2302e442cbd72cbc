-- The search has room, so its marks are exactly the steps reached.
use Rattle.std.proofs.Common.{◌∙◌}
use Rattle.process.proofs.Shapes.{shaped_from, at_ok}
use Rattle.process.proofs.shape.ArrowGraph.unfit_step.Goals as goal

pub returns : goal.returns
returns c =
    let g = c.args.self.now in
    let explored = at_ok _ _ c.reach.result (c.reach.ensures.test ∙ c.requires) c.reach.ensures.explored in
    record {
      shaped = shaped_from g.arrows.now g.steps _ _ explored _ c.lowest_unfit.ensures;
      loans = c.reach.ensures.loans;
    }
