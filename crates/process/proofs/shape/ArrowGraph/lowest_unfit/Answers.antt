-- The first step that the search finds.
use Rattle.std.proofs.Common.{◌≡◌, ℕ, not, ap, ◌∙◌, of_calls}
use Rattle.graph.specs.Held.{held}
use Rattle.process.specs.Shape.{fine_by}
use Rattle.process.proofs.Shapes.{first_by, lowest_from}
use Rattle.process.proofs.shape.ArrowGraph.lowest_unfit.Goals as goal

pub returns : goal.returns
returns c =
    let zs = c.args.self.now.arrows.now in
    let marks = held c.args.marks.now in
    lowest_from marks zs c.args.self.now.steps c.find.result
    (first_by _ _ _ c.find.result (λ k. not (fine_by marks zs k)) c.find.ensures.ran
    (λ x b q k.
    let said : b ≡ not (fine_by marks zs k.shown.now) = search of_calls in
    (search of_calls, said ∙ ap (λ (n : ℕ). not (fine_by marks zs n)) k.shows)))
