use Rattle.std.proofs.Common.{arith}
use Rattle.graph_examples.proofs.Leasts.{least_same}
use Rattle.graph_examples.proofs.arrow_list.ArrowListGraph.next_target.Goals as goal

pub returns : goal.returns
returns c =
    least_same _ _ c.args.after c.least_listed.result
    (λ k l h. (h.0, (omega arith, omega arith), (omega arith, h.1))) (λ k l h. (h.0, h.2.1)) c.least_listed.ensures
