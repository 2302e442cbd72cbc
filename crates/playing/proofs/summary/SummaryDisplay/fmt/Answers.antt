-- Each turn writes the line of one step.
use Rattle.std.proofs.Common.{rules}
use Rattle.std.proofs.Output.{has_written_append, has_written_of_eq}
use Rattle.playing.proofs.Steps.{steps_more}
use Rattle.playing.proofs.summary.SummaryDisplay.fmt.Goals as goal

pub loop-n-preserved : goal.loop-n-preserved
loop-n-preserved g c = λ p.
    has_written_of_eq _ _ _ _ _ (steps_more c.deref-step-items.result.now c.loop-n.n c.step-item.result c.loop-n-test.true c.step-item.is)
    (has_written_append _ _ _ _ _ _ (c.loop-n.invariant p) (search rules))
