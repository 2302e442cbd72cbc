-- The counts are those of the process.
use Rattle.std.proofs.Common.{length, codes, ◌∙◌}
use Rattle.std.proofs.lemmas.Result.{IfOk-weaker}
use Rattle.playing.specs.Spelled.{answer_line}
use Rattle.playing.specs.declared.answers.Answer.TheVariants.{Process}
use Rattle.playing.proofs.outcomes.process_line.Goals as goal

pub returns : goal.returns
returns c =
    IfOk-weaker c.to_string.result _ _
    (λ t h. h ∙ (λ i. answer_line c.args.line (codes "process") (Process (length (c.steps-steps.ensures i)) (length (c.arrows-arrows.ensures i)))))
    c.to_string.ensures.ok
