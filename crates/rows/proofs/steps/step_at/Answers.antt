use Rattle.std.proofs.Common.{ap, ◌∙◌}
use Rattle.std.specs.Option.{unwrap_or}
use Rattle.model.specs.Chart.{no_step}
use Rattle.rows.proofs.Numbered.{unwrap_or-numbered}
use Rattle.rows.proofs.steps.step_at.Goals as goal

pub returns : goal.returns
returns c =
    c.unwrap_or.ensures ∙ ap (λ o. unwrap_or o no_step) (c.copied.ensures ∙ c.numbered.ensures)
    ∙ unwrap_or-numbered c.args.steps.now c.args.number no_step
