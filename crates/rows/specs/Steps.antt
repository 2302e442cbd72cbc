-- A chart by its steps alone. Assumes nothing.
use Rattle.std.specs.Prelude.{List, []}
use Rattle.process.specs.declared.parts.Step.{Step}
use Rattle.model.specs.Chart.{Chart}

-- what looks only at steps is the same whatever the arrows are
abbrev pub steps_only : List Step → Chart
steps_only steps = (steps, [])
