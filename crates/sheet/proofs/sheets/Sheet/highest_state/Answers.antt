use Rattle.std.proofs.Common.{add-one, arith}
use Rattle.sheet.proofs.sheets.Sheet.highest_state.Goals as goal
use Rattle.sheet.proofs.sheets.Sheet.highest_state.Goals.{then-step, else-step}

pub loop-row-preserved : goal.loop-row-preserved
loop-row-preserved c = elim c.if-step.branch [
  | then-step w ↦ rw add-one (grind arith)
  | else-step w ↦ rw add-one (grind arith)
]
