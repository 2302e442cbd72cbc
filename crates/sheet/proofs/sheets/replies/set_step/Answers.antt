-- The field of a step.
use Rattle.std.proofs.Common.{arith}
use Rattle.sheet.proofs.Fields.{sets_step}
use Rattle.sheet.proofs.sheets.replies.set_step.Goals as goal

pub returns : goal.returns
returns c =
    let a = c.args in
    let bits = simp (c.from.ensures, c.from-2.ensures) at c.set_field.ensures in
    sets_step a.step a.value a.bytes.now c.set_field.new.bytes (omega arith) (omega arith) (omega arith) bits
