-- Zeros, and four fields.
use Rattle.std.proofs.Common.{arith}
use Rattle.sheet.proofs.Fields.{sets_front}
use Rattle.sheet.proofs.sheets.Sheet.write_front.Goals as goal

pub returns : goal.returns
returns c =
    let x = c.args.self.now in
    let phase = simp (c.from.ensures, c.from-2.ensures) at c.set_field-2.ensures in
    let steps = simp c.steps.ensures at c.set_field-3.ensures in
    let few = x.process.steps.ok.0 in
    sets_front x c.args.bytes.now c.fill.new.self _ _ _ _ (c.fill.ensures.after (λ y e. e)) (omega arith)
    (omega (arith, x.process.few_steps, few)) (omega arith) c.set_field.ensures phase steps c.set_field-4.ensures
