-- Each step in turn.
use Rattle.std.proofs.Common.{length, refl, ap, ◌∙◌, arith}
use Rattle.sheet.proofs.Shown.{none_hidden, all_hidden, one_hidden, one_public}
use Rattle.sheet.proofs.sheets.Sheet.write_private.Goals as goal
use Rattle.sheet.proofs.sheets.Sheet.write_private.Goals.{then-is_private, else-is_private}

pub loop-step-init : goal.loop-step-init
loop-step-init c = record { reply = none_hidden c.args.self.now c.args.bytes.now c.requires.blank; rest = refl }

pub loop-step-preserved : goal.loop-step-preserved
loop-step-preserved c =
    let x = c.args.self.now in
    let n = c.loop-step.step in
    let so_far = c.loop-step.invariant in
    let before = c.loop-step.bytes in
    let few = ap length c.steps.ensures in
    elim c.if-is_private.branch [
      | then-is_private w ↦ rw w.bytes-is record {
        reply = one_hidden x n before w.set_step.new.bytes (omega arith) (omega (arith, few)) w.if-is_private.ensures
            so_far.reply w.set_step.ensures;
        rest = w.set_step.ensures.rest ∙ so_far.rest;
      }
      | else-is_private w ↦ rw w.bytes-is record {
        reply = one_public x n before w.if-is_private.ensures so_far.reply;
        rest = so_far.rest;
      }
    ]

pub returns : goal.returns
returns c =
    let few = ap length c.steps.ensures in
    record {
      reply = all_hidden c.args.self.now c.loop-step.step c.loop-step.bytes (omega (arith, few)) c.loop-step.invariant.reply;
      rest = c.loop-step.invariant.rest;
    }
