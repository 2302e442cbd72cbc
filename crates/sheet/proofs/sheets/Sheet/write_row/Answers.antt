-- The row's state where its step shows it.
use Rattle.std.proofs.Common.{refl, sym, ap, ◌∙◌, rules, tests}
use Rattle.values.specs.Numbers.{row_state_number}
use Rattle.sheet.specs.SheetOf.{sheet_of}
use Rattle.sheet.proofs.Shown.{step_of_highest, row_shown, row_hidden}
use Rattle.sheet.proofs.sheets.Sheet.write_row.Goals as goal
use Rattle.sheet.proofs.sheets.Sheet.write_row.Goals.{else-contains-via-then-contains+else-not-is_private, else-contains-via-else-contains}

pub returns-then-not-is_private : goal.returns-then-not-is_private
returns-then-not-is_private c =
    let x = c.args.self.now in
    let of = c.step-step.ensures ∙ sym (step_of_highest (sheet_of x).rows c.args.row c.requires.highest) in
    let is = c.from.ensures ∙ ap row_state_number c.state.ensures in
    let set = c.set_step.ensures in
    record {
      reply = row_shown x c.args.row c.step-step.result c.from.result c.args.bytes.now c.set_step.new.bytes
          (search rules) (search rules) of c.if-not-is_private.ensures is c.requires.before set;
      rest = set.rest;
    }

pub returns-else-contains : goal.returns-else-contains
returns-else-contains c =
    let x = c.args.self.now in
    let of = c.step-step.ensures ∙ sym (step_of_highest (sheet_of x).rows c.args.row c.requires.highest) in
    let hidden = row_hidden x c.args.row c.step-step.result c.args.bytes.now of in
    elim c.else-contains.branch [
      | else-contains-via-then-contains+else-not-is_private w ↦
          record { reply = hidden (λ low high. w.if-not-is_private.ensures) c.requires.before; rest = refl }
      | else-contains-via-else-contains w ↦
          record { reply = hidden (λ low high. absurd (search (rules, tests))) c.requires.before; rest = refl }
    ]
