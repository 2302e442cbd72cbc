use Rattle.std.proofs.Common.{◌∙◌, rules, arith}
use Rattle.sheet.proofs.Shown.{stands_first}
use Rattle.sheet.proofs.sheets.Sheet.write_reply.Goals as goal

pub returns : goal.returns
returns c =
    let rest = c.write_rows.ensures.rest ∙ c.write_private.ensures.rest ∙ c.write_front.ensures.rest in
    stands_first c.args.self.now c.args.bytes.now c.write_rows.new.bytes (omega arith) (search rules)
    (record { reply = c.write_rows.ensures.reply; rest = rest })
