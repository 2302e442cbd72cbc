-- Two bytes are written.
use Rattle.std.proofs.Common.{◌≡◌, ◌-◌, ◌/◌, ◌%◌, get_or, rules, arith}
use Rattle.sheet.proofs.Fields.{sets_bits}
use Rattle.sheet.proofs.bits.set_field.Goals as goal

pub returns : goal.returns
returns c =
    let a = c.args in
    let word = c.with_field-word.result in
    let high : get_or c.to_be_bytes.result 0 0 ≡ word / 256 % 256 = search rules in
    let end : get_or c.to_be_bytes.result 1 0 ≡ word % 256 = search rules in
    sets_bits (a.at / 8) (30 - a.at / 8) (16 - a.at % 8 - a.width) a.width a.value _ _ word a.bytes.now _ _ (omega arith) (omega arith)
    (search rules) (omega arith) (omega arith) c.from_be_bytes-word.ensures (omega arith) c.with_field-word.ensures
