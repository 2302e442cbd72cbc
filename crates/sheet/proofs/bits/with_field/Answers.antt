-- The other value in the field's place.
use Rattle.std.proofs.Common.{rules, arith}
use Rattle.sheet.proofs.Fields.{shifted, stays_word}
use Rattle.sheet.proofs.bits.with_field.Goals as goal

pub overflow_cast-result-3 : goal.overflow_cast-result-3
overflow_cast-result-3 c =
    let a = c.args in
    let is = shifted a.low a.width a.word a.value (omega arith) (omega arith) in
    let fits = stays_word a.low a.width a.word _ a.value (omega arith) (omega arith) (omega arith) is in
    rw (c.from-word.ensures, c.from.ensures) (search rules)

pub returns : goal.returns
returns c =
    let a = c.args in
    rw (c.from-word.ensures, c.from.ensures) (shifted a.low a.width a.word a.value (omega arith) (omega arith))
