use Rattle.std.proofs.Common.{◌%◌, w64, arith}
use Rattle.std.proofs.lemmas.Nat.Bits.{bit_at_clear_same, bit_at_clear_other}
use Rattle.rowset.proofs.Bits.{bit_written}
use Rattle.rowset.proofs.Members.{removed, kept_without}
use Rattle.rowset.proofs.RowSet.remove.Goals as goal

pub returns-in-Some : goal.returns-in-Some
returns-in-Some c =
    let words = c.args.self.now.words in
    let q = c.in-Some.place in
    removed words _ q c.args.number c.in-Some.ensures.0 c.in-Some.ensures.1
    (bit_written words q _ 0 (omega arith) c.in-Some.ensures.1 (bit_at_clear_same w64 _ (q % 64) (omega arith))
    (λ i l ne. bit_at_clear_other w64 _ (q % 64) (omega arith) i l ne))

pub returns-in_default : goal.returns-in_default
returns-in_default c = kept_without c.args.self.now.words (omega arith) c.args.number c.in_default.ensures
