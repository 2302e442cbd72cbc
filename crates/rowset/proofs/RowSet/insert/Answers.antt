use Rattle.std.proofs.Common.{◌%◌, w64, arith}
use Rattle.std.proofs.lemmas.Nat.Bits.{bit_at_set_same, bit_at_set_other}
use Rattle.rowset.proofs.Bits.{bit_written}
use Rattle.rowset.proofs.Members.{inserted}
use Rattle.rowset.proofs.RowSet.insert.Goals as goal

pub returns-in-Some : goal.returns-in-Some
returns-in-Some c =
    let words = c.args.self.now.words in
    let q = c.in-Some.place in
    inserted words _ q c.args.number c.in-Some.ensures.0 c.in-Some.ensures.1
    (bit_written words q _ 1 (omega arith) c.in-Some.ensures.1 (bit_at_set_same w64 _ (q % 64) (omega arith))
    (λ i l ne. bit_at_set_other w64 _ (q % 64) (omega arith) i ne))
