use Rattle.std.proofs.Common.{◌≡◌, ◌||◌, get_or, bit_or, refl, arith, rules, tests}
use Rattle.rowset.proofs.Arrays.{filled}
use Rattle.rowset.proofs.Bits.{either_bit}
use Rattle.rowset.proofs.Members.{combined}
use Rattle.rowset.proofs.RowSet.join.Goals as goal

pub returns : goal.returns
returns c =
    let xs = c.args.self.now.words in
    let ys = c.args.other.now.words in
    combined bit_or ◌||◌ refl either_bit xs ys _ (omega arith) (omega arith) c.from_fn-self.ensures.items.long
    (filled (λ i y. y ≡ bit_or (get_or xs i 0) (get_or ys i 0)) c.from_fn-self.ensures.items (λ i y f l k. search (rules, tests)))
