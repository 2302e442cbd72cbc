use Rattle.std.proofs.Common.{eqb, sym, ap, ◌∙◌, arith}
use Rattle.std.proofs.lemmas.Nat.Bits.{shr_and_one}
use Rattle.rowset.specs.Members.{is_set}
use Rattle.rowset.proofs.Members.{outside, member_at}
use Rattle.rowset.proofs.RowSet.contains.Goals as goal

pub returns-in-Some : goal.returns-in-Some
unfolding is_set
returns-in-Some c =
    let p = c.in-Some.place in
    ap (λ x. eqb x 1) (shr_and_one _ _) ∙ sym (member_at c.args.self.now.words p c.args.number c.in-Some.ensures.0)

pub returns-in-None : goal.returns-in-None
returns-in-None c = sym (outside c.args.self.now.words (omega arith) c.args.number c.in-None.ensures)
