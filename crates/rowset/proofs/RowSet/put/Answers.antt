use Rattle.std.proofs.Common.{inl, inr, arith}
use Rattle.std.proofs.lemmas.Bool.{cases_Bool}
use Rattle.rowset.specs.Members.{is_number}
use Rattle.rowset.proofs.Members.{outside}
use Rattle.rowset.proofs.RowSet.put.Goals as goal

pub returns-then-is_member : goal.returns-then-is_member
returns-then-is_member c = λ k.
    let is = c.insert.ensures k in
    let yes = c.if-is_member.true in
    elim (cases_Bool (is_number k)) [
      | inl t ↦ grind arith
      | inr f ↦ let gone = outside c.args.self.now.words (omega arith) k f in grind arith
    ]
