use Rattle.std.proofs.Common.{◌≡◌, ℕ, List, false, ap, ◌∙◌, inl, inr, arith}
use Rattle.std.proofs.lemmas.Bool.{cases_Bool, eqb-true}
use Rattle.std.proofs.lemmas.Bool.Decides.{nat_tests}
use Rattle.rowset.specs.declared.RowSet.{RowSet}
use Rattle.rowset.specs.Members.{contains}
use Rattle.rowset.proofs.Members.{none_in_none}
use Rattle.values.specs.Numbers.{row_state_number, same_state}
use Rattle.rows.specs.States.{set_at}
use Rattle.rows.proofs.table.by_state.put_in.Goals as goal

-- an absent number has no set
no_member : (sets : List RowSet) (n k : ℕ) → n ≡ 0 → contains (set_at sets n) k ≡ false
no_member sets n k e = ap (λ i. contains (set_at sets i) k) e ∙ none_in_none k

pub returns-in_default : goal.returns-in_default
returns-in_default c = λ st k.
    let sets = c.args.states.now in
    let absent : row_state_number c.args.state ≡ 0 = omega arith in
    elim (cases_Bool (same_state st c.args.state)) [
      | inl t ↦
          let zero = eqb-true (row_state_number st) (row_state_number c.args.state) t ∙ absent in
          let none = no_member sets (row_state_number st) k zero in grind (arith, nat_tests)
      | inr f ↦ grind (arith, nat_tests)
    ]
