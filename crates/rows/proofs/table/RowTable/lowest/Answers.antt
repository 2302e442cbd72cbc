use Rattle.std.proofs.Common.{◌≡◌, ℕ, ◌+◌, ◌<◌, ◌≤◌, Bool, true, false, not, ◌&&◌, length, Some, vec_items, sym, ap, ◌∙◌, subst, rules, tests, arith}
use Rattle.values.specs.Numbers.{same_state}
use Rattle.values.specs.declared.RowState.{RowState}
use Rattle.values.specs.declared.RowState.TheVariants.{Absent}
use Rattle.model.specs.Calls.{lowest_row}
use Rattle.model.specs.Rows.{in_state}
use Rattle.rowset.specs.Members.{contains}
use Rattle.rows.specs.Tables.{rows_of}
use Rattle.rows.proofs.Below.{first_is}
use Rattle.rows.proofs.Searches.{all_rows, first_above, row_within}
use Rattle.rows.proofs.table.RowTable.lowest.Goals as goal

pub returns-then-eq : goal.returns-then-eq
returns-then-eq c =
    let r = rows_of c.args.self.now in
    let absent : Absent ≡ c.args.state = sym (grind (arith, c.if-eq.ensures)) in
    let first = sym (first_is (r.count + 1) (in_state r Absent) 0 (omega arith) (λ _. true) (λ k l. absurd (omega (arith, l)))) in
    subst (λ (st : RowState). Some 0 ≡ lowest_row r (in_state r st)) absent first

pub returns : goal.returns
returns c =
    let rows = vec_items c.args.self.now.rows in
    let st = c.args.state in
    let set = c.rows_in.result in
    let q : ℕ → Bool = in_state (rows_of c.args.self.now) st in
    let other : same_state st Absent ≡ false = search (rules, tests) in
    let is : (k : ℕ) → contains set k ≡ q k = λ k. c.rows_in.ensures k ∙ ap (λ b. not b && q k) other in
    let within : (k : ℕ) → q k ≡ true → (0 < k) × (k ≤ length rows) = λ k h. row_within rows st k (ap (λ b. not b && q k) other ∙ h) in
    first_above (length rows + 1) 0 (contains set) q (all_rows rows set q is within) c.next_above.result c.next_above.ensures
