use Rattle.std.proofs.Common.{ℕ, ◌+◌, Bool, ◌&&◌, ltb, sym, ap, ◌∙◌, vec_items, rules, tests, arith}
use Rattle.std.proofs.lemmas.Bool.{and_left, and_parts, le-ltb, lt-ltb}
use Rattle.std.proofs.lemmas.Iterator.Consumers.{YieldsList-from_first}
use Rattle.std.proofs.lemmas.Iterator.Search.{find_from_yields_List}
use Rattle.values.specs.declared.RowState.TheVariants.{Due}
use Rattle.graph.specs.Column.{marked}
use Rattle.graph.specs.Held.{held}
use Rattle.rowset.specs.Iteration.{members_above, rest}
use Rattle.rowset.specs.Members.{contains}
use Rattle.rowset.proofs.Iteration.{found_least}
use Rattle.model.specs.Rows.{in_state}
use Rattle.rows.specs.Tables.{rows_of}
use Rattle.rows.proofs.Searches.{first_above, row_within}
use Rattle.rows.proofs.table.RowTable.lowest_due.Goals as goal

pub returns : goal.returns
returns c =
    let r = rows_of c.args.self.now in
    let row = c.args.row in
    let set = c.rows_in-due.result in
    let mark : ℕ → Bool = marked (held c.args.marks.now) in
    let due : ℕ → Bool = in_state r Due in
    let is = c.rows_in-due.ensures in
    let o = c.find.result in
    first_above (r.count + 1) row (λ k. contains set k && mark k) (λ k. ltb row k && (due k && mark k)) (record {
      same = λ k l. ap (λ b. b && mark k) (is k) ∙ sym (ap (λ b. b && (due k && mark k)) (lt-ltb row k l));
      none = λ k l. and_left (ltb row k) _ (le-ltb row k l);
      inside = λ k both.
          let within = row_within (vec_items c.args.self.now.rows) Due k (sym (is k) ∙ (and_parts (contains set k) _ both).0) in
          omega arith;
    }) o (found_least set mark row o (find_from_yields_List mark c.find.new.self _ o c.find.ensures.ran
    (YieldsList-from_first (λ x. x) rest (members_above set row) c.iter_above.ensures) (λ x b q k. search (rules, tests))))
