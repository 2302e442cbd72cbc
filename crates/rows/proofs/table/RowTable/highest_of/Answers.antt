use Rattle.std.proofs.Common.{◌≡◌, ℕ, Bool, true, false, ◌&&◌, eqb, Option, Some, None, MatchOption, sym, refl, ap, ◌∙◌, inl, inr, rules, tests, arith}
use Rattle.std.proofs.lemmas.Bool.{and_from, and_parts, both_ways, cases_eq, eqb-true, false_from_ne_true}
use Rattle.std.proofs.lemmas.Iterator.Consumers.{YieldsList-from_first}
use Rattle.std.proofs.lemmas.Iterator.Search.{find_from_yields_List}
use Rattle.graph.specs.Reach.{Least}
use Rattle.model.specs.Rows.{Rows}
use Rattle.rowset.specs.Iteration.{members, rest}
use Rattle.rowset.specs.Members.{contains}
use Rattle.rowset.proofs.Iteration.{found_least}
use Rattle.rows.specs.Highest.{is_highest}
use Rattle.rows.specs.Tables.{rows_of}
use Rattle.rows.proofs.table.RowTable.highest_of.Goals as goal

-- what the least of them says; 0 is no row
found : (r : Rows) (step : ℕ) (member : ℕ → Bool) → ((k : ℕ) → member k ≡ is_highest r k) → (o : Option ℕ)
    → Least (λ k. (member k && eqb (r.step k) step) ≡ true) 0 o
    → MatchOption o ((k : ℕ) → is_highest r k ≡ true → eqb (r.step k) step ≡ false)
    (λ row. (is_highest r row ≡ true) × (r.step row ≡ step))
found r step member are None none = λ k highest. false_from_ne_true (eqb (r.step k) step) (λ same. elim (cases_eq k 0) [
  | inl e ↦ both_ways (is_highest r 0) refl (sym (ap (is_highest r) e) ∙ highest)
  | inr ne ↦ none k (omega arith) (and_from (member k) _ (are k ∙ highest) same)
])
found r step member are (Some t) least =
    let (highest, same) = and_parts (member t) (eqb (r.step t) step) least.1 in
    (sym (are t) ∙ highest, eqb-true (r.step t) step same)

pub returns : goal.returns
returns c =
    let r = rows_of c.args.self.now in
    let set = c.highest-highest.result in
    let of_step : ℕ → Bool = λ k. eqb (r.step k) c.args.step in
    let o = c.find.result in
    found r c.args.step (contains set) c.highest-highest.ensures o
    (found_least set of_step 0 o (find_from_yields_List of_step c.find.new.self _ o c.find.ensures.ran
    (YieldsList-from_first (λ x. x) rest (members set) c.iter.ensures) (λ x b q k. search (rules, tests))))
