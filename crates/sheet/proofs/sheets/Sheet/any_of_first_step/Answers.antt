use Rattle.std.proofs.Common.{ℕ, Bool, eqb, ◌∙◌, rules, tests}
use Rattle.std.proofs.lemmas.Iterator.Consumers.{YieldsList-from_first}
use Rattle.std.proofs.lemmas.Iterator.Search.{any_from_yields_List}
use Rattle.rowset.specs.Iteration.{members, rest}
use Rattle.rows.proofs.Members.{some_listed}
use Rattle.sheet.specs.SheetOf.{sheet_of}
use Rattle.sheet.proofs.Listing.{first_step_within}
use Rattle.sheet.proofs.sheets.Sheet.any_of_first_step.Goals as goal

pub returns : goal.returns
returns c =
    let r = (sheet_of c.args.self.now).rows in
    let first : ℕ → Bool = λ k. eqb (r.step k) 1 in
    any_from_yields_List first c.any.new.self _ _ c.any.ensures.ran
    (YieldsList-from_first (λ x. x) rest (members c.args.rows.now) c.iter.ensures) (λ x b q k. search (rules, tests))
    ∙ some_listed c.args.rows.now first r.count (first_step_within c.args.self.now)
