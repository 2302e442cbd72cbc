use Rattle.std.proofs.Common.{ℕ, Bool, not, ◌&&◌, leb, length, vec_items, rules, tests, sym, ◌∙◌, ap₂, arith}
use Rattle.std.proofs.lemmas.Bool.{le-leb, lt-ltb}
use Rattle.std.proofs.lemmas.Iterator.{YieldsList-from_slice}
use Rattle.std.proofs.lemmas.Iterator.Search.{all_from_yields_List}
use Rattle.model.specs.Search.{any}
use Rattle.rows.proofs.Ranges.{all_list}
use Rattle.rows.proofs.table.RowTable.fits.Goals as goal

pub returns-then-predecessors-le8 : goal.returns-then-predecessors-le8
returns-then-predecessors-le8 c =
    let fs = c.args.predecessors.now in
    let inside : ℕ → Bool = λ x. leb 1 x && leb x (length (vec_items c.args.self.now.rows)) in
    let each = all_from_yields_List inside _ _ _ c.all.ensures.ran (YieldsList-from_slice fs cc)
    (λ x b q k. search (rules, tests))
    ∙ all_list inside fs in
    each ∙ sym (ap₂ (λ a b. a && (b && not (any (λ x. not (inside x)) fs)))
    (lt-ltb (length (vec_items c.args.self.now.rows)) 256 (omega (arith, c.args.self.now.rows.ok.0)))
    (le-leb (length fs) 8 c.if-predecessors-le8.true.1))
