use Rattle.std.proofs.Common.{ℕ, Bool, ◌||◌, get_or, vec_items, sym, ap, ◌∙◌, arith}
use Rattle.std.proofs.lemmas.List.{take_all}
use Rattle.model.specs.Search.{any, has}
use Rattle.rowset.proofs.Members.{within_numbers}
use Rattle.rows.specs.Linked.{brings}
use Rattle.rows.specs.Tables.{rows_of}
use Rattle.rows.proofs.Arrows.{joins_forth}
use Rattle.rows.proofs.Links.{linked_step}
use Rattle.rows.proofs.Lists.{any_more}
use Rattle.rows.proofs.LinkSets.{has_element}
use Rattle.rows.proofs.table.RowTable.links_of.Goals as goal

pub add_links-requires-clause-row : goal.add_links-requires-clause-row
add_links-requires-clause-row c =
    let t = c.args.self.now in
    let xs = c.predecessors-before-items.result.now in
    let q = get_or xs c.loop-before.before-index 0 in
    let m = sym (ap (has q) c.predecessors-before-items.ensures.all) ∙ has_element xs c.loop-before.before-index c.loop-before-test.true in
    let (low, high) = (joins_forth (vec_items t.rows) t.lower t.positive q c.args.row m).0 in
    within_numbers q low (omega (arith, t.few, t.rows.ok.0))

pub add_links-requires-clause-known : goal.add_links-requires-clause-known
add_links-requires-clause-known c = λ from.
    let xs = c.predecessors-before-items.result.now in
    let q = get_or xs c.loop-before.before-index 0 in
    let m = sym (ap (has q) c.predecessors-before-items.ensures.all) ∙ has_element xs c.loop-before.before-index c.loop-before-test.true in
    c.requires q from (c.args.self.now.lower c.args.row q m)

pub loop-before-preserved : goal.loop-before-preserved
loop-before-preserved c = λ u on.
    let t = c.args.self.now in
    let p : ℕ → Bool = λ q. brings (rows_of t) q u in
    let xs = c.predecessors-before-items.result.now in
    let i = c.loop-before.before-index in
    c.add_links.ensures u on ∙ ap (λ b. b || p (get_or xs i 0)) (c.loop-before.invariant u on) ∙ sym (any_more p xs i c.loop-before-test.true)

pub returns : goal.returns
returns c = λ u on.
    let t = c.args.self.now in
    let p : ℕ → Bool = λ q. brings (rows_of t) q u in
    let xs = c.predecessors-before-items.result.now in
    c.loop-before.invariant u on
    ∙ ap (any p) (take_all c.loop-before.before-index xs c.loop-before-test.false ∙ c.predecessors-before-items.ensures.all)
    ∙ sym (linked_step (vec_items t.rows) t.lower t.positive u c.args.row)
