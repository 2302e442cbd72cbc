use Rattle.std.proofs.Common.{◌≡◌, true, ◌&&◌, ◌||◌, eqb, get_or, vec_items, sym, ap, ◌∙◌, ap₂, inl, inr, arith}
use Rattle.std.proofs.lemmas.Bool.{cases_eq, eq-eqb, ne_eqb}
use Rattle.model.specs.Search.{has}
use Rattle.rowset.specs.Members.{is_number}
use Rattle.rowset.proofs.Members.{within_numbers}
use Rattle.rows.specs.Tables.{rows_of}
use Rattle.rows.proofs.Arrows.{joins_forth}
use Rattle.rows.proofs.Lists.{any_found, any_more}
use Rattle.rows.proofs.table.RowTable.before.Goals as goal

pub loop-w-preserved : goal.loop-w-preserved
loop-w-preserved c = λ u.
    let t = c.args.self.now in
    let ws = c.predecessors-w-items.result.now in
    let i = c.loop-w.w-index in
    let w = get_or ws i 0 in
    let is_row : u ≡ w → is_number u ≡ true = λ e.
    let found = any_found (eqb u) ws i 0 c.loop-w-test.true (eq-eqb u w e) in
    let follows : has u ((rows_of t).preds c.args.row) ≡ true = sym (ap (has u) c.predecessors-w-items.ensures.all) ∙ found in
    let (low, high) = (joins_forth (vec_items t.rows) t.lower t.positive u c.args.row follows).0 in
    within_numbers u low (omega (arith, t.few, t.rows.ok.0)) in
    let same : (eqb u w && is_number u) ≡ eqb u w = elim (cases_eq u w) [
      | inl e ↦ let at = eq-eqb u w e in let number = is_row e in grind arith
      | inr ne ↦ let other = ne_eqb u w ne in grind arith
    ] in
    c.insert.ensures u ∙ ap₂ ◌||◌ (c.loop-w.invariant u) same ∙ sym (any_more (eqb u) ws i c.loop-w-test.true)
