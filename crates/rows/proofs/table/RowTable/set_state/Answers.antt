-- One row's state written: it is a row, since it is not absent.
use Rattle.std.proofs.Common.{◌≡◌, ◌-◌, false, cond, rules, tests, sym, ap, ◌∙◌, subst, arith, length-set}
use Rattle.values.specs.Numbers.{same_state}
use Rattle.values.specs.declared.RowState.TheVariants.{Absent}
use Rattle.model.specs.Rows.{marked}
use Rattle.model.specs.Sheets.{Lower}
use Rattle.rows.specs.Columns.{row_at, columns, Positive}
use Rattle.rows.proofs.Columns.{known_within, row_inside, columns_marked, rolled_marked, preds_marked, steps_marked, states_marked}
use Rattle.rows.proofs.Followers.{told, told_kept}
use Rattle.rows.proofs.States.{taken_out, put_back}
use Rattle.rows.proofs.table.RowTable.set_state.Goals as goal

pub invariant_of-self : goal.invariant_of-self
invariant_of-self c =
    let s = c.args.self.now in
    let rows = s.rows.items in
    let k = c.args.number in
    let known : same_state c.state-from.result Absent ≡ false = search (rules, tests) in
    let here : same_state (row_at rows k).state Absent ≡ false = ap (λ st. same_state st Absent) (sym c.state-from.ensures) ∙ known in
    let w = known_within rows k here in
    let is = row_inside rows k _ w.0 w.1 c.index_mut.ensures.value in
    let preds = sym (preds_marked rows k _ c.args.to w.0 w.1 is) in
    let steps = sym (steps_marked rows k _ c.args.to w.0 w.1 is) in
    let without = taken_out rows k c.state-from.result s.sets.states _ c.state-from.ensures c.put_in.ensures (told s.told).states in
    let states = put_back rows _ k c.args.to _ _ w.0 (omega (arith, w.1, s.few, s.rows.ok.0))
    (states_marked rows k _ c.args.to w.0 w.1 is) c.put_in-2.ensures without in
    record {
      lower = subst Lower preds s.lower;
      positive = subst Positive preds s.positive;
      few = s.few;
      reserved = s.reserved;
      told = told_kept s.sets _ rows _ preds steps (length-set rows (k - 1) _) states s.told;
    }

pub returns : goal.returns
returns c =
    let s = c.args.self.now in
    let rows = s.rows.items in
    let k = c.args.number in
    let known : same_state c.state-from.result Absent ≡ false = search (rules, tests) in
    let here : same_state (row_at rows k).state Absent ≡ false = ap (λ st. same_state st Absent) (sym c.state-from.ensures) ∙ known in
    let w = known_within rows k here in
    let is = row_inside rows k _ w.0 w.1 c.index_mut.ensures.value in
    record {
      rows = columns_marked rows k _ c.args.to w.0 w.1 is
          ∙ sym (ap (λ t. cond t (columns rows) (marked (columns rows) k c.args.to)) here);
      rolled = rolled_marked rows k _ c.args.to w.0 w.1 is;
    }
