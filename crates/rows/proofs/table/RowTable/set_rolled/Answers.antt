-- One row's rollback written: it is a row, since it is live.
use Rattle.std.proofs.Common.{◌-◌, sym, ◌∙◌, subst, length-set}
use Rattle.model.specs.Sheets.{Lower}
use Rattle.rows.specs.Columns.{row_at, Positive}
use Rattle.rows.proofs.Columns.{row_inside, columns_rolled, preds_rolled, steps_rolled, rolled_written, states_rolled}
use Rattle.rows.proofs.Falls.{live_rolled}
use Rattle.rows.proofs.Followers.{told, told_kept}
use Rattle.rows.proofs.Searches.{live_within}
use Rattle.rows.proofs.States.{kept_states}
use Rattle.rows.proofs.table.RowTable.set_rolled.Goals as goal

pub invariant_of-self : goal.invariant_of-self
invariant_of-self c =
    let s = c.args.self.now in
    let rows = s.rows.items in
    let k = c.args.row in
    let w = live_within rows k (sym c.if-is_live.ensures) in
    let is = row_inside rows k _ w.0 w.1 c.index_mut.ensures.value in
    let preds = sym (preds_rolled rows k _ c.args.number w.0 w.1 is) in
    let steps = sym (steps_rolled rows k _ c.args.number w.0 w.1 is) in
    let states = kept_states rows _ s.sets.states (states_rolled rows k _ c.args.number w.0 w.1 is) (told s.told).states in
    record {
      lower = subst Lower preds s.lower;
      positive = subst Positive preds s.positive;
      few = s.few;
      reserved = s.reserved;
      told = told_kept s.sets _ rows _ preds steps (length-set rows (k - 1) _) states s.told;
    }

pub returns-then-is_live : goal.returns-then-is_live
returns-then-is_live c =
    let rows = c.args.self.now.rows.items in
    let k = c.args.row in
    let live_row = sym c.if-is_live.ensures in
    let w = live_within rows k live_row in
    let is = row_inside rows k _ w.0 w.1 c.index_mut.ensures.value in
    record {
      rows = columns_rolled rows k _ c.args.number w.0 w.1 is;
      rolled = rolled_written rows k _ c.args.number w.0 w.1 is
          ∙ live_rolled (λ j. (row_at rows j).state) (λ j. (row_at rows j).rolled) k c.args.number live_row;
    }
