-- One undo goes on with the row below, or stops there.
use Rattle.std.proofs.Common.{◌≡◌, ◌≤◌, false, refl, ap, ◌∙◌, arith, rules}
use Rattle.sheet.specs.SheetOf.{sheet_of}
use Rattle.tickets.specs.Rollbacks.{stops}
use Rattle.tickets.proofs.Lending.{width, length_of, used_column, used_more, scratched_by}
use Rattle.tickets.proofs.Undoing.{fault_in, same_outcome, all_done, all_made, holding, going, stopping, made_going, made_stopping}
use Rattle.tickets.proofs.undo_rows.Goals as goal
use Rattle.tickets.proofs.undo_rows.Goals.{in-Ok, in-Err}

pub loop-row-preserved : goal.loop-row-preserved
loop-row-preserved g c =
    let m = c.args.memory.now in
    let was = c.loop-row.invariant in
    let s = sheet_of c.loop-row.sheet in
    let v = g.X.Host.view c.loop-row.host in
    let t = c.args.ticket.now.number in
    let row = c.loop-row.row in
    let low : 1 ≤ row = omega arith in
    let is_column = c.deref_mut.ensures.value in
    let is_line = c.deref_mut-in-loop-row.ensures.value in
    let wide = width m c.loop-row.column c.loop-row.line was.used is_column is_line in
    let long = length_of m c.loop-row.column c.loop-row.line was.used is_column is_line in
    let left = c.undo.ensures in
    let so : stops (fault_in c.undo.result) ≡ false = elim c.match-undo.branch [
      | in-Ok w ↦ ap (λ r. stops (fault_in r)) w.in-Ok.is
      | in-Err w ↦ ap (λ r. stops (fault_in r)) w.in-Err.is ∙ search rules
    ] in
    record {
      down = was.down ∙ going s v t row m.column.len m.line.len low wide long left.comes so;
      made = λ y rest. was.made y (made_going s v t row m.column.len m.line.len low wide long left.comes
          g.X.Host.view g.X.Host.makes left.made so rest);
      goes = g.met.X.Host.goes_on c.args.host.now c.loop-row.host c.undo.new.host was.goes left.goes;
      holds = holding s v t row m.column.len m.line.len low wide long left.comes c.args.ticket.now was.holds;
      process = left.process ∙ was.process;
      used = used_more m c.loop-row.column c.loop-row.line was.used is_column is_line
          left.column c.undo.auto.column c.undo.auto.line left.line;
      column = λ _. used_column m c.loop-row.column c.loop-row.line was.used is_column is_line left.column c.undo.auto.column;
    }

pub returns-in-Err-2 : goal.returns-in-Err-2
returns-in-Err-2 g c =
    let m = c.args.memory.now in
    let was = c.loop-row.invariant in
    let s = sheet_of c.loop-row.sheet in
    let v = g.X.Host.view c.loop-row.host in
    let t = c.args.ticket.now.number in
    let row = c.loop-row.row in
    let low : 1 ≤ row = omega arith in
    let is_column = c.deref_mut.ensures.value in
    let is_line = c.deref_mut-in-loop-row.ensures.value in
    let wide = width m c.loop-row.column c.loop-row.line was.used is_column is_line in
    let long = length_of m c.loop-row.column c.loop-row.line was.used is_column is_line in
    let left = c.in-Err.ensures in
    record {
      comes = same_outcome was.down (stopping s v t row m.column.len m.line.len low wide long left.comes (search rules));
      holds = holding s v t row m.column.len m.line.len low wide long left.comes c.args.ticket.now was.holds;
      made = was.made c.undo.new.host (made_stopping s v t row m.column.len m.line.len low wide long left.comes
          g.X.Host.view g.X.Host.makes left.made (search rules));
      goes = g.met.X.Host.goes_on c.args.host.now c.loop-row.host c.undo.new.host was.goes left.goes;
      process = left.process ∙ was.process;
      memory = scratched_by m _ _ (used_more m c.loop-row.column c.loop-row.line was.used is_column is_line
          left.column c.undo.auto.column c.undo.auto.line left.line)
          (used_column m c.loop-row.column c.loop-row.line was.used is_column is_line left.column c.undo.auto.column);
    }

pub returns : goal.returns
returns g c =
    let m = c.args.memory.now in
    let was = c.loop-row.invariant in
    let s = sheet_of c.loop-row.sheet in
    let v = g.X.Host.view c.loop-row.host in
    let t = c.args.ticket.now.number in
    let row = c.loop-row.row in
    record {
      comes = same_outcome (was.down ∙ all_done s v t row m.column.len m.line.len (omega arith))
          (record { answers = refl; sheet = refl; host = refl });
      holds = was.holds;
      made = was.made c.loop-row.host
          (all_made s v t row m.column.len m.line.len g.X.Host.view g.X.Host.makes c.loop-row.host (omega arith));
      goes = was.goes;
      process = was.process;
      memory = scratched_by m c.loop-row.column c.loop-row.line was.used (was.column (omega arith));
    }
