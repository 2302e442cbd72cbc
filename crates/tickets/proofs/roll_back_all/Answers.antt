-- The abort is declined, or accepted and then carried through. The column and the line are lent to it first, and then to the undos.
use Rattle.std.proofs.Common.{rules, subst, ap₂}
use Rattle.values.specs.declared.Mode.TheVariants.{Complete}
use Rattle.host.specs.Made.{Made}
use Rattle.model.specs.Calls.{abort_fault, all_dropped}
use Rattle.model.specs.Sheet.{aborted}
use Rattle.sheet.specs.Asked.{abort_asks}
use Rattle.sheet.specs.SheetOf.{sheet_of, chart_of}
use Rattle.tickets.specs.Rollbacks.{carried, carried_asks}
use Rattle.tickets.proofs.Beginning.{abort_accepted, abort_declined, comes_declined, ends_declined, ends_through, made_alone, made_both}
use Rattle.tickets.proofs.Ending.{none_live}
use Rattle.tickets.proofs.Lending.{used_none, used_more, used_column, scratched_by, scratches_then}
use Rattle.tickets.proofs.roll_back_all.Goals as goal

pub returns-in_err-ticket : goal.returns-in_err-ticket
returns-in_err-ticket g c =
    let m = c.args.memory.now in
    let s = sheet_of c.args.sheet.now in
    let v = g.X.Host.view c.args.host.now in
    let chart = chart_of c.args.sheet.now in
    let begun = aborted chart s Complete in
    let dropped = all_dropped s.rows v in
    let fault = abort_fault s v Complete m.column.len m.line.len in
    let is_column = c.deref_mut.ensures.value in
    let is_line = c.deref_mut-2.ensures.value in
    let left = c.in_err-ticket.ensures in
    let made = subst (λ cs. Made g.X.Host.view g.X.Host.makes c.args.host.now cs c.abort.new.host)
    (ap₂ (abort_asks s v Complete) c.deref_mut.ensures.len c.deref_mut-2.ensures.len) left.made in
    let all = abort_declined chart s v Complete c.deref_mut.ensures.len c.deref_mut-2.ensures.len left.comes in
    record {
      comes = comes_declined fault s v (carried begun dropped m.column.len m.line.len) all.0 (search rules) all.1 all.2;
      ends = ends_declined fault s begun all.0 (search rules) all.1;
      none_live = search rules;
      made = made_alone g.X.Host.view g.X.Host.makes fault (carried_asks begun dropped m.column.len m.line.len) all.0 made;
      goes = left.goes;
      process = left.process;
      memory = scratched_by m _ _
          (used_more m m.column m.line (used_none m) is_column is_line left.column c.abort.auto.column c.abort.auto.line left.line)
          (used_column m m.column m.line (used_none m) is_column is_line left.column c.abort.auto.column);
    }

pub carry_through-requires : goal.carry_through-requires
carry_through-requires g c =
    (abort_accepted (chart_of c.args.sheet.now) (sheet_of c.args.sheet.now) (g.X.Host.view c.args.host.now) Complete
    c.deref_mut.ensures.len c.deref_mut-2.ensures.len c.in_ok-ticket.ensures.comes).3

pub returns : goal.returns
returns g c =
    let m = c.args.memory.now in
    let s = sheet_of c.args.sheet.now in
    let v = g.X.Host.view c.args.host.now in
    let chart = chart_of c.args.sheet.now in
    let begun = aborted chart s Complete in
    let started = sheet_of c.abort.new.self in
    let ended = sheet_of c.carry_through.new.sheet in
    let fault = abort_fault s v Complete m.column.len m.line.len in
    let is_column = c.deref_mut.ensures.value in
    let is_line = c.deref_mut-2.ensures.value in
    let left = c.in_ok-ticket.ensures in
    let rest = c.carry_through.ensures in
    let made = subst (λ cs. Made g.X.Host.view g.X.Host.makes c.args.host.now cs c.abort.new.host)
    (ap₂ (abort_asks s v Complete) c.deref_mut.ensures.len c.deref_mut-2.ensures.len) left.made in
    let all = abort_accepted chart s v Complete c.deref_mut.ensures.len c.deref_mut-2.ensures.len left.comes in
    record {
      comes = search rules;
      ends = ends_through fault s begun started ended c.carry_through.result all.0 all.1 rest.through;
      none_live = none_live chart s started ended c.carry_through.result all.1 rest.through;
      made = made_both g.X.Host.view g.X.Host.makes fault all.0 made
          (subst (λ cs. Made g.X.Host.view g.X.Host.makes c.abort.new.host cs c.carry_through.new.host)
          (ap₂ (λ s' v'. carried_asks s' v' m.column.len m.line.len) all.1 all.2) rest.made);
      goes = g.met.X.Host.goes_on c.args.host.now c.abort.new.host c.carry_through.new.host left.goes rest.goes;
      process = search rules;
      memory = scratches_then (scratched_by m _ _
          (used_more m m.column m.line (used_none m) is_column is_line left.column c.abort.auto.column c.abort.auto.line left.line)
          (used_column m m.column m.line (used_none m) is_column is_line left.column c.abort.auto.column)) rest.memory;
    }
