use Rattle.std.proofs.Common.{◌≡◌, ◌≤◌, true, sym, ◌∙◌, arith}
use Rattle.std.proofs.lemmas.Bool.Decides.{nat_tests}
use Rattle.rows.specs.Highest.{is_highest}
use Rattle.rowset.specs.Members.{contains}
use Rattle.rowset.proofs.Iteration.{top_more, next_member, no_next_member}
use Rattle.sheet.specs.SheetOf.{sheet_of}
use Rattle.sheet.proofs.Shown.{shown_to, rows_shown}
use Rattle.sheet.proofs.sheets.Sheet.write_rows.Goals as goal

pub write_row-requires-clause-highest : goal.write_row-requires-clause-highest
write_row-requires-clause-highest c =
    let next = next_member c.highest-highest.result _ _ c.into_iter-row-iterator.ensures.into_iter_gives c.iter-row-items.ensures
    c.loop-row.yielded_by c.in-Some.ensures.steps in
    sym (c.highest-highest.ensures c.in-Some.row) ∙ next.1

pub write_row-requires-clause-before : goal.write_row-requires-clause-before
write_row-requires-clause-before c =
    let next = next_member c.highest-highest.result _ _ c.into_iter-row-iterator.ensures.into_iter_gives c.iter-row-items.ensures
    c.loop-row.yielded_by c.in-Some.ensures.steps in
    shown_to c.args.self.now (contains c.highest-highest.result) c.highest-highest.ensures c.loop-row.bytes
    next c.loop-row.invariant.shows.reply

pub loop-row-preserved : goal.loop-row-preserved
loop-row-preserved c =
    let n = c.in-Some.row in
    let next = next_member c.highest-highest.result _ _ c.into_iter-row-iterator.ensures.into_iter_gives c.iter-row-items.ensures
    c.loop-row.yielded_by c.in-Some.ensures.steps in
    let high : is_highest (sheet_of c.args.self.now).rows n ≡ true = sym (c.highest-highest.ensures n) ∙ next.1 in
    let within : n ≤ (sheet_of c.args.self.now).rows.count = grind (arith, nat_tests) in
    rw (top_more 0 c.loop-row.yielded n) record {
      shows = record { reply = c.write_row.ensures.reply; rest = c.write_row.ensures.rest ∙ c.loop-row.invariant.shows.rest };
      within = within;
    }

pub returns : goal.returns
returns c =
    let past = no_next_member c.highest-highest.result _ _ c.into_iter-row-iterator.ensures.into_iter_gives c.iter-row-items.ensures
    c.loop-row.yielded_by c.in-None.ensures.steps.0 in
    let so_far = c.loop-row.invariant.shows in
    record {
      reply = rows_shown c.args.self.now (contains c.highest-highest.result) c.highest-highest.ensures c.loop-row.bytes
          (omega arith) past so_far.reply;
      rest = so_far.rest;
    }
