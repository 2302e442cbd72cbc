-- The summary that a sheet gives, in the model. Assumes nothing.
use Rattle.std.specs.Prelude.{vec_items}
use Rattle.model.specs.Summaries.{Counts, Summary as Told}
use Rattle.sheet.specs.declared.sheets.summaries.RowCounts.{RowCounts}
use Rattle.sheet.specs.declared.sheets.summaries.Summary.{Summary}

abbrev pub counts_told : RowCounts → Counts
counts_told r = record {
  all = r.all;
  running = r.running;
  committed = r.committed;
  dropped = r.dropped;
  due = r.due;
  undone = r.undone;
  passed_over = r.passed_over;
}

abbrev pub summary_told : Summary → Told
summary_told x = record {
  phase = x.phase;
  rollbacks = x.rollbacks;
  rows = counts_told x.rows;
  standings = vec_items x.standings;
}
