-- What is told is the model's summary, so the model's law speaks of it.
use Rattle.std.proofs.Common.{◌≡◌, sym, subst}
use Rattle.model.specs.Summaries.{Summary, summary_of, TellsNothingPrivate}
use Rattle.model.proofs.Secret.{secret_summary}
use Rattle.sheet.specs.SheetOf.{sheet_of, chart_of}
use Rattle.sheet.specs.Summaries.{counts_told}
use Rattle.sheet.proofs.sheets.Sheet.summary.Goals as goal

pub returns-clause-secret : goal.returns-clause-secret
returns-clause-secret c =
    let d = chart_of c.args.self.now in
    let s = sheet_of c.args.self.now in
    let told : ◌≡◌ {A = Summary} (record {
      phase = s.phase;
      rollbacks = s.rollback;
      rows = counts_told c.row_counts.result;
      standings = c.in_ok-standings.field-0.items;
    }) (summary_of d s) = λ i. record {
      phase = s.phase;
      rollbacks = s.rollback;
      rows = c.row_counts.ensures i;
      standings = c.in_ok-standings.ensures i;
    } in
    subst (TellsNothingPrivate d s) (sym told) (secret_summary d s)
