-- The summary is that of the sheet, and the balance that of the ledger.
use Rattle.std.proofs.Common.{◌∙◌}
use Rattle.std.proofs.lemmas.Result.{IfOk-weaker}
use Rattle.model.specs.Summaries.{summary_of}
use Rattle.sheet.specs.SheetOf.{sheet_of, chart_of}
use Rattle.playing.specs.Names.{texts}
use Rattle.playing.specs.Outcomes.{replayed}
use Rattle.playing.specs.Summaries.{joined}
use Rattle.playing.proofs.play.Play.outcome.Goals as goal

pub returns : goal.returns
returns c =
    let p = c.args.self.now in
    let summary = c.in_ok-summary.ensures
    ∙ (λ i. joined p.calls (summary_of (chart_of (c.sheet-sheet.ensures i)) (sheet_of (c.sheet-sheet.ensures i))) (texts c.args.names)
    (c.balance-balance.ensures i)) in
    IfOk-weaker c.replayed.result _ _ (λ x h. h ∙ (λ i. replayed (c.as_str.ensures.value i) (summary i))) c.replayed.ensures
