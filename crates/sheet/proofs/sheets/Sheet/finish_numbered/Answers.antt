-- No row is due, so the sheet can go forward.
use Rattle.values.specs.declared.Phase.TheVariants.{Forward}
use Rattle.model.specs.Calls.{finish_fault}
use Rattle.model.proofs.Accepted.{finish_free}
use Rattle.sheet.proofs.Comings.{none_stands}
use Rattle.sheet.specs.SheetOf.{sheet_of}
use Rattle.sheet.proofs.Graphs.{graph_stays}
use Rattle.sheet.proofs.Phases.{still_kept}
use Rattle.sheet.proofs.sheets.Sheet.finish_numbered.Goals as goal

pub invariant_of-self : goal.invariant_of-self
invariant_of-self c =
    let x = c.args.self.now in
    let number = c.args.ticket in
    record {
      kept = still_kept (sheet_of x) Forward x.kept
          (λ o _. finish_free (sheet_of x) number o (none_stands (finish_fault (sheet_of x) number) c.in_ok-may_finish.ensures));
      holds = graph_stays (sheet_of x) Forward x.graph x.holds;
    }
