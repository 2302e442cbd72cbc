-- The sheet in another phase.
use Rattle.std.proofs.Common.{arith}
use Rattle.values.specs.declared.Phase.TheVariants.{Undoing}
use Rattle.sheet.specs.SheetOf.{sheet_of}
use Rattle.sheet.proofs.Graphs.{graph_stays}
use Rattle.sheet.proofs.Phases.{still_kept}
use Rattle.sheet.proofs.sheets.Sheet.resume_numbered.Goals as goal

pub invariant_of-self : goal.invariant_of-self
invariant_of-self c =
    let x = c.args.self.now in
    record {
      kept = still_kept (sheet_of x) Undoing x.kept (λ o e. grind arith);
      holds = graph_stays (sheet_of x) Undoing x.graph x.holds;
    }
