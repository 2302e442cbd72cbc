use Rattle.std.proofs.Common.{ℕ, List, ◌∷◌, false, sym, ap, ◌∙◌, refl, arith}
use Rattle.model.specs.Rollback.{restart_points}
use Rattle.sheet.specs.SheetOf.{sheet_of, chart_of}
use Rattle.sheet.proofs.Listing.{members_below}
use Rattle.sheet.proofs.sheets.Sheet.points.Goals as goal

pub returns-in-Complete-clause-points : goal.returns-in-Complete-clause-points
returns-in-Complete-clause-points c =
    let x = c.args.self.now in
    ap (λ (ks : List ℕ). 0 ∷ ks) (members_below c.new.result 0 (λ k. false) (omega arith) c.new.ensures (λ k l. refl))
    ∙ ap (restart_points (chart_of x) (sheet_of x).rows) (sym c.in-Complete.is)
