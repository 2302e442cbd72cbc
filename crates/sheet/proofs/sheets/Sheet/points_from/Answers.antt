use Rattle.std.proofs.Common.{ℕ, Bool, List, [], ◌∷◌, ◌++◌, cond, eqb, ap₂, ◌∙◌, refl}
use Rattle.sheet.specs.SheetOf.{sheet_of}
use Rattle.sheet.proofs.Listing.{any_behind, stops_listed}
use Rattle.sheet.proofs.sheets.Sheet.points_from.Goals as goal

pub returns-clause-points : goal.returns-clause-points
returns-clause-points c =
    let x = c.args.self.now in
    let first : ℕ → Bool = λ k. eqb ((sheet_of x).rows.step k) 1 in
    let start = c.any_of_first_step.ensures
    ∙ any_behind x c.args.f c.behind-behind.result c.behind-behind.ensures.rows first refl in
    ap₂ (λ b (ks : List ℕ). cond b (0 ∷ []) [] ++ ks) start (stops_listed x c.args.f c.stops.result c.stops.ensures)
