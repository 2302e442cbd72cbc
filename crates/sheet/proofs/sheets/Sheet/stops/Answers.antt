use Rattle.std.proofs.Common.{◌≡◌, ℕ, Bool, ◌∙◌, arith, refl}
use Rattle.values.specs.declared.RowState.TheVariants.{Committed}
use Rattle.model.specs.Search.{has}
use Rattle.model.specs.Rows.{in_state}
use Rattle.rowset.specs.Members.{contains}
use Rattle.sheet.specs.SheetOf.{sheet_of}
use Rattle.sheet.proofs.Listing.{any_behind}
use Rattle.sheet.proofs.sheets.Sheet.stops.Goals as goal

pub returns : goal.returns
returns c w =
    let x = c.args.self.now in
    let r = (sheet_of x).rows in
    let follows : ℕ → Bool = λ k. has w (r.preds k) in
    let reached = c.predecessors_of-reached.ensures w ∙ any_behind x c.args.f c.args.behind.now c.requires follows refl in
    let committed : contains c.rows_in.result w ≡ in_state r Committed w = c.rows_in.ensures w in
    let met = c.meet.ensures w in
    let stop = c.savepoints.ensures w in
    grind arith
