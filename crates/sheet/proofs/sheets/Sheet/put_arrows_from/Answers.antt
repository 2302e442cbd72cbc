use Rattle.std.proofs.Common.{inl, inr, arith}
use Rattle.std.proofs.lemmas.Bool.{cases_Bool}
use Rattle.rowset.specs.Members.{contains}
use Rattle.sheet.specs.SheetOf.{sheet_of}
use Rattle.sheet.proofs.Graphs.{of_graph}
use Rattle.sheet.proofs.sheets.Sheet.put_arrows_from.Goals as goal

pub put_arrows_to-requires-clause-to : goal.put_arrows_to-requires-clause-to
put_arrows_to-requires-clause-to c = λ u.
    let x = c.args.self.now in
    let met = c.meet.ensures u in
    let is = of_graph (sheet_of x) x.graph x.holds u in
    elim (cases_Bool (contains x.graph u)) [
      | inl there ↦ let linked = c.requires.links u there in grind arith
      | inr not_there ↦ grind arith
    ]
