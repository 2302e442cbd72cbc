-- The record at the row's place is set, or there is none.
use Rattle.std.proofs.Common.{◌≡◌, true, length, sym, ap, ◌∙◌, subst, arith}
use Rattle.std.proofs.lemmas.List.{length-set}
use Rattle.scorebook.specs.Records.{well, scores, place_in}
use Rattle.scorebook.proofs.Placed.{place_turned}
use Rattle.scorebook.proofs.Turned.{turned_at, turned_absent, well_turned, scores_turned}
use Rattle.scorebook.proofs.book.ScoreBook.restate.Goals as goal

pub invariant_of-self : goal.invariant_of-self
invariant_of-self c =
    let b = c.args.self.now in
    let xs = b.table.used in
    let at = c.in-Some.ensures ∙ b.placed c.args.row in
    let turns = c.set.ensures.used ∙ turned_at xs _ c.args.row c.in-Some.i c.args.to _ at c.used.ensures in
    record {
      within = omega (arith, ap length c.set.ensures.used, length-set xs c.in-Some.i, b.within);
      sound = subst (λ ys. well ys ≡ true) (sym turns) (well_turned xs c.args.row c.args.to b.sound c.requires);
      scores = subst (λ ys. scores ys ≡ true) (sym turns) (scores_turned xs c.args.row c.args.to b.scores);
      placed = λ n. b.placed n ∙ sym (ap (λ ys. place_in ys n) turns ∙ place_turned xs c.args.row c.args.to n);
    }

pub returns-in-Some-clause-records : goal.returns-in-Some-clause-records
returns-in-Some-clause-records c =
    let b = c.args.self.now in
    c.set.ensures.used ∙ turned_at b.table.used _ c.args.row c.in-Some.i c.args.to _ (c.in-Some.ensures ∙ b.placed c.args.row) c.used.ensures

pub returns-in_default-clause-records : goal.returns-in_default-clause-records
returns-in_default-clause-records c =
    let b = c.args.self.now in
    sym (turned_absent b.table.used c.args.row c.args.to (c.in_default.ensures ∙ b.placed c.args.row))
