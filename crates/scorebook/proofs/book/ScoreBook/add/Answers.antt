-- One record more is in use, and its row has a place.
use Rattle.std.proofs.Common.{◌≡◌, ◌<◌, true, ◌++◌, ◌∷◌, [], length, length-append, sym, ap, ◌∙◌, subst, arith}
use Rattle.host.proofs.Tables.{has_room, all_pushed}
use Rattle.host.specs.Places.{places_most}
use Rattle.scorebook.specs.Records.{well, scores, place_in}
use Rattle.scorebook.proofs.Placed.{placed_push}
use Rattle.scorebook.proofs.Turned.{well_push, scores_push}
use Rattle.scorebook.proofs.book.ScoreBook.add.Goals as goal

pub invariant_of-self : goal.invariant_of-self
invariant_of-self c =
    let b = c.args.self.now in
    let xs = b.table.used in
    let new = c.args.new in
    let room : 0 < length b.table.rest = omega (arith, c.requires.space) in
    let more = all_pushed (xs ++ new ∷ []) xs (has_room room c.push.ensures.test) c.push.ensures.used in
    let one = ap length more ∙ length-append xs (new ∷ []) in
    let last = ap length c.used.ensures in
    let few : length c.used.result.now < places_most = omega (arith, last, b.within) in
    record {
      within = omega (arith, one, c.requires.space);
      sound =
          subst (λ ys. well ys ≡ true) (sym more)
          (well_push xs new b.sound c.requires.row c.requires.known c.requires.unused);
      scores = subst (λ ys. scores ys ≡ true) (sym more) (scores_push xs new b.scores c.requires.score);
      placed = λ n.
          placed_push xs new n _ _ _ c.requires.row last few c.requires.unused (b.placed n) (c.set.ensures n)
          ∙ ap (λ ys. place_in ys n) (sym more);
    }
