-- No predecessor is before the first.
use Rattle.std.proofs.Common.{◌≡◌, false, true, length, sym, arith}
use Rattle.std.proofs.lemmas.Bool.{not_from_false, or_left}
use Rattle.rows.proofs.Below.{first_is}
use Rattle.sheet.specs.Candidates.{unfit}
use Rattle.sheet.proofs.sheets.starts.Candidate.first_unfit.Goals as goal

pub returns-in-len1-up : goal.returns-in-len1-up
returns-in-len1-up c =
    let new = c.args.self.now in
    let first : unfit new 0 ≡ true = or_left _ false (not_from_false _ (sym c.if-not-may_follow.ensures)) in
    sym (first_is (length new.predecessors.now) (unfit new) 0 (omega arith) first (λ j l. absurd (omega arith)))
