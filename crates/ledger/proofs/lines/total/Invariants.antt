-- The sum of the lines so far, which is not large yet.
use Rattle.std.proofs.Common.{◌≡◌, ◌*◌, ◌^◌, take, pos, neg_ℤ, ◌≤ℤ◌}
use Rattle.ledger.specs.Fees.{posted}
use Rattle.ledger.proofs.lines.total.Given as goal

abbrev pub invariant-loop-line : goal.invariant-loop-line
invariant-loop-line l =
    (l.sum ≡ posted (take l.line-index l.lines))
    × (neg_ℤ (pos (l.line-index * 2 ^ 31)) ≤ℤ l.sum)
    × (l.sum ≤ℤ pos (l.line-index * 2 ^ 31))
