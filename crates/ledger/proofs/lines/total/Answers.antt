-- One line more in the sum.
use Rattle.std.proofs.Common.{ap, ◌∙◌, arith}
use Rattle.std.proofs.lemmas.List.{take_all}
use Rattle.std.proofs.lemmas.Int.{ints}
use Rattle.ledger.specs.Fees.{posted}
use Rattle.ledger.proofs.Last.{posted_more}
use Rattle.ledger.proofs.lines.total.Goals as goal

pub loop-line-preserved : goal.loop-line-preserved
loop-line-preserved c =
    let inv = c.loop-line.invariant in
    let few = c.requires in
    let more = posted_more c.args.lines.now c.loop-line.line-index _ _ _ c.loop-line-test.true inv.0 c.worth-sum.ensures.value in
    (omega (arith, ints, more), omega (arith, ints), omega (arith, ints))

pub returns : goal.returns
returns c =
    c.loop-line.invariant.0 ∙ ap posted (take_all c.loop-line.line-index c.args.lines.now c.loop-line-test.false)
