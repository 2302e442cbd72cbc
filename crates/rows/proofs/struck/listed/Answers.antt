use Rattle.std.proofs.Common.{length, sym, ap, ◌∙◌, arith}
use Rattle.model.specs.Search.{has}
use Rattle.rowset.proofs.Iteration.{fewer, given_all}
use Rattle.rows.proofs.Members.{has_members}
use Rattle.rows.proofs.struck.listed.Goals as goal

pub push-requires : goal.push-requires
push-requires c =
    let room = fewer c.args.set _ _ c.into_iter-row-iterator.ensures.into_iter_gives c.iter-row-items.ensures c.loop-row.yielded_by c.in-Some.ensures.steps in
    let same = ap length c.loop-row.invariant in
    (omega arith, omega (arith, room, same))

pub returns : goal.returns
returns c = λ k.
    let all = given_all c.args.set _ _ c.into_iter-row-iterator.ensures.into_iter_gives c.iter-row-items.ensures c.loop-row.yielded_by c.in-None.ensures.steps.0 in
    ap (has k) (c.loop-row.invariant ∙ sym all) ∙ has_members c.args.set k
