use Rattle.std.proofs.Common.{eqb, get_or, refl, arith}
use Rattle.std.proofs.lemmas.Bool.{eq-eqb}
use Rattle.rows.proofs.Followers.{follows_more}
use Rattle.rows.proofs.Lists.{any_found}
use Rattle.rows.proofs.table.writes.add_follower.Goals as goal

-- each predecessor is the number of a set
pub overflow_sub-k : goal.overflow_sub-k
overflow_sub-k c =
    let preds = c.args.predecessors.now in
    let i = c.loop-k.k-index in
    (c.requires.inside (get_or preds i 0) (any_found (eqb (get_or preds i 0)) preds i 0 c.loop-k-test.true (eq-eqb _ _ refl))).0

pub bounds-followers-k : goal.bounds-followers-k
bounds-followers-k c =
    let preds = c.args.predecessors.now in
    let i = c.loop-k.k-index in
    let there = c.requires.inside (get_or preds i 0) (any_found (eqb (get_or preds i 0)) preds i 0 c.loop-k-test.true (eq-eqb _ _ refl)) in
    omega (arith, there.0, there.1, c.loop-k.auto.followers)

pub loop-k-preserved : goal.loop-k-preserved
loop-k-preserved c =
    let preds = c.args.predecessors.now in
    let i = c.loop-k.k-index in
    let p = get_or preds i 0 in
    let there = c.requires.inside p (any_found (eqb p) preds i 0 c.loop-k-test.true (eq-eqb p p refl)) in
    follows_more c.args.followers.now c.loop-k.followers c.args.row c.requires.row preds i p c.loop-k-test.true refl there.0
    (omega (arith, there.1, c.loop-k.auto.followers)) c.loop-k.invariant c.insert.new.self _ c.insert.ensures
