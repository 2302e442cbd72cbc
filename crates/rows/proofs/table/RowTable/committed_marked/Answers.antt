use Rattle.std.proofs.Common.{ℕ, Bool, ◌&&◌, ap, ◌∙◌, arith}
use Rattle.graph.specs.Column.{marked}
use Rattle.graph.specs.Held.{held}
use Rattle.rowset.specs.Members.{contains}
use Rattle.rowset.proofs.Iteration.{next_member, given_all}
use Rattle.rowset.proofs.Loops.{member_number}
use Rattle.rows.proofs.Members.{found_put, found_all}
use Rattle.rows.proofs.table.RowTable.committed_marked.Goals as goal

pub loop-row-preserved : goal.loop-row-preserved
loop-row-preserved c =
    let test : ℕ → Bool = marked (held c.args.marks.now) in
    let set = c.rows_in-committed.result in
    let next = next_member set _ _ c.into_iter-row-iterator.ensures.into_iter_gives c.iter-row-items.ensures c.loop-row.yielded_by c.in-Some.ensures.steps in
    found_put test c.loop-row.yielded (contains c.loop-row.set) (contains c.put.new.self) c.loop-row.invariant
    (member_number set (omega arith) c.in-Some.row next.1) (c.is_set.ensures ∙ ap test c.from.ensures) c.put.ensures

pub returns : goal.returns
returns c = λ k.
    let test : ℕ → Bool = marked (held c.args.marks.now) in
    let set = c.rows_in-committed.result in
    let all = given_all set _ _ c.into_iter-row-iterator.ensures.into_iter_gives c.iter-row-items.ensures c.loop-row.yielded_by c.in-None.ensures.steps.0 in
    found_all set test all c.loop-row.invariant k ∙ ap (λ b. b && test k) (c.rows_in-committed.ensures k)
