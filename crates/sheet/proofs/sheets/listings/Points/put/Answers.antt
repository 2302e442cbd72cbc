use Rattle.std.proofs.Common.{ℕ, [], ◌∷◌, sym, subst, ◌∙◌, arith}
use Rattle.sheet.specs.Listings.{Puts, only_if, members}
use Rattle.rowset.proofs.Iteration.{fewer, given_all}
use Rattle.sheet.proofs.Listing.{members_listed}
use Rattle.sheet.proofs.Puts.{puts_then, length_only_if}
use Rattle.sheet.proofs.sheets.listings.Points.put.Goals as goal

pub put-next-requires : goal.put-next-requires
put-next-requires c =
    let few = fewer c.args.self.stops _ _ c.into_iter-row-iterator.ensures.into_iter_gives c.iter-row-items.ensures c.loop-row.yielded_by c.in-Some.ensures.steps in
    omega (arith, c.put_if-next.ensures.place, c.loop-row.invariant.place, length_only_if {X = ℕ} c.args.self.start 0, few)

pub loop-row-preserved : goal.loop-row-preserved
loop-row-preserved c = puts_then c.loop-row.yielded (c.in-Some.row ∷ []) c.loop-row.invariant c.put-next.ensures

pub returns : goal.returns
returns c =
    let all = given_all c.args.self.stops _ _ c.into_iter-row-iterator.ensures.into_iter_gives c.iter-row-items.ensures c.loop-row.yielded_by c.in-None.ensures.steps.0 in
    puts_then (only_if c.args.self.start 0) (members c.args.self.stops) c.put_if-next.ensures
    (subst (λ xs. Puts xs c.put_if-next.result c.put_if-next.new.table c.loop-row.next c.loop-row.table)
    (sym (members_listed c.args.self.stops (omega arith) ∙ all)) c.loop-row.invariant)
