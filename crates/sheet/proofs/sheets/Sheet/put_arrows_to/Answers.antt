use Rattle.std.proofs.Common.{[], ◌∷◌, map, sym, subst, ◌∙◌, arith}
use Rattle.std.proofs.lemmas.List.{length-map, map-append}
use Rattle.sheet.specs.Listings.{Puts}
use Rattle.rowset.proofs.Iteration.{fewer_members, given_all}
use Rattle.sheet.proofs.Listing.{arrow, ends_listed, few_ends}
use Rattle.sheet.proofs.Puts.{puts_then}
use Rattle.sheet.proofs.sheets.Sheet.put_arrows_to.Goals as goal

pub put-next-requires : goal.put-next-requires
put-next-requires c =
    let x = c.args.self.now in
    let fewer = fewer_members c.args.to.now _ _ c.into_iter-row-iterator.ensures.into_iter_gives c.iter-row-items.ensures c.loop-row.yielded_by c.in-Some.ensures.steps in
    let few = few_ends x c.args.from c.args.to.now c.requires.to in
    omega (
      arith,
      c.loop-row.invariant.place,
      length-map c.loop-row.yielded (arrow x c.args.from),
      c.requires.room,
      fewer,
      few,
      x.table.few,
      x.table.rows.ok.0,
    )

pub loop-row-preserved : goal.loop-row-preserved
loop-row-preserved c =
    let g = arrow c.args.self.now c.args.from in
    let xs = c.loop-row.yielded in
    let row = c.in-Some.row in
    subst (λ ys. Puts ys c.args.at c.args.table.now c.put-next.result c.put-next.new.table) (sym (map-append g xs (row ∷ [])))
    (puts_then (map g xs) (g row ∷ []) c.loop-row.invariant c.put-next.ensures)

pub returns : goal.returns
returns c =
    let x = c.args.self.now in
    let all = given_all c.args.to.now _ _ c.into_iter-row-iterator.ensures.into_iter_gives c.iter-row-items.ensures c.loop-row.yielded_by c.in-None.ensures.steps.0 in
    subst (λ xs. Puts (map (arrow x c.args.from) xs) c.args.at c.args.table.now c.loop-row.next c.loop-row.table)
    (sym all ∙ ends_listed x c.args.from c.args.to.now c.requires.to) c.loop-row.invariant
