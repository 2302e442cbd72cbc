use Rattle.std.proofs.Common.{ℕ, ◌+◌, Bool, List, sym, subst, ◌∙◌, arith}
use Rattle.values.specs.declared.RowArrow.{RowArrow}
use Rattle.model.specs.Sheet.{arrows_from}
use Rattle.rowset.specs.Members.{contains}
use Rattle.rows.specs.Linked.{LinksAmong, links_at}
use Rattle.rowset.proofs.Iteration.{top, top_more, next_member, no_next_member}
use Rattle.sheet.specs.Listings.{Puts}
use Rattle.sheet.specs.SheetOf.{sheet_of}
use Rattle.sheet.proofs.Graphs.{of_graph}
use Rattle.sheet.proofs.Listing.{graph_by, graph_within, few_below}
use Rattle.sheet.proofs.Puts.{puts_next, puts_end}
use Rattle.sheet.proofs.sheets.Sheet.put_arrows.Goals as goal

pub bounds-links-from : goal.bounds-links-from
bounds-links-from c =
    let x = c.args.self.now in
    let n = c.in-Some.row in
    let next = next_member x.graph _ _ c.into_iter-row-iterator.ensures.into_iter_gives c.iter-row-items.ensures
    c.loop-row.yielded_by c.in-Some.ensures.steps in
    let there = graph_within x n (sym (of_graph (sheet_of x) x.graph x.holds n) ∙ next.1) in
    omega (arith, c.from.ensures, there, x.table.few, x.table.rows.ok.0)

pub put_arrows_from-next-requires-clause-links : goal.put_arrows_from-next-requires-clause-links
put_arrows_from-next-requires-clause-links c =
    let x = c.args.self.now in
    let n = c.in-Some.row in
    let next = next_member x.graph _ _ c.into_iter-row-iterator.ensures.into_iter_gives c.iter-row-items.ensures
    c.loop-row.yielded_by c.in-Some.ensures.steps in
    subst (λ i. LinksAmong (sheet_of x).rows x.graph n (links_at c.args.links.now i)) (sym c.from.ensures) (c.requires n next.1)

pub put_arrows_from-next-requires-clause-room : goal.put_arrows_from-next-requires-clause-room
put_arrows_from-next-requires-clause-room c =
    let x = c.args.self.now in
    omega (
      arith,
      c.loop-row.invariant.puts.place,
      c.loop-row.invariant.within,
      few_below x (contains x.graph) (top 0 c.loop-row.yielded + 1),
      x.table.few,
      x.table.rows.ok.0,
    )

pub loop-row-preserved : goal.loop-row-preserved
loop-row-preserved c =
    let x = c.args.self.now in
    let n = c.in-Some.row in
    let next = next_member x.graph _ _ c.into_iter-row-iterator.ensures.into_iter_gives c.iter-row-items.ensures
    c.loop-row.yielded_by c.in-Some.ensures.steps in
    rw (top_more 0 c.loop-row.yielded n) record {
      puts = puts_next (contains x.graph) (arrows_from (sheet_of x)) c.loop-row.invariant.puts next
          c.put_arrows_from-next.ensures;
      within = graph_within x n (sym (of_graph (sheet_of x) x.graph x.holds n) ∙ next.1);
    }

pub returns : goal.returns
returns c =
    let x = c.args.self.now in
    let p : ℕ → Bool = contains x.graph in
    let n = (sheet_of x).rows.count + 1 in
    let past = no_next_member x.graph _ _ c.into_iter-row-iterator.ensures.into_iter_gives c.iter-row-items.ensures
    c.loop-row.yielded_by c.in-None.ensures.steps.0 in
    let All : List RowArrow → Type 0 = λ xs. Puts xs 0 c.args.table.now c.loop-row.next c.loop-row.table in
    subst All (graph_by x p (of_graph (sheet_of x) x.graph x.holds))
    (puts_end p (arrows_from (sheet_of x)) c.loop-row.invariant.puts n (omega arith) past)
