-- The rows whose links are found are those of the set, and those that are passed over.
use Rattle.std.proofs.Common.{◌≡◌, ℕ, ◌≤◌, ◌-◌, ◌||◌, Bool, true, Option, Some, sym, ap, ◌∙◌, inl, inr, arith}
use borrow.Author.Tests.{clash}
use Rattle.std.proofs.lemmas.Bool.{cases_eq, cases_lt, or_left, or_right}
use Rattle.std.proofs.lemmas.List.{length-set}
use Rattle.values.specs.declared.RowState.TheVariants.{PassedOver}
use Rattle.model.specs.Rows.{Rows, in_state}
use Rattle.graph.specs.Reach.{Least}
use Rattle.rowset.specs.declared.RowSet.{RowSet}
use Rattle.rowset.specs.Members.{contains}
use Rattle.rowset.proofs.Iteration.{top, top_more, next_from, no_next_from}
use Rattle.rowset.proofs.Loops.{member_within}
use Rattle.rows.specs.Tables.{rows_of}
use Rattle.rows.proofs.Leasts.{least_like}
use Rattle.rows.proofs.LinkSets.{known_below, known_more}
use Rattle.rows.proofs.table.RowTable.write_links.Goals as goal

-- the rows whose links are found
abbrev wants : Rows → RowSet → ℕ → Bool
wants r rows k = in_state r PassedOver k || contains rows k

next_wanted : (r : Rows) (rows wanted : RowSet) (after : ℕ) (o : Option ℕ) → ((k : ℕ) → contains wanted k ≡ wants r rows k)
    → Least (λ k. contains wanted k ≡ true) after o → Least (λ k. wants r rows k ≡ true) after o
next_wanted r rows wanted after o is =
    least_like (λ k. contains wanted k ≡ true) (λ k. wants r rows k ≡ true) after o (λ k m. sym (is k) ∙ m) (λ k m. is k ∙ m)

pub loop-row-init : goal.loop-row-init
loop-row-init c = record { size = omega arith; known = λ q from to. absurd (omega (arith, from, to, c.in-Some.ensures.0)) }

pub links_of-requires : goal.links_of-requires
links_of-requires c = λ q from l passed.
    let r = rows_of c.args.self.now in
    let row = c.in-Some-row.row in
    let next = next_from c.with_passed-wanted.result (c.in-Some.least - 1) _ _ c.into_iter-row-iterator.ensures.into_iter_gives c.iter_above-row-items.ensures
    c.loop-row.yielded_by c.in-Some-row.ensures.steps in
    known_below r c.in-Some.least c.loop-row.links (wants r c.args.rows.now) _ row
    (next_wanted r c.args.rows.now c.with_passed-wanted.result _ (Some row) c.with_passed-wanted.ensures next)
    c.loop-row.invariant.known q from l (or_left _ _ passed)

pub bounds-links-row : goal.bounds-links-row
bounds-links-row c =
    let next = next_from c.with_passed-wanted.result (c.in-Some.least - 1) _ _ c.into_iter-row-iterator.ensures.into_iter_gives c.iter_above-row-items.ensures
    c.loop-row.yielded_by c.in-Some-row.ensures.steps in
    omega (arith, member_within c.with_passed-wanted.result (omega arith) c.in-Some-row.row next.1)

pub loop-row-preserved : goal.loop-row-preserved
loop-row-preserved c =
    let r = rows_of c.args.self.now in
    let sets = c.loop-row.links in
    let row = c.in-Some-row.row in
    let next = next_from c.with_passed-wanted.result (c.in-Some.least - 1) _ _ c.into_iter-row-iterator.ensures.into_iter_gives c.iter_above-row-items.ensures
    c.loop-row.yielded_by c.in-Some-row.ensures.steps in
    let inside = member_within c.with_passed-wanted.result (omega arith) row next.1 in
    rw (top_more (c.in-Some.least - 1) c.loop-row.yielded row) record {
      size = length-set sets row c.links_of.result ∙ c.loop-row.invariant.size;
      known = known_more r c.in-Some.least sets (wants r c.args.rows.now) _ row
          (next_wanted r c.args.rows.now c.with_passed-wanted.result _ (Some row) c.with_passed-wanted.ensures next)
          c.loop-row.invariant.known c.links_of.result (omega (arith, inside, c.loop-row.invariant.size)) c.links_of.ensures;
    }

-- a member is not below the least one
not_below : (s : RowSet) (least : ℕ) → Least (λ k. contains s k ≡ true) 0 (Some least) → (u : ℕ) → contains s u ≡ true → least ≤ u
not_below s least (above, here, none) u m = elim (cases_lt u least) [
  | inr h ↦ h
  | inl l ↦ elim (cases_eq u 0) [
    | inl e ↦ absurd (clash (sym (ap (contains s) e) ∙ m))
    | inr ne ↦ absurd (none u (omega arith) l m)
  ]
]

pub returns : goal.returns
returns c = λ v member u among.
    let wanted = or_right (in_state (rows_of c.args.self.now) PassedOver v) _ member in
    let from = not_below c.args.rows.now c.in-Some.least c.in-Some.ensures in
    let past = no_next_from c.with_passed-wanted.result (c.in-Some.least - 1) _ _ c.into_iter-row-iterator.ensures.into_iter_gives c.iter_above-row-items.ensures
    c.loop-row.yielded_by c.in-None.ensures.steps.0 in
    elim (cases_lt (top (c.in-Some.least - 1) c.loop-row.yielded) v) [
      | inl high ↦ absurd (past v high (c.with_passed-wanted.ensures v ∙ wanted))
      | inr low ↦ c.loop-row.invariant.known v (from v member) low wanted u (from u among)
    ]
