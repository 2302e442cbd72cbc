-- A predecessor's place is one more than its place among the rest.
use Rattle.std.proofs.Common.{◌≡◌, ℕ, ◌+◌, ◌<◌, Bool, true, false, not, ◌&&◌, ◌||◌, eqb, length, take, slice_index, Some, sym, ap, ap₂, ◌∙◌, below_more, arith, length-take}
use Rattle.std.proofs.lemmas.Bool.{eq-eqb, ne_eqb, or_from, or_left, or_right, not_from_false, not_from_true}
use Rattle.std.proofs.lemmas.List.{get_or-take}
use Rattle.values.specs.declared.RowState.TheVariants.{Committed}
use Rattle.model.specs.Chart.{is_arrow}
use Rattle.model.specs.Rows.{in_state}
use Rattle.model.specs.Search.{any_below, first_below}
use Rattle.model.proofs.Basics.{any_below_in}
use Rattle.rows.proofs.Below.{any_below_none, first_is, first_none}
use Rattle.sheet.specs.declared.sheets.starts.Candidate.{Candidate}
use Rattle.sheet.specs.Candidates.{sheet_for, chart_for, unfit}
use Rattle.sheet.proofs.sheets.starts.Candidate.first_unfit_of.Goals as goal

module _ (new : Candidate) (place : ℕ) where
  -- the j-th predecessor is of the row's step
  abbrev same_step : ℕ → ℕ → Bool
  same_step row j = let step = (sheet_for new).rows.step in eqb (step (slice_index new.predecessors.now j)) (step row)

  -- what `unfit` says of the row at that place
  abbrev unfit_row : ℕ → Bool
  unfit_row row =
      let rows = (sheet_for new).rows in
      not (in_state rows Committed row && is_arrow (chart_for new) (rows.step row) new.step) || any_below place (same_step row)

  -- the loop compares the steps
  compared : (row j : ℕ) {a b : ℕ} → j < length (take place new.predecessors.now)
      → a ≡ (sheet_for new).rows.step (slice_index (take place new.predecessors.now) j) → b ≡ (sheet_for new).rows.step row
      → same_step row j ≡ eqb a b
  compared row j l earlier this =
      let before : j < place = omega (arith, length-take place new.predecessors.now) in
      ap₂ eqb (ap (sheet_for new).rows.step (sym (get_or-take place new.predecessors.now j 0 before)) ∙ sym earlier) (sym this)

  -- an unfit row after fit ones is what is found
  found_here : (row : ℕ) → row ≡ slice_index new.predecessors.now place → place < length new.predecessors.now
      → ((k : ℕ) → k < place → unfit new k ≡ false) → unfit_row row ≡ true
      → Some place ≡ first_below (length new.predecessors.now) (unfit new)
  found_here row at l fit bad =
      sym (first_is (length new.predecessors.now) (unfit new) place l (ap unfit_row (sym at) ∙ bad) fit)

pub loop-earlier-preserved : goal.loop-earlier-preserved
loop-earlier-preserved c =
    let other = compared c.args.self.now (c.rest.i + 1) (slice_index c.args.rest.now c.rest.i) c.loop-earlier.earlier-index
    c.loop-earlier-test.true c.step.ensures c.step-in-loop-earlier.ensures in
    record {
      others = below_more _ _ c.loop-earlier.invariant.others (other ∙ ne_eqb _ _ c.if-step.false);
      found = c.loop-earlier.invariant.found;
    }

pub rest-preserved : goal.rest-preserved
rest-preserved c =
    let new = c.args.self.now in
    let place = c.rest.i + 1 in
    let row = slice_index c.args.rest.now c.rest.i in
    let at = c.requires.rest c.rest.i c.rest-test.true in
    let size = length-take place new.predecessors.now in
    let alone = any_below_none place (same_step new place row)
    (λ j l. c.loop-earlier.invariant.others j (omega (arith, size, c.requires.all))) in
    let fits = or_from _ _ (not_from_true _ (sym c.if-not-may_follow.ensures)) alone in
    record {
      fit = below_more _ _ c.rest.invariant.fit (ap (unfit_row new place) (sym at) ∙ fits);
      found = c.loop-earlier.invariant.found;
    }

pub returns-after-rest : goal.returns-after-rest
returns-after-rest c =
    let new = c.args.self.now in
    let none = first_none (length new.predecessors.now) (unfit new)
    (λ k l. c.rest.invariant.fit k (omega (arith, c.requires.all))) in
    c.rest.invariant.found ∙ sym none

pub returns-then-not-may_follow : goal.returns-then-not-may_follow
returns-then-not-may_follow c =
    let new = c.args.self.now in
    let place = c.rest.i + 1 in
    let row = slice_index c.args.rest.now c.rest.i in
    let at = c.requires.rest c.rest.i c.rest-test.true in
    let out = not_from_false _ (sym c.if-not-may_follow.ensures) in
    found_here new place row at (omega (arith, c.requires.all)) c.rest.invariant.fit
    (or_left _ (any_below place (same_step new place row)) out)

pub returns-then-step : goal.returns-then-step
returns-then-step c =
    let new = c.args.self.now in
    let place = c.rest.i + 1 in
    let row = slice_index c.args.rest.now c.rest.i in
    let at = c.requires.rest c.rest.i c.rest-test.true in
    let j = c.loop-earlier.earlier-index in
    let same = compared new place row j c.loop-earlier-test.true c.step.ensures c.step-in-loop-earlier.ensures in
    let size = length-take place new.predecessors.now in
    let met = any_below_in place (same_step new place row) j (omega arith) (same ∙ eq-eqb _ _ c.if-step.true) in
    found_here new place row at (omega (arith, c.requires.all)) c.rest.invariant.fit (or_right _ _ met)
