-- Only live followers use an exit.
use Rattle.std.proofs.Common.{◌≡◌, ℕ, ◌+◌, Bool, true, false, ◌&&◌, eqb, length, slice_index, vec_items, sym, ◌∙◌, below_more, arith}
use Rattle.std.proofs.lemmas.Bool.{and_from, and_left, and_parts, and_right}
use Rattle.model.specs.Chart.{by_flow, step_at}
use Rattle.model.specs.Rows.{live}
use Rattle.model.specs.Search.{has}
use Rattle.model.proofs.Basics.{any_below_in}
use Rattle.rowset.specs.Members.{contains}
use Rattle.rowset.proofs.Iteration.{top_more, next_member, no_next_member}
use Rattle.rowset.proofs.Loops.{with_next, at_all}
use Rattle.rows.proofs.Below.{any_below_none, first_is, first_none}
use Rattle.rows.proofs.Searches.{live_within}
use Rattle.sheet.specs.declared.sheets.starts.Candidate.{Candidate}
use Rattle.sheet.specs.Candidates.{sheet_for, chart_for, used}
use Rattle.sheet.proofs.sheets.starts.Candidate.first_used.Goals as goal

module _ (new : Candidate) (i : ℕ) where
  -- row v is live, and follows the i-th predecessor
  abbrev follows : ℕ → Bool
  follows v =
      let r = (sheet_for new).rows in live (r.state v) && has (slice_index new.predecessors.now i) (r.preds v)

  -- and is of a step that uses that row's exit
  abbrev of_user : ℕ → Bool
  of_user v =
      let r = (sheet_for new).rows in
      by_flow (step_at (chart_for new) (r.step (slice_index new.predecessors.now i))).exit true (eqb (r.step v) new.step)

  abbrev takes : ℕ → Bool
  takes v = follows v && of_user v

pub loop-follower-preserved : goal.loop-follower-preserved
loop-follower-preserved c =
    let new = c.args.self.now in
    let i = c.predecessors.i in
    let v = c.in-Some.follower in
    let next = next_member c.live_followers.result _ _ c.into_iter-follower-iterator.ensures.into_iter_gives
    c.iter-follower-items.ensures c.loop-follower.yielded_by c.in-Some.ensures.steps in
    let other : of_user new i v ≡ false = cc in
    let so_far = with_next (contains c.live_followers.result) (λ k. takes new i k ≡ false)
    (λ k out. and_left _ _ (sym (c.live_followers.ensures k) ∙ out)) c.loop-follower.invariant.free next
    (and_right (follows new i v) _ other) in
    record { free = simp top_more so_far; found = c.loop-follower.invariant.found }

pub predecessors-preserved : goal.predecessors-preserved
predecessors-preserved c =
    let new = c.args.self.now in
    let i = c.predecessors.i in
    let past = no_next_member c.live_followers.result _ _ c.into_iter-follower-iterator.ensures.into_iter_gives
    c.iter-follower-items.ensures c.loop-follower.yielded_by c.in-None.ensures.steps.0 in
    let none = at_all (contains c.live_followers.result) (λ k. takes new i k ≡ false)
    (λ k out. and_left _ _ (sym (c.live_followers.ensures k) ∙ out)) c.loop-follower.invariant.free past in
    record {
      unused = below_more _ _ c.predecessors.invariant.unused
          (any_below_none ((sheet_for new).rows.count + 1) (takes new i) (λ v l. none v));
      found = c.loop-follower.invariant.found;
    }

pub returns-after-predecessors : goal.returns-after-predecessors
returns-after-predecessors c =
    let new = c.args.self.now in
    let none = first_none (length new.predecessors.now) (used new) (λ k l. c.predecessors.invariant.unused k (omega arith)) in
    c.predecessors.invariant.found ∙ sym none

pub returns-then-uses_exit : goal.returns-then-uses_exit
returns-then-uses_exit c =
    let new = c.args.self.now in
    let i = c.predecessors.i in
    let v = c.in-Some.follower in
    let next = next_member c.live_followers.result _ _ c.into_iter-follower-iterator.ensures.into_iter_gives
    c.iter-follower-items.ensures c.loop-follower.yielded_by c.in-Some.ensures.steps in
    let member = sym (c.live_followers.ensures v) ∙ next.1 in
    let row = live_within (vec_items new.sheet.now.table.rows) v (and_parts _ _ member).0 in
    let user : of_user new i v ≡ true = cc in
    let here = any_below_in ((sheet_for new).rows.count + 1) (takes new i) v (omega arith)
    (and_from _ _ member user) in
    sym (first_is (length new.predecessors.now) (used new) i (omega arith) here c.predecessors.invariant.unused)
