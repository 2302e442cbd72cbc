-- The predecessors so far can be followed; of this one, no earlier one so far is of its step.
use Rattle.std.proofs.Common.{◌≡◌, ℕ, ◌+◌, ◌<◌, false, eqb, None, slice_index}
use Rattle.sheet.specs.Candidates.{sheet_for, unfit}
use Rattle.sheet.proofs.sheets.starts.Candidate.first_unfit_of.Given as goal

abbrev pub invariant-rest : goal.invariant-rest
invariant-rest l =
    record {
      fit : (k : ℕ) → k < l.i + 1 → unfit l.self k ≡ false;
      found : l.found ≡ None;
    }

abbrev pub invariant-loop-earlier : goal.invariant-loop-earlier
invariant-loop-earlier l =
    let step = (sheet_for l.self).rows.step in
    record {
      others : (j : ℕ) → j < l.earlier-index → eqb (step (slice_index l.self.predecessors.now j)) (step l.row) ≡ false;
      found : l.found ≡ None;
    }
