-- No exit so far is used; of this one, no live follower so far uses it.
use Rattle.std.proofs.Common.{◌≡◌, ℕ, ◌<◌, ◌≤◌, false, None}
use Rattle.model.specs.Calls.{uses}
use Rattle.rowset.proofs.Iteration.{top}
use Rattle.sheet.specs.Candidates.{sheet_for, chart_for, used}
use Rattle.sheet.proofs.sheets.starts.Candidate.first_used.Given as goal

abbrev pub invariant-predecessors : goal.invariant-predecessors
invariant-predecessors l =
    record {
      unused : (k : ℕ) → k < l.i → used l.self k ≡ false;
      found : l.found ≡ None;
    }

abbrev pub invariant-loop-follower : goal.invariant-loop-follower
invariant-loop-follower l =
    record {
      free : (v : ℕ) → v ≤ top 0 l.yielded
          → uses (chart_for l.self) (sheet_for l.self).rows l.self.step l.row v ≡ false;
      found : l.found ≡ None;
    }
