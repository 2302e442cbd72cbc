use Rattle.std.proofs.Common.{◌≡◌, ℕ, ◌*◌, ◌<◌, ◌≤◌, false}
use Rattle.rowset.specs.Members.{is_set}
use Rattle.rowset.proofs.RowSet.next_above.Given as goal

-- the words so far have no bit from the place on
abbrev pub invariant-loop-i : goal.invariant-loop-i
invariant-loop-i l = (p : ℕ) → l.number ≤ p → p < 64 * l.i → is_set l.self.words p ≡ false
