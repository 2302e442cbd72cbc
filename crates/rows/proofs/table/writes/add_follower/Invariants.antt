use Rattle.std.proofs.Common.{◌≡◌, ℕ, ◌&&◌, ◌||◌, eqb, take}
use Rattle.model.specs.Search.{has}
use Rattle.rowset.specs.Members.{contains}
use Rattle.rows.specs.States.{set_at}
use Rattle.rows.proofs.table.writes.add_follower.Given as goal

-- the row follows the predecessors so far
abbrev pub invariant-loop-k : goal.invariant-loop-k
invariant-loop-k l = (k v : ℕ) → contains (set_at l.followers k) v
    ≡ (contains (set_at l.initial.followers k) v || (eqb v l.row && has k (take l.k-index l.predecessors)))
