use Rattle.std.proofs.Common.{◌≡◌, ℕ, Bool, []}
use Rattle.rowset.specs.Members.{contains}
use Rattle.model.specs.Rows.{with_states}
use Rattle.rows.specs.Tables.{rows_of, rolled_of}
use Rattle.rowset.proofs.Iteration.{top}
use Rattle.rowset.proofs.Loops.{up_to}
use Rattle.rows.proofs.Falls.{fallen_states, fallen_rolled}
use Rattle.rows.proofs.table.RowTable.fall.Given as goal

-- the rows up to the last one that fell are as they shall be, and the others as they were
abbrev pub invariant-loop-row : goal.invariant-loop-row
invariant-loop-row l =
    let r = rows_of l.initial.self in
    let struck : ℕ → Bool = contains l.struck in
    record {
      rows : rows_of l.self ≡ with_states r (up_to (fallen_states (l.steps, []) r struck) r.state (top 0 l.yielded));
      rolled : rolled_of l.self
          ≡ up_to (fallen_rolled r struck l.number (rolled_of l.initial.self)) (rolled_of l.initial.self) (top 0 l.yielded);
    }
