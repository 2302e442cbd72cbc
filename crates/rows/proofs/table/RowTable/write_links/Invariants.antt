use Rattle.std.proofs.Common.{◌≡◌, ℕ, ◌≤◌, ◌-◌, ◌||◌, true, length}
use Rattle.values.specs.declared.RowState.TheVariants.{PassedOver}
use Rattle.model.specs.Rows.{in_state}
use Rattle.rowset.specs.Members.{contains}
use Rattle.rowset.proofs.Iteration.{top}
use Rattle.rows.specs.Linked.{links_at, HasLinks}
use Rattle.rows.specs.Tables.{rows_of}
use Rattle.rows.proofs.table.RowTable.write_links.Given as goal

abbrev pub invariant-loop-row : goal.invariant-loop-row
invariant-loop-row l =
    record {
      size : length l.links ≡ 257;
      known : (q : ℕ) → l.least ≤ q → q ≤ top (l.least - 1) l.yielded → (in_state (rows_of l.self) PassedOver q || contains l.rows q) ≡ true
          → HasLinks (rows_of l.self) l.least q (links_at l.links q);
    }
