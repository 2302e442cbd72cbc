use Rattle.std.proofs.Common.{◌≡◌, ℕ, ◌≤◌, take}
use Rattle.model.specs.Search.{any}
use Rattle.rowset.specs.Members.{contains}
use Rattle.rows.specs.Linked.{brings}
use Rattle.rows.specs.Tables.{rows_of}
use Rattle.rows.proofs.table.RowTable.links_of.Given as goal

abbrev pub invariant-loop-before : goal.invariant-loop-before
invariant-loop-before l =
    (u : ℕ) → l.least ≤ u → contains l.links u
    ≡ any (λ q. brings (rows_of l.self) q u) (take l.before-index l.before-items)
