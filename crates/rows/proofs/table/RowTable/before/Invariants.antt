use Rattle.std.proofs.Common.{◌≡◌, ℕ, take}
use Rattle.model.specs.Search.{has}
use Rattle.rowset.specs.Members.{contains}
use Rattle.rows.proofs.table.RowTable.before.Given as goal

abbrev pub invariant-loop-w : goal.invariant-loop-w
invariant-loop-w l = (u : ℕ) → contains l.before u ≡ has u (take l.w-index l.w-items)
