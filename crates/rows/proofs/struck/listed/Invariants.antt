use Rattle.std.proofs.Common.{◌≡◌}
use Rattle.rows.proofs.struck.listed.Given as goal

abbrev pub invariant-loop-row : goal.invariant-loop-row
invariant-loop-row l = l.list.items ≡ l.yielded
