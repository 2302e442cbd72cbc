-- The rows so far, and those of the parts that are left, are all rows.
use Rattle.std.proofs.Common.{◌≡◌}
use Rattle.std.specs.Slice.Iter.{split_rest, split_done}
use Rattle.journal.specs.Calls.{numbers, parts}
use Rattle.journal.proofs.Parts.{left, followed}
use Rattle.journal.proofs.fields.rows.Given as goal

abbrev pub invariant-loop-part : goal.invariant-loop-part
invariant-loop-part l = followed l.rows.items (left (split_rest l.part-iterator) (split_done l.part-iterator)) ≡ numbers (parts l.fn.word)
