-- What is left of the text, after what was read, gives the answer of the whole.
use Rattle.std.proofs.Common.{◌≡◌, ◌+◌, ◌≤◌, length}
use Rattle.std.specs.Slice.Iter.{split_inclusive_rest}
use Rattle.journal.specs.Text.{lines}
use Rattle.journal.specs.Settings.{sofar, read_on, journal}
use Rattle.journal.proofs.settings.parse.Given as goal

abbrev pub invariant-loop-ended : goal.invariant-loop-ended
invariant-loop-ended l =
    (l.line + length (split_inclusive_rest l.ended-iterator) ≤ length l.text + 1)
    × (read_on (sofar l.draft) l.line (lines (split_inclusive_rest l.ended-iterator)) ≡ journal l.text)
