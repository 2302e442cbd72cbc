-- The lines of the steps so far are written.
use Rattle.std.proofs.Common.{map, take}
use Rattle.std.specs.Fmt.{HasWritten, IsPlainFormatter}
use Rattle.playing.specs.Spelled.{steps_text}
use Rattle.playing.specs.Summaries.{line_shown}
use Rattle.playing.proofs.summary.SummaryDisplay.fmt.Given as goal

abbrev pub invariant-loop-n : goal.invariant-loop-n
invariant-loop-n g l =
    IsPlainFormatter l.initial.f
    → HasWritten g.W.Write.write_str_gives l.initial.f (steps_text 1 (map line_shown (take l.n l.step-items))) l.f
