use Rattle.std.proofs.Common.{length, vec_len}
use Rattle.process.specs.Drafts.{bare}
use Rattle.process.proofs.Rooms.{Partly}
use Rattle.process.proofs.tables.fill.filled.Given as goal

abbrev pub invariant-loop-draft : goal.invariant-loop-draft
invariant-loop-draft l =
    Partly l.input l.reader.rest.now l.reader.cursor (bare l.draft)
    (vec_len l.draft.steps) (vec_len l.draft.arrows)

abbrev pub decreases-loop-draft : goal.decreases-loop-draft
decreases-loop-draft l = length l.reader.rest.now
