-- The names so far, and those of the records that are left, are all names.
use Rattle.std.proofs.Common.{◌≡◌, ◌-◌, ◌++◌}
use Rattle.process.specs.Items.{stand}
use Rattle.process.specs.Reading.{start}
use Rattle.playing.specs.Names.{texts, names_handed}
use Rattle.playing.proofs.names.step_names.Given as goal

abbrev pub invariant-loop-i : goal.invariant-loop-i
invariant-loop-i l =
    texts l.names ++ names_handed (l.records - l._i) (stand l.reader).0 (stand l.reader).1
    ≡ names_handed l.records l.stored start
