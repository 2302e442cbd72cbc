-- A fresh host has no row anywhere.
use Rattle.host.proofs.Sorted.{sorted_fresh}
use Rattle.sheet.proofs.replay.Competition.new.Goals as goal

pub returns-clause-sorted : goal.returns-clause-sorted
returns-clause-sorted g c fresh =
    sorted_fresh g.X.Host.view g.X.Host.holds g.met.X.Host.sound g.met.X.Host.empty c.args.host fresh
