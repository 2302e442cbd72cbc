-- A call on the host that it is for is that call on the pair.
use Rattle.std.proofs.Common.{sym}
use Rattle.host.proofs.Joined.{makes_first, makes_second}
use Rattle.host.proofs.Passing.{shut_makes, makes_at_first, makes_at_second, goes_at_first, goes_at_second}
use Rattle.host.proofs.pair.Pair.pass.Goals as goal

pub returns-then-is_for_first-clause-does : goal.returns-then-is_for_first-clause-does
returns-then-is_for_first-clause-does g c =
    let pair = c.args.self.now in
    makes_first pair.kind (g.X.Host.view pair.first) (g.Y.Host.view pair.second) (sym c.if-is_shut.ensures) c.args.call c.make.result _
    (sym c.if-is_for_first.ensures) c.make.ensures.does

pub returns-else-is_for_first-clause-does : goal.returns-else-is_for_first-clause-does
returns-else-is_for_first-clause-does g c =
    let pair = c.args.self.now in
    makes_second pair.kind (g.X.Host.view pair.first) (g.Y.Host.view pair.second) (sym c.if-is_shut.ensures) c.args.call
    c.make-else-is_for_first.result _ (sym c.if-is_for_first.ensures) c.make-else-is_for_first.ensures.does

pub returns-then-is_shut-clause-made : goal.returns-then-is_shut-clause-made
returns-then-is_shut-clause-made g c =
    shut_makes g.X.Host.view g.X.Host.makes g.Y.Host.view g.Y.Host.makes c.args.self.now c.args.call c.declined.result (sym c.if-is_shut.ensures)

pub returns-then-is_for_first-clause-made : goal.returns-then-is_for_first-clause-made
returns-then-is_for_first-clause-made g c =
    makes_at_first g.X.Host.view g.X.Host.makes g.Y.Host.view g.Y.Host.makes c.args.self.now c.args.call c.make.result (sym c.if-is_shut.ensures)
    c.make.new.host (sym c.if-is_for_first.ensures) (record { shows = c.make.ensures.does; made = c.make.ensures.made })

pub returns-else-is_for_first-clause-made : goal.returns-else-is_for_first-clause-made
returns-else-is_for_first-clause-made g c =
    makes_at_second g.X.Host.view g.X.Host.makes g.Y.Host.view g.Y.Host.makes c.args.self.now c.args.call c.make-else-is_for_first.result
    (sym c.if-is_shut.ensures) c.make-else-is_for_first.new.host (sym c.if-is_for_first.ensures)
    (record { shows = c.make-else-is_for_first.ensures.does; made = c.make-else-is_for_first.ensures.made })

pub returns-then-is_for_first-clause-goes : goal.returns-then-is_for_first-clause-goes
returns-then-is_for_first-clause-goes g c =
    goes_at_first g.X.Host.view g.X.Host.holds g.X.Host.goes g.Y.Host.view g.Y.Host.holds g.Y.Host.goes
    g.met.X.Host.sound g.met.X.Host.whole g.met.Y.Host.sound g.met.Y.Host.whole c.args.self.now c.args.call c.make.result
    c.make.new.host (sym c.if-is_for_first.ensures) c.make.ensures.does g.met.X.Host.stays_sorted g.met.Y.Host.stays c.make.ensures.goes

pub returns-else-is_for_first-clause-goes : goal.returns-else-is_for_first-clause-goes
returns-else-is_for_first-clause-goes g c =
    goes_at_second g.X.Host.view g.X.Host.holds g.X.Host.goes g.Y.Host.view g.Y.Host.holds g.Y.Host.goes
    g.met.X.Host.sound g.met.X.Host.whole g.met.Y.Host.sound g.met.Y.Host.whole c.args.self.now c.args.call c.make-else-is_for_first.result
    c.make-else-is_for_first.new.host (sym c.if-is_for_first.ensures) c.make-else-is_for_first.ensures.does
    g.met.Y.Host.stays_sorted g.met.X.Host.stays c.make-else-is_for_first.ensures.goes
