-- The host has come here by the calls so far.
use Rattle.std.proofs.Common.{take}
use Rattle.host.specs.Made.{Made}
use Rattle.host.proofs.Along.{Come}
use Rattle.host.proofs.calls.make_all.Given as goal

abbrev pub invariant-loop-call : goal.invariant-loop-call
invariant-loop-call g l =
    let view = g.X.Host.view in
    Come (view l.initial.host) l.calls l.call-index (view l.host) l.count × g.X.Host.goes l.initial.host l.host
    × Made view g.X.Host.makes l.initial.host (take l.call-index l.calls) l.host
