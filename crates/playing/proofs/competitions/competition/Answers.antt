-- A blank sheet, new hosts and memory that is zero.
use Rattle.std.proofs.Common.{sym, subst, ◌∙◌}
use Rattle.model.specs.Run.{world}
use Rattle.club.specs.Hosts.{switches_of, InOrder}
use Rattle.playing.proofs.competitions.competition.Goals as goal

pub returns-clause-world : goal.returns-clause-world
returns-clause-world c =
    c.new-3.ensures.world
    ∙ (λ i. world (c.in_ok-sheet.ensures.sheet i) (c.in_ok-hosts.ensures.shows i) (c.in_ok-memory.ensures.lent i))

pub returns-clause-on : goal.returns-clause-on
returns-clause-on c = (λ i. switches_of (c.new-3.ensures.host i)) ∙ c.in_ok-hosts.ensures.on

pub returns-clause-order : goal.returns-clause-order
returns-clause-order c = subst InOrder (sym c.new-3.ensures.host) c.in_ok-hosts.ensures.order
