-- New hosts know no row, and so each of their rows is where it belongs.
use Rattle.std.proofs.Common.{ap, ◌∙◌}
use Rattle.values.specs.declared.Kind.TheVariants.{Fee}
use Rattle.host.specs.View.{View}
use Rattle.host.specs.Views.{joined}
use Rattle.club.proofs.Leaving.{fresh_in_order}
use Rattle.club.proofs.hosts.new_hosts.Goals as goal

pub returns-clause-fresh : goal.returns-clause-fresh
returns-clause-fresh c =
    let shows = c.new-3.ensures.shows ∙ (λ i. joined Fee (c.new.ensures.shows i) (c.new-2.ensures.shows i))
    ∙ (λ i. joined Fee (c.new-ledger.ensures.shows i) (c.new-scores.ensures.shows i)) in
    λ row. ap (λ (v : View). v.state row) shows

pub returns-clause-order : goal.returns-clause-order
returns-clause-order c = fresh_in_order c.new-3.result c.new-3.ensures.kind (returns-clause-fresh c)
