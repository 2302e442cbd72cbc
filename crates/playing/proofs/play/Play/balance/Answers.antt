-- The hosts are in order, and their balance is wanted.
use Rattle.std.proofs.Common.{◌≡◌, Some, to_z, of_z, w64, rules, sym, ap, subst, ◌∙◌}
use Rattle.club.specs.Hosts.{Hosts, hosts_view, InOrder, fees_standing}
use Rattle.playing.proofs.play.Play.balance.Goals as goal

pub returns-then-treasurer : goal.returns-then-treasurer
returns-then-treasurer c =
    let value : to_z w64 (of_z w64 c.balance.result) ≡ c.balance.result = search rules in
    let order = subst InOrder (sym c.host.ensures) c.args.self.now.order in
    rw c.if-treasurer.true
    (ap Some (value ∙ c.balance.ensures order ∙ ap (λ (h : Hosts). fees_standing (hosts_view h)) c.host.ensures))
