-- The ledger is that of the hosts, and has the fees.
use Rattle.std.proofs.Common.{◌≡◌, to_z, of_z, w64, rules, ap, ◌∙◌}
use Rattle.host.specs.Known.{known_by}
use Rattle.ledger.specs.Book.{ledger_view}
use Rattle.ledger.specs.Fees.{standing_sum}
use Rattle.ledger.specs.declared.book.Ledger.{Ledger}
use Rattle.club.proofs.Leaving.{ledger_has_fees}
use Rattle.club.proofs.hosts.balance.Goals as goal

pub returns : goal.returns
returns c o =
    let h = c.args.hosts.now in
    let same : c.inner.result.now ≡ h.first.inner = c.inner.ensures ∙ (λ i. (c.first.ensures i).inner) in
    let value : to_z w64 (of_z w64 c.balance.result) ≡ c.balance.result = search rules in
    value ∙ c.balance.ensures.stands ∙ ap (λ (l : Ledger). standing_sum (known_by (ledger_view l))) same ∙ ledger_has_fees h o
