-- A write among the items in use.
use Rattle.std.proofs.Common.{ap, ◌∙◌, slice_set}
use Rattle.std.proofs.Math.Seq.{take-set-lt}
use Rattle.host.proofs.table.Table.set.Goals as goal

pub returns-then-index-self-clause-used : goal.returns-then-index-self-clause-used
returns-then-index-self-clause-used g c =
    let t = c.self.inside in
    take-set-lt t.filled t.items.items c.args.index c.args.item c.if-index-self.true
    ∙ ap (λ p. slice_set p.used c.args.index c.args.item) c.self.view_is
