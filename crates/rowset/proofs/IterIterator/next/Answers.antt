use Rattle.std.proofs.Common.{rules, sym, subst}
use Rattle.std.specs.Iterator.{YieldsFirst}
use Rattle.rowset.specs.Iteration.{rest}
use Rattle.rowset.proofs.Iteration.{none_left, first_left}
use Rattle.rowset.proofs.IterIterator.next.Goals as goal

pub returns-in_err-next-clause-steps : goal.returns-in_err-next-clause-steps
returns-in_err-next-clause-steps c =
    let it = c.args.self.now in
    let none = none_left it.set.now c.in_err-next.ensures in
    subst (λ r. YieldsFirst rest it r it) (sym c.from_residual.ensures) (none, none)

pub returns-clause-steps : goal.returns-clause-steps
returns-clause-steps c = first_left c.args.self.now.set.now c.in_ok-next.ensures

pub returns-clause-goes : goal.returns-clause-goes
returns-clause-goes c = let first = first_left c.args.self.now.set.now c.in_ok-next.ensures in search rules
