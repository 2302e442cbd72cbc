-- A row whose last line has the wanted mark gets one line more.
use Rattle.std.proofs.Common.{◌≡◌, ◌-◌, Some, sym, ap, ◌∙◌, arith}
use Rattle.ledger.specs.Book.{lines_of, free_of}
use Rattle.ledger.specs.Lines.{last_of}
use Rattle.ledger.proofs.Fees.{fee_last}
use Rattle.ledger.proofs.Added.{none_begun}
use Rattle.ledger.proofs.Written.{turn_moves}
use Rattle.ledger.proofs.book.Ledger.turn.Goals as goal

pub returns-in-Some-clause-does : goal.returns-in-Some-clause-does
returns-in-Some-clause-does c =
    let b = c.args.self.now in
    let p = c.in-Some.line in
    let was : last_of (lines_of b) c.args.row ≡ Some p = sym c.in-Some.ensures in
    let same : p.mark ≡ c.args.from = grind (arith, c.if-eq.ensures) in
    let none = none_begun c.args.from c.args.to c.requires in
    let free : free_of c.add.new.self ≡ free_of b = c.add.ensures.free ∙ ap (λ n. free_of b - n) none ∙ omega arith in
    turn_moves c.args.from c.args.to b c.add.new.self c.args.row p was b.rows same c.add.ensures.lines free

pub add-requires-clause-fee : goal.add-requires-clause-fee
add-requires-clause-fee c =
    let b = c.args.self.now in fee_last (lines_of b) c.args.row c.in-Some.line b.fees (sym c.in-Some.ensures)
