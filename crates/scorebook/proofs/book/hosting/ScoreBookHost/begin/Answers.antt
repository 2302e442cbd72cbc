-- An unknown row for which there is room gets the next record.
use Rattle.host.proofs.Checks.{passes}
use Rattle.scorebook.specs.Book.{records_of, free_of}
use Rattle.scorebook.proofs.Shows.{push_begins, begun_unused}
use Rattle.scorebook.proofs.book.hosting.ScoreBookHost.begin.Goals as goal

pub add-requires-clause-unused : goal.add-requires-clause-unused
add-requires-clause-unused c =
    let b = c.args.self.now in
    begun_unused (free_of b) (records_of b) c.args.row c.args.entry b.sound (passes _ _ c.may_begin.ensures c.in_ok-may_begin.was)

pub returns-clause-does : goal.returns-clause-does
returns-clause-does c =
    let b = c.args.self.now in
    push_begins _ _ (records_of b) _ c.args.row c.args.entry b.sound (passes _ _ c.may_begin.ensures c.in_ok-may_begin.was)
    c.add.ensures.free c.add.ensures.records
