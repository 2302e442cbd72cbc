-- A row in the state that the move wants is turned.
use Rattle.std.proofs.Common.{◌-◌, length, drop, map, sym, ap, subst, ◌∙◌}
use Rattle.host.specs.Laws.{prefix_stays, rest_stays}
use Rattle.host.specs.Table.{IsPrefix}
use Rattle.host.proofs.Checks.{passes}
use Rattle.scorebook.specs.Book.{records_of, rest_of}
use Rattle.scorebook.specs.Records.{without_state}
use Rattle.scorebook.proofs.Growing.{turned_same, turned_length}
use Rattle.scorebook.proofs.Shows.{turn_moves}
use Rattle.scorebook.proofs.book.ScoreBook.turn.Goals as goal

pub returns-clause-does : goal.returns-clause-does
returns-clause-does c =
    let b = c.args.self.now in
    let none = passes _ _ c.may_move.ensures c.in_ok-may_move.was in
    turn_moves c.args.from c.args.to _ _ (records_of b) _ c.args.row c.requires.was_known b.sound none c.restate.ensures.free c.restate.ensures.records

pub returns-clause-goes : goal.returns-clause-goes
returns-clause-goes c =
    let b = c.args.self.now in
    let xs = records_of b in
    let turns = c.restate.ensures.records in
    let same = ap (map without_state) turns ∙ turned_same xs c.args.row c.args.to in
    let size = ap length turns ∙ turned_length xs c.args.row c.args.to in
    record {
      records = subst (IsPrefix (map without_state xs)) (sym same) (prefix_stays (map without_state xs));
      rest = c.restate.ensures.rest ∙ rest_stays (length xs) (rest_of b) ∙ ap (λ n. drop (n - length xs) (rest_of b)) (sym size);
    }
