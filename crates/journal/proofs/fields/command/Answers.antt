-- A word of these bytes is the name.
use Rattle.std.proofs.Common.{Ok, rules, codes, sym, ap, ◌∙◌, arith}
use Rattle.std.proofs.lemmas.Slice.Eq.{text_from_reads}
use Rattle.journal.specs.Calls.{turned}
use Rattle.journal.proofs.fields.command.Goals as goal

pub returns-in-ledger : goal.returns-in-ledger
returns-in-ledger c =
    ap Ok c.command_for.ensures
    ∙ ap (turned c.args.turn) (sym (text_from_reads c.args.host.now (codes "ledger") (omega arith) (search rules)))

pub returns-in-scores : goal.returns-in-scores
returns-in-scores c =
    ap Ok c.command_for-in-scores.ensures
    ∙ ap (turned c.args.turn) (sym (text_from_reads c.args.host.now (codes "scores") (omega arith) (search rules)))
