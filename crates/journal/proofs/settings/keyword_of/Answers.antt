-- A word of these bytes is the name.
use Rattle.std.proofs.Common.{rules, codes, sym, ap, arith}
use Rattle.std.proofs.lemmas.Slice.Eq.{text_from_reads}
use Rattle.journal.specs.Settings.{keyword}
use Rattle.journal.proofs.settings.keyword_of.Goals as goal

pub returns-in-serial : goal.returns-in-serial
returns-in-serial c = ap keyword (sym (text_from_reads c.args.word.now (codes "serial") (omega arith) (search rules)))

pub returns-in-scores : goal.returns-in-scores
returns-in-scores c = ap keyword (sym (text_from_reads c.args.word.now (codes "scores") (omega arith) (search rules)))

pub returns-in-ledger : goal.returns-in-ledger
returns-in-ledger c = ap keyword (sym (text_from_reads c.args.word.now (codes "ledger") (omega arith) (search rules)))

pub returns-in-process : goal.returns-in-process
returns-in-process c = ap keyword (sym (text_from_reads c.args.word.now (codes "process") (omega arith) (search rules)))
