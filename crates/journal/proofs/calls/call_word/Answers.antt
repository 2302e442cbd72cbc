-- A word of these bytes is the name.
use Rattle.std.proofs.Common.{rules, codes, sym, ap, arith}
use Rattle.std.proofs.lemmas.Slice.Eq.{text_from_reads}
use Rattle.journal.specs.Calls.{call_word}
use Rattle.journal.proofs.calls.call_word.Goals as goal

pub returns-in-finish : goal.returns-in-finish
returns-in-finish c = ap call_word (sym (text_from_reads c.args.word.now (codes "finish") (omega arith) (search rules)))

pub returns-in-resume : goal.returns-in-resume
returns-in-resume c = ap call_word (sym (text_from_reads c.args.word.now (codes "resume") (omega arith) (search rules)))

pub returns-in-memory : goal.returns-in-memory
returns-in-memory c = ap call_word (sym (text_from_reads c.args.word.now (codes "memory") (omega arith) (search rules)))

pub returns-in-listing : goal.returns-in-listing
returns-in-listing c = ap call_word (sym (text_from_reads c.args.word.now (codes "listing") (omega arith) (search rules)))
