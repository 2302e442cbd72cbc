-- What becomes of a journal. Assumes nothing.
use Rattle.std.specs.Prelude.{ℕ, Bool, true, false, List, [], ◌++◌, length, string_bytes, codes}
use Rattle.values.specs.declared.Fault.{Fault}
use Rattle.model.specs.Chart.{Chart}
use Rattle.journal.specs.declared.Unreadable.{Unreadable}
use Rattle.playing.specs.declared.answers.Answer.TheVariants.{Process, Declined}
use Rattle.playing.specs.declared.outcomes.Outcome.{Outcome}
use Rattle.playing.specs.Summaries.{SummaryShown}
use Rattle.journal.specs.Wrongs.{report}
use Rattle.playing.specs.Spelled.{answer_line, summary_text}

-- the bytes on standard output and standard error, and whether the status is 0
pub record Shown : Type 0 where
  pub printed : List ℕ
  pub reported : List ℕ
  pub accepted : Bool

abbrev pub shown : Outcome → Shown
shown x = record { printed = string_bytes x.printed; reported = string_bytes x.reported; accepted = x.accepted }

-- a line that cannot be read is reported, and nothing is printed
abbrev pub unread : Unreadable → Shown
unread u = record { printed = []; reported = report u ++ codes "\n"; accepted = false }

-- of a declined process only its line is printed
abbrev pub declined : ℕ → Fault → Shown
declined line fault = record { printed = answer_line line (codes "process") (Declined fault); reported = []; accepted = false }

-- the counts of steps and arrows of a process that was accepted
abbrev pub process_line : ℕ → Chart → List ℕ
process_line line c = answer_line line (codes "process") (Process (length c.0) (length c.1))

-- of a journal that was replayed the lines of its process and of its calls, and then the summary
abbrev pub replayed : List ℕ → SummaryShown → Shown
replayed lines s = record { printed = lines ++ summary_text s; reported = []; accepted = true }
