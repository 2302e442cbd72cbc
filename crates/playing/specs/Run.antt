-- What becomes of the text of a journal. Assumes nothing.
use Rattle.std.specs.Prelude.{◌≡◌, ℕ, ◌+◌, Bool, true, false, List, length, Some, None, Ok, Err, Option, Result, ℤ, MatchResult}
use Rattle.values.specs.declared.Fault.{Fault}
use Rattle.process.specs.declared.accepted.Process.{Process}
use Rattle.process.specs.Accepted.{Reading, tables_of}
use Rattle.process.specs.Reading.{start}
use Rattle.model.specs.Chart.{Chart}
use Rattle.model.specs.Summaries.{summary_of}
use Rattle.journal.specs.declared.Unreadable.{Unreadable}
use Rattle.playing.specs.declared.outcomes.Outcome.{Outcome}
use Rattle.playing.specs.Names.{names_handed}
use Rattle.club.specs.Hosts.{fees_standing}
use Rattle.playing.specs.Outcomes.{Shown, shown, unread, declined, process_line, replayed}
use Rattle.playing.specs.Played.{Played, play, unplayed}
use Rattle.playing.specs.Summaries.{joined}
use Rattle.journal.specs.Settings.{Contents}

-- what a journal of an accepted process comes to: its calls are played from a blank sheet at new hosts
abbrev pub played_out : Contents → Chart → Played
played_out j c = play c (unplayed j.serial j.scores j.ledger (process_line j.process_line c)) j.calls

-- the balance that is told in the end, where it is wanted: the sum of the fees that stand in the last world
abbrev pub balance_told : Bool → Played → Option ℤ
balance_told false p = None
balance_told true p = Some (fees_standing p.world.host)

-- what is told in the end of a journal that was played: the lines of its process and of its calls, and then the summary
abbrev pub concluded : Bool → Chart → Played → List (List ℕ) → Shown
concluded treasurer c p names =
    replayed p.printed (joined p.calls (summary_of c p.world.sheet) names (balance_told treasurer p))

abbrev pub AcceptedTold : Bool → Contents → Outcome → Process → Type 0
AcceptedTold treasurer j x q =
    let c = tables_of q in
    shown x ≡ concluded treasurer c (played_out j c) (names_handed (length c.0 + 1) j.process start)

-- the process that the journal stores on a line gets the one answer for its bytes, and that is told
pub record ProcessTold (treasurer : Bool) (j : Contents) (x : Outcome) : Type 0 where
  pub answer : Result Process Fault
  pub reading : Reading j.process answer
  pub told : MatchResult answer (AcceptedTold treasurer j x) (λ f. shown x ≡ declined j.process_line f)

-- a line that cannot be read is told, and nothing else; else what became of the process and the calls
abbrev pub Ran : Bool → Result Contents Unreadable → Outcome → Type 0
Ran treasurer (Err u) x = shown x ≡ unread u
Ran treasurer (Ok j) x = ProcessTold treasurer j x
