-- A fault in words. Assumes nothing.
use Rattle.std.specs.Prelude.{ℕ, List, ◌++◌, codes, decimal}
use Rattle.values.specs.declared.Cause.{Cause}
use Rattle.values.specs.declared.Cause.TheVariants.{WrongLength, WrongForm, WrongValue, WrongStep, ShortMemory}
use Rattle.values.specs.declared.Cause.TheVariants.{FullSheet, WrongPhase, NoSuch, WrongCount, UnfitPredecessor}
use Rattle.values.specs.declared.Cause.TheVariants.{UsedExit, UnlawfulEntry, ShutHost, NoRoom, OtherState}
use Rattle.values.specs.declared.Cause.TheVariants.{OtherTicket, DueAfter, StillDue, NothingLive}
use Rattle.values.specs.declared.Fault.{Fault}
use Rattle.values.specs.Numbers.{cause_number, layer_number}

abbrev pub reason : Cause → List ℕ
reason WrongLength = codes "the stored process ends too early or has bytes left over"
reason WrongForm = codes "the form number is not 1 or a spare bit is set"
reason WrongValue = codes "a field is out of range or the arrows are out of order"
reason WrongStep = codes "a step has more than 8 arrows in or out or cannot be reached"
reason ShortMemory = codes "the memory lent to the call is too short"
reason FullSheet = codes "the sheet is full"
reason WrongPhase = codes "the sheet is in another phase"
reason NoSuch = codes "there is no such step or the row is in another state"
reason WrongCount = codes "the number of predecessors is wrong or rows are live already"
reason UnfitPredecessor = codes "a predecessor does not fit this step"
reason UsedExit = codes "the exit of a predecessor is used already"
reason UnlawfulEntry = codes "the entry has another kind or is out of range"
reason ShutHost = codes "the host is shut"
reason NoRoom = codes "the host has no room for this kind"
reason OtherState = codes "the row is in another state at the host"
reason OtherTicket = codes "the ticket is of another sheet or rollback"
reason DueAfter = codes "a row after this one is still due"
reason StillDue = codes "rows are still due"
reason NothingLive = codes "no row is live"

-- number, layer and place, and then the reason
abbrev pub line : ℕ → ℕ → ℕ → List ℕ → List ℕ
line number layer place why =
    decimal number ++ (codes " " ++ (decimal layer ++ (codes " " ++ (decimal place ++ (codes " - " ++ why)))))

abbrev pub spelled : Fault → List ℕ
spelled x = line (cause_number x.cause) (layer_number x.layer) x.place (reason x.cause)
