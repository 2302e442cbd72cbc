-- The number of each case. Assumes nothing.
use Rattle.std.specs.Prelude.{ℕ, Bool, true, ◌&&◌, ℤ, pos, negsuc, Some, None, Option, ◌==◌, int_le}
use Rattle.values.specs.declared.Kind.{Kind}
use Rattle.values.specs.declared.Kind.TheVariants.{Score, Fee}
use Rattle.values.specs.declared.Flow.{Flow}
use Rattle.values.specs.declared.Flow.TheVariants.{One, All}
use Rattle.values.specs.declared.RowState.{RowState}
use Rattle.values.specs.declared.RowState.TheVariants.{Absent, Running, Committed, Dropped, Due, Undone, PassedOver}
use Rattle.values.specs.declared.HostState.{HostState}
use Rattle.values.specs.declared.HostState.TheVariants.{Unknown, Open, Standing, Void, Reversed}
use Rattle.values.specs.declared.Phase.{Phase}
use Rattle.values.specs.declared.Phase.TheVariants.{Forward, Undoing, Parked}
use Rattle.values.specs.declared.Cause.{Cause}
use Rattle.values.specs.declared.Cause.TheVariants.{WrongLength, WrongForm, WrongValue, WrongStep, ShortMemory}
use Rattle.values.specs.declared.Cause.TheVariants.{FullSheet, WrongPhase, NoSuch, WrongCount, UnfitPredecessor}
use Rattle.values.specs.declared.Cause.TheVariants.{UsedExit, UnlawfulEntry, ShutHost, NoRoom, OtherState}
use Rattle.values.specs.declared.Cause.TheVariants.{OtherTicket, DueAfter, StillDue, NothingLive}
use Rattle.values.specs.declared.Layer.{Layer}
use Rattle.values.specs.declared.Layer.TheVariants.{Reader, Sheet, Host}

abbrev pub kind_number : Kind → ℕ
kind_number Score = 0
kind_number Fee = 1

abbrev pub same_kind : Kind → Kind → Bool
same_kind a b = kind_number a == kind_number b

abbrev pub flow_number : Flow → ℕ
flow_number One = 0
flow_number All = 1

abbrev pub row_state_number : RowState → ℕ
row_state_number Absent = 0
row_state_number Running = 1
row_state_number Committed = 2
row_state_number Dropped = 3
row_state_number Due = 4
row_state_number Undone = 5
row_state_number PassedOver = 6

abbrev pub same_state : RowState → RowState → Bool
same_state a b = row_state_number a == row_state_number b

abbrev pub host_state_number : HostState → ℕ
host_state_number Unknown = 0
host_state_number Open = 1
host_state_number Standing = 2
host_state_number Void = 3
host_state_number Reversed = 4

abbrev pub same_host_state : HostState → HostState → Bool
same_host_state a b = host_state_number a == host_state_number b

abbrev pub phase_number : Phase → ℕ
phase_number Forward = 0
phase_number Undoing = 1
phase_number Parked = 2

abbrev pub same_phase : Phase → Phase → Bool
same_phase a b = phase_number a == phase_number b

abbrev pub layer_number : Layer → ℕ
layer_number Reader = 1
layer_number Sheet = 2
layer_number Host = 3

abbrev pub cause_number : Cause → ℕ
cause_number WrongLength = 1
cause_number WrongForm = 2
cause_number WrongValue = 3
cause_number WrongStep = 4
cause_number ShortMemory = 5
cause_number FullSheet = 6
cause_number WrongPhase = 7
cause_number NoSuch = 8
cause_number WrongCount = 9
cause_number UnfitPredecessor = 10
cause_number UsedExit = 11
cause_number UnlawfulEntry = 12
cause_number ShutHost = 13
cause_number NoRoom = 14
cause_number OtherState = 15
cause_number OtherTicket = 16
cause_number DueAfter = 17
cause_number StillDue = 18
cause_number NothingLive = 19

-- the numbers that an entry of a kind may have: tenths of a score, pence of a fee
abbrev pub allowed : Kind → ℤ → Bool
allowed Score n = int_le (negsuc 199) n && int_le n (pos 999)
allowed Fee n = int_le (negsuc 99999) n && int_le n (pos 100000)

-- an empty entry is always in range
abbrev pub in_range : Kind → Option ℤ → Bool
in_range k None = true
in_range k (Some n) = allowed k n
