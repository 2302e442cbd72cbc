-- How a rollback ends, and what a whole one leaves of the memory that it was lent. Assumes nothing.
use Rattle.std.specs.Prelude.{◌≡◌, ◌≢◌, ℕ, false, length, vec_items, Some, None, Ok, Err, Option, Result}
use Rattle.values.specs.declared.Fault.{Fault}
use Rattle.values.specs.declared.Phase.TheVariants.{Forward, Undoing, Parked}
use Rattle.values.specs.declared.RowState.TheVariants.{Due, Undone}
use Rattle.process.specs.Accepted.{enough}
use Rattle.model.specs.Run.{scratched}
use Rattle.model.specs.Sheet.{Sheet, ticket_of}
use Rattle.sheet.specs.Lent.{lent_of}
use Rattle.sheet.specs.declared.memory.Memory.{Memory}
use Rattle.sheet.specs.declared.ticket.Ticket.{Ticket}

-- a rollback of the sheet is under way, and the ticket is its
pub record Holds (t : Ticket) (s : Sheet) : Type 0 where
  pub number : t.number ≡ ticket_of s
  pub under_way : s.phase ≡ Undoing

-- A rollback that was under way on the sheet s is over: the sheet goes forward, each row that was due is undone, so that none is
-- due any more, and every other row is in the state that it was in
pub record IsOver (s s' : Sheet) : Type 0 where
  pub forward : s'.phase ≡ Forward
  pub undone : (k : ℕ) → s.rows.state k ≡ Due → s'.rows.state k ≡ Undone
  pub none_due : (k : ℕ) → s'.rows.state k ≢ Due
  pub others : (k : ℕ) → s.rows.state k ≢ Due → s'.rows.state k ≡ s.rows.state k

-- it is over, or parked where there is a fault
abbrev pub Through : Sheet → Result (Unit {0}) Fault → Sheet → Type 0
Through s (Ok u) s' = IsOver s s'
Through s (Err f) s' = s'.phase ≡ Parked

-- By the fault of the call that is to bring a rollback under way: where it is declined, that is the answer, and the sheet is as it
-- was; else the rollback, under way on the sheet `begun`, is carried through
abbrev pub RollbackEnds : Option Fault → Sheet → Sheet → Result (Unit {0}) Fault → Sheet → Type 0
RollbackEnds None s begun r s' = Through begun r s'
RollbackEnds (Some f) s begun r s' = (r ≡ Err f) × (s' ≡ s)

-- memory that undos were lent: the first bytes of the column are zero, where it is long enough; the numbers of the line are free, but
-- kept where the memory is too short; and all else is as it was
pub record Scratches (m m' : Memory) : Type 0 where
  pub lent : lent_of m' ≡ scratched (lent_of m)
  pub line : enough (length (vec_items m.column)) (length (vec_items m.line)) ≡ false → vec_items m'.line ≡ vec_items m.line
