-- A ledger: its lines, the rest of its table, what it shows, and what its calls write. Assumes nothing.
use Rattle.std.specs.Prelude.{◌≡◌, ℕ, ◌-◌, ◌/◌, min, List, [], ◌∷◌, ◌++◌, length, drop, Ok, Err, Result}
use Rattle.values.specs.declared.Fault.{Fault}
use Rattle.host.specs.Keys.{RowKey}
use Rattle.host.specs.Table.{capacity_of, IsPrefix, RestFrom}
use Rattle.host.specs.View.{View}
use Rattle.host.specs.declared.calls.Call.{Call}
use Rattle.host.specs.declared.calls.Call.TheVariants.{Begin, Commit, Drop, Undo}
use Rattle.ledger.specs.declared.lines.Mark.{Mark}
use Rattle.ledger.specs.declared.lines.Mark.TheVariants.{Post, Contra, Release}
use Rattle.ledger.specs.declared.lines.Line.{Line}
use Rattle.ledger.specs.declared.book.Ledger.{Ledger}
use Rattle.ledger.specs.Lines.{kept_by, begun_in, lines_most, last_of, next_line, hold_line}

-- the lines written so far
abbrev pub lines_of : Ledger → List Line
lines_of b = b.table.used

-- the rest of the table
abbrev pub rest_of : Ledger → List Line
rest_of b = b.table.rest

-- how many rows can begin in a table of so many lines: each has three set aside, of 768 at most
abbrev pub rows_in : ℕ → ℕ
rows_in len = min lines_most len / 3

-- how many more rows the ledger takes
abbrev pub free_of : Ledger → ℕ
free_of b = rows_in (capacity_of b.table) - begun_in (lines_of b)

abbrev pub ledger_view : Ledger → View
ledger_view b = kept_by (free_of b) (lines_of b)

-- new lines after the old ones, in place of as many unused ones
pub record Written (new : List Line) (before later : Ledger) : Type 0 where
  pub lines : lines_of later ≡ lines_of before ++ new
  pub rest : rest_of later ≡ drop (length new) (rest_of before)

-- another mark for a row, with the row's entry
abbrev pub Turned : Mark → Ledger → Ledger → RowKey → Type 0
Turned to before later row = Written (next_line to row (last_of (lines_of before) row)) before later

-- what a call makes of a ledger; a declined one changes nothing
abbrev pub LedgerMakes : Ledger → Call → Result (Unit {0}) Fault → Ledger → Type 0
LedgerMakes b c (Err f) later = later ≡ b
LedgerMakes b (Begin row e) (Ok u) later = Written (hold_line row e ∷ []) b later
LedgerMakes b (Commit row) (Ok u) later = Turned Post b later row
LedgerMakes b (Drop row) (Ok u) later = Turned Release b later row
LedgerMakes b (Undo row) (Ok u) later = Turned Contra b later row

-- what calls can make of a ledger: it begins with the lines that it had, and new ones stand in place of the first unused ones
pub record LedgerGoes (before later : Ledger) : Type 0 where
  pub lines : IsPrefix (lines_of before) (lines_of later)
  pub rest : RestFrom (length (lines_of before)) (length (lines_of later)) (rest_of before) (rest_of later)
