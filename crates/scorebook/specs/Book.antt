-- A score book: its records in use, the rest of its table, what it shows, and what its calls do. Assumes nothing.
use Rattle.std.specs.Prelude.{◌≡◌, ℕ, ◌-◌, min, List, [], ◌∷◌, ◌++◌, length, drop, map, Ok, Err, Result}
use Rattle.values.specs.declared.Entry.{Entry}
use Rattle.values.specs.declared.Fault.{Fault}
use Rattle.values.specs.declared.HostState.{HostState}
use Rattle.values.specs.declared.HostState.TheVariants.{Standing, Void, Reversed}
use Rattle.host.specs.Keys.{RowKey, rows_most}
use Rattle.host.specs.Table.{capacity_of, IsPrefix, RestFrom}
use Rattle.host.specs.View.{View}
use Rattle.host.specs.declared.calls.Call.{Call}
use Rattle.host.specs.declared.calls.Call.TheVariants.{Begin, Commit, Drop, Undo}
use Rattle.scorebook.specs.declared.records.Record.{Record}
use Rattle.scorebook.specs.declared.book.ScoreBook.{ScoreBook}
use Rattle.scorebook.specs.Records.{booked, turned, opened, without_state}

-- the records in use, the oldest first
abbrev pub records_of : ScoreBook → List Record
records_of b = b.table.used

-- the rest of the table
abbrev pub rest_of : ScoreBook → List Record
rest_of b = b.table.rest

-- how many of the table's first 256 records are not in use
abbrev pub free_of : ScoreBook → ℕ
free_of b = min rows_most (capacity_of b.table) - length b.table.used

abbrev pub book_view : ScoreBook → View
book_view b = booked (free_of b) (records_of b)

-- one record in another state, and nothing else
pub record Turned (to : HostState) (before later : ScoreBook) (row : RowKey) : Type 0 where
  pub records : records_of later ≡ turned (records_of before) row to
  pub rest : rest_of later ≡ rest_of before

-- the new record after the old ones, in place of the first unused one
pub record Added (before later : ScoreBook) (row : RowKey) (e : Entry) : Type 0 where
  pub records : records_of later ≡ records_of before ++ opened row e ∷ []
  pub rest : rest_of later ≡ drop 1 (rest_of before)

-- what a call makes of a book; a declined one changes nothing
abbrev pub BookMakes : ScoreBook → Call → Result (Unit {0}) Fault → ScoreBook → Type 0
BookMakes b c (Err f) later = later ≡ b
BookMakes b (Begin row e) (Ok u) later = Added b later row e
BookMakes b (Commit row) (Ok u) later = Turned Standing b later row
BookMakes b (Drop row) (Ok u) later = Turned Void b later row
BookMakes b (Undo row) (Ok u) later = Turned Reversed b later row

-- what calls can make of a book: each record stays at its place, in what state ever, and others come after them, in place of the first
-- unused ones
pub record BookGoes (before later : ScoreBook) : Type 0 where
  pub records : IsPrefix (map without_state (records_of before)) (map without_state (records_of later))
  pub rest : RestFrom (length (records_of before)) (length (records_of later)) (rest_of before) (rest_of later)
