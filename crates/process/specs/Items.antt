-- What the reader gives, by the records that it stands for. Assumes nothing.
use Rattle.std.specs.Prelude.{◌≡◌, ℕ, List, Some, None, Ok, Err, Option, Result}
use Rattle.values.specs.declared.Fault.{Fault}
use Rattle.process.specs.declared.cursor.Cursor.{Cursor}
use Rattle.process.specs.Reading.{Expected}
use Rattle.process.specs.declared.parts.Item.{Item}
use Rattle.process.specs.declared.parts.Item.TheVariants.{Header, Step, Arrow}
use Rattle.process.specs.declared.reader.Reader.{Reader}
use Rattle.process.specs.Reading.{Record, header, step, arrow, Got, next_of}

-- the record that an item is
abbrev pub record_of : Item → Record
record_of (Header n m) = header n m
record_of (Step s name place) = step (record { step = s; name = name.now }) place
record_of (Arrow a) = arrow a

abbrev pub told : Result (Option Item) Fault → Result (Option Record) Fault
told (Ok None) = Ok None
told (Ok (Some i)) = Ok (Some (record_of i))
told (Err f) = Err f

abbrev pub said_by : Result Got Fault → Result (Option Record) Fault
said_by (Ok g) = Ok g.said
said_by (Err f) = Err f

-- the bytes that are left, and where the reader stands
abbrev pub stand : Reader → List ℕ × Cursor
stand r = (r.rest.now, r.cursor)

-- where it stands after: a fault leaves it as it was
abbrev pub stand_after : Result Got Fault → List ℕ × Cursor → List ℕ × Cursor
stand_after (Ok g) s = (g.rest, g.cursor)
stand_after (Err f) s = s

-- one record handed out: what the reader answers, and where it stands then
pub record Handed (e : Expected) (before : Reader) (r : Result (Option Item) Fault) (later : Reader) : Type 0 where
  pub answer : told r ≡ said_by (next_of e before.rest.now before.cursor)
  pub after : stand later ≡ stand_after (next_of e before.rest.now before.cursor) (stand before)
