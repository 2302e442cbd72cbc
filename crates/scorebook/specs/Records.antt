-- A score book's records, the oldest first. Assumes nothing.
use Rattle.std.specs.Prelude.{ℕ, Bool, true, false, cond, not, ◌&&◌, List, [], ◌∷◌, is_some, Some, None, Option}
use Rattle.std.specs.List.{find, list_all, position}
use Rattle.values.specs.Numbers.{same_kind}
use Rattle.values.specs.declared.Entry.{Entry}
use Rattle.values.specs.declared.Kind.TheVariants.{Score}
use Rattle.values.specs.declared.HostState.{HostState}
use Rattle.values.specs.declared.HostState.TheVariants.{Unknown, Open}
use Rattle.host.specs.Keys.{RowKey, same_row, is_row}
use Rattle.host.specs.View.{View, is_unknown}
use Rattle.scorebook.specs.declared.records.Record.{Record}

-- the record of a row
abbrev pub find_in : List Record → RowKey → Option Record
find_in rs row = find (λ r. same_row r.row row) rs

-- where it stands
abbrev pub place_in : List Record → RowKey → Option ℕ
place_in rs row = position (λ r. same_row r.row row) rs

abbrev pub with_state : HostState → Record → Record
with_state to r = record { row = r.row; entry = r.entry; state = to }

-- the records, with the one of a row in another state
abbrev pub turned : List Record → RowKey → HostState → List Record
turned [] row to = []
turned (r ∷ rs) row to = cond (same_row r.row row) (with_state to r ∷ rs) (r ∷ turned rs row to)

-- a record with its state left out: what of it never changes
abbrev pub without_state : Record → Record
without_state r = with_state Open r

-- the record of a row that begins
abbrev pub opened : RowKey → Entry → Record
opened row e = record { row = row; entry = e; state = Open }

abbrev pub state_in : Option Record → HostState
state_in None = Unknown
state_in (Some r) = r.state

abbrev pub entry_in : Option Record → Option Entry
entry_in None = None
entry_in (Some r) = Some r.entry

-- each record is of a row, no two are of one row, and none is of an unknown row
abbrev pub well : List Record → Bool
well [] = true
well (r ∷ rs) = is_row r.row && (not (is_unknown r.state) && (not (is_some (find_in rs r.row)) && well rs))

-- each record is of a score
abbrev pub is_score : Entry → Bool
is_score e = same_kind e.kind Score

abbrev pub scores : List Record → Bool
scores rs = list_all (λ r. is_score r.entry) rs

-- what a book with these records shows, where it has room for so many more
abbrev pub booked : ℕ → List Record → View
booked free rs = record {
  shut = false;
  room = λ k. cond (same_kind k Score) free 0;
  state = λ row. state_in (find_in rs row);
  entry = λ row. entry_in (find_in rs row);
}
