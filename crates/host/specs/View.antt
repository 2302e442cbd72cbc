-- What a host shows, and what each call does to it. Assumes nothing.
use Rattle.std.specs.Prelude.{◌≡◌, ℕ, ◌-◌, Bool, false, cond, not, ◌&&◌, List, [], ◌∷◌, is_some, Some, None, Option, Result, ◌==◌}
use Rattle.values.specs.Checks.{bad, first_fault, answer, after}
use Rattle.values.specs.Numbers.{same_kind, same_host_state}
use Rattle.values.specs.declared.Entry.{Entry}
use Rattle.values.specs.declared.Kind.{Kind}
use Rattle.values.specs.declared.HostState.{HostState}
use Rattle.values.specs.declared.HostState.TheVariants.{Unknown, Open}
use Rattle.values.specs.declared.Cause.TheVariants.{ShutHost, NoRoom, OtherState}
use Rattle.values.specs.declared.Layer.TheVariants.{Host}
use Rattle.values.specs.declared.Fault.{Fault}
use Rattle.host.specs.Keys.{RowKey, is_row, same_row, place_of}

-- All that callers can learn of a host. `room` counts, by kind, the rows that can still begin; `entry` gives none for an
-- unknown row
pub record View : Type 0 where
  pub shut : Bool
  pub room : Kind → ℕ
  pub state : RowKey → HostState
  pub entry : RowKey → Option Entry

abbrev pub is_unknown : HostState → Bool
is_unknown s = same_host_state s Unknown

-- a key that is no row's is always unknown; a row has an entry exactly if it is known
pub record Sound (v : View) : Type 0 where
  pub outside : (row : RowKey) → is_row row ≡ false → v.state row ≡ Unknown
  pub entries : (row : RowKey) → is_some (v.entry row) ≡ not (is_unknown (v.state row))

-- a fresh host: all rows are unknown to it; whether it is shut, and its room, do not matter
abbrev pub Fresh : View → Type 0
Fresh v = (row : RowKey) → v.state row ≡ Unknown

-- f, but x at one row
abbrev pub put : {X : Type 0} → (RowKey → X) → RowKey → X → RowKey → X
put f row x n = cond (same_row n row) x (f n)

-- one row in another state
abbrev pub moved : HostState → View → RowKey → View
moved to v row = record { shut = v.shut; room = v.room; state = put v.state row to; entry = v.entry }

-- a row begun: it is open and has this entry, and the room for the entry's kind is one smaller
abbrev pub begun : View → RowKey → Entry → View
begun v row e = record {
  shut = v.shut;
  room = λ k. cond (same_kind k e.kind) (v.room k - 1) (v.room k);
  state = put v.state row Open;
  entry = put v.entry row (Some e);
}

-- the checks of a call that turns a row from a state (commit, drop, undo), first to last
abbrev pub move_checks : HostState → View → RowKey → List (Option Fault)
move_checks from v row =
    bad v.shut ShutHost Host (place_of row)
    ∷ bad (not (is_row row && same_host_state (v.state row) from)) OtherState Host (place_of row)
    ∷ []

-- the checks of begin, first to last
abbrev pub begin_checks : View → RowKey → Kind → List (Option Fault)
begin_checks v row k =
    bad v.shut ShutHost Host (place_of row)
    ∷ bad (not (is_row row && is_unknown (v.state row))) OtherState Host (place_of row)
    ∷ bad (v.room k == 0) NoRoom Host (place_of row)
    ∷ []

-- begin: its answer, and what the host shows after
pub record Begins (before : View) (row : RowKey) (e : Entry) (r : Result (Unit {0}) Fault) (shown : View) : Type 0 where
  pub answers : r ≡ answer (first_fault (begin_checks before row e.kind)) tt
  pub shows : shown ≡ after (first_fault (begin_checks before row e.kind)) before (begun before row e)

-- commit, drop and undo turn a row from one state to another: the answer, and what the host shows after
pub record Moves (from to : HostState) (before : View) (row : RowKey) (r : Result (Unit {0}) Fault) (shown : View) : Type 0 where
  pub answers : r ≡ answer (first_fault (move_checks from before row)) tt
  pub shows : shown ≡ after (first_fault (move_checks from before row)) before (moved to before row)

-- the same host, shut or not
abbrev pub shut_as : Bool → View → View
shut_as b v = record { shut = b; room = v.room; state = v.state; entry = v.entry }

-- what may become of a host between two calls: it may be shut or opened
abbrev pub Between : View → View → Type 0
Between v w = w ≡ shut_as w.shut v

-- a new book: open and without rows, with so much room for its kind, and with none for another
abbrev pub blank : Kind → ℕ → View
blank kind most = record {
  shut = false;
  room = λ k. cond (same_kind k kind) most 0;
  state = λ _. Unknown;
  entry = λ _. None;
}
