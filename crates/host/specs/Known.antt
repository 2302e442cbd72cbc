-- The rows that a host knows, and which of them belong where. Assumes nothing.
use Rattle.std.specs.Prelude.{◌≡◌, Bool, cond, not, Some, None, Option}
use Rattle.values.specs.Numbers.{same_kind}
use Rattle.values.specs.declared.Entry.{Entry}
use Rattle.values.specs.declared.HostState.{HostState}
use Rattle.values.specs.declared.Kind.{Kind}
use Rattle.host.specs.Keys.{RowKey}
use Rattle.host.specs.View.{View, Fresh}

-- a row that is known: its state and its entry
pub record KnownRow : Type 0 where
  pub state : HostState
  pub entry : Entry

-- rows by their keys
abbrev pub Known : Type 0
Known = RowKey → Option KnownRow

abbrev pub nothing_known : Known
nothing_known row = None

-- a row in a state, if it has an entry
abbrev pub known_row : HostState → Option Entry → Option KnownRow
known_row s None = None
known_row s (Some e) = Some (record { state = s; entry = e })

-- the rows that a host knows
abbrev pub known_by : View → Known
known_by v row = known_row (v.state row) (v.entry row)

-- the rows with an entry of a wanted kind
abbrev pub if_wanted : (Kind → Bool) → Option KnownRow → Option KnownRow
if_wanted wanted None = None
if_wanted wanted (Some r) = cond (wanted r.entry.kind) (Some r) None

abbrev pub only : (Kind → Bool) → Known → Known
only wanted known row = if_wanted wanted (known row)

-- one kind, and all others
abbrev pub is_kind : Kind → Kind → Bool
is_kind kind k = same_kind k kind

abbrev pub is_other : Kind → Kind → Bool
is_other kind k = not (same_kind k kind)

-- a host has each row that it shows where that row belongs; `holds` says what it has where
abbrev pub Sorted : {X : Type 0} → (X → View) → (X → Known → Type 0) → X → Type 0
Sorted view holds x = holds x (known_by (view x))

-- a host without parts has all that it shows in one place
abbrev pub Alone : {X : Type 0} → (X → View) → X → Known → Type 0
Alone view x known = known_by (view x) ≡ known

-- ── what holds of every host ──

-- what it holds is what it shows
abbrev pub HoldsWhatItShows : {X : Type 0} → (X → View) → (X → Known → Type 0) → Type 0
HoldsWhatItShows {X} view holds = (x : X) (known : Known) → holds x known → known_by (view x) ≡ known

-- a fresh one has no row anywhere
abbrev pub HoldsNothingFresh : {X : Type 0} → (X → View) → (X → Known → Type 0) → Type 0
HoldsNothingFresh {X} view holds = (x : X) → Fresh (view x) → holds x nothing_known

-- rows stay where they belong, whatever calls are made
abbrev pub StaysSorted : {X : Type 0} → (X → View) → (X → Known → Type 0) → (X → X → Type 0) → Type 0
StaysSorted {X} view holds goes = (x y : X) → goes x y → Sorted view holds x → Sorted view holds y

-- and a command that is obeyed moves no row
abbrev pub MovesNoRow : {X C : Type 0} → (X → Known → Type 0) → (X → C → X → Type 0) → Type 0
MovesNoRow {X} {C} holds leaves = (x : X) (c : C) (y : X) → leaves x c y → (known : Known) → holds x known → holds y known
