-- What a switch and a pair show, what they hold, and what calls make of them, by the hosts below them. Assumes nothing.
use Rattle.std.specs.Prelude.{◌≡◌, Bool, true, false, cond, not, ◌&&◌, ◌||◌, Result}
use Rattle.values.specs.Numbers.{same_kind}
use Rattle.values.specs.declared.Fault.{Fault}
use Rattle.values.specs.declared.Kind.{Kind}
use Rattle.host.specs.Calls.{Performs}
use Rattle.host.specs.Known.{Known, only, is_kind, is_other, Sorted}
use Rattle.host.specs.View.{View, is_unknown, shut_as}
use Rattle.host.specs.declared.calls.Call.{Call}
use Rattle.host.specs.declared.calls.Call.TheVariants.{Begin, Commit, Drop, Undo}
use Rattle.host.specs.declared.switch.Switch.{Switch}
use Rattle.host.specs.declared.pair.Pair.{Pair}

-- what a switch shows: the host below, shut where the switch is off
abbrev pub switched : Bool → View → View
switched on v = shut_as (cond on v.shut true) v

-- two hosts shown as one, which is shut if either is: room is asked of the first for one kind, and of the second for any other;
-- state and entry of a row are asked of the first, and where it is unknown there, of the second
abbrev pub joined : Kind → View → View → View
joined kind a b = record {
  shut = a.shut || b.shut;
  room = λ k. cond (same_kind k kind) (a.room k) (b.room k);
  state = λ row. cond (is_unknown (a.state row)) (b.state row) (a.state row);
  entry = λ row. cond (is_unknown (a.state row)) (b.entry row) (a.entry row);
}

-- whether a call on such a pair is for the first host: by the row, if either host knows it, and else by the kind
abbrev pub for_first : Kind → View → View → Call → Bool
for_first kind a b (Begin row e) = cond (is_unknown ((joined kind a b).state row)) (same_kind e.kind kind) (not (is_unknown (a.state row)))
for_first kind a b (Commit row) = not (is_unknown (a.state row))
for_first kind a b (Drop row) = not (is_unknown (a.state row))
for_first kind a b (Undo row) = not (is_unknown (a.state row))

abbrev pub switch_view : {X : Type 0} → (X → View) → Switch X → View
switch_view view s = switched s.on (view s.inner)

abbrev pub pair_view : {X Y : Type 0} → (X → View) → (Y → View) → Pair X Y → View
pair_view first_view second_view p = joined p.kind (first_view p.first) (second_view p.second)

-- ── what is held where ──

-- a switch holds what the host below does
abbrev pub SwitchHolds : {X : Type 0} → (X → Known → Type 0) → Switch X → Known → Type 0
SwitchHolds holds s known = holds s.inner known

-- a pair holds given rows: its first host has those of its kind, its second the rest of them
abbrev pub PairHolds : {X Y : Type 0} → (X → Known → Type 0) → (Y → Known → Type 0) → Pair X Y → Known → Type 0
PairHolds first second p known =
    first p.first (only (is_kind p.kind) known) × second p.second (only (is_other p.kind) known)

-- ── what a call makes of them ──

-- a call made at a host: its answer, what the host shows after it, and what it made of the host in the host's own terms
pub record Called {X : Type 0} (view : X → View) (makes : X → Call → Result (Unit {0}) Fault → X → Type 0)
    (x : X) (c : Call) (r : Result (Unit {0}) Fault) (y : X) : Type 0 where
  pub shows : Performs (view x) c r (view y)
  pub made : makes x c r y

-- made there, or else the host is as it was
abbrev pub CalledIf : {X : Type 0} → Bool → (X → View) → (X → Call → Result (Unit {0}) Fault → X → Type 0)
    → X → Call → Result (Unit {0}) Fault → X → Type 0
CalledIf true view makes x c r y = Called view makes x c r y
CalledIf false view makes x c r y = y ≡ x

-- a switch stays as it stands; a call is made at the host below exactly if it is on
abbrev pub SwitchMakes : {X : Type 0} → (X → View) → (X → Call → Result (Unit {0}) Fault → X → Type 0)
    → Switch X → Call → Result (Unit {0}) Fault → Switch X → Type 0
SwitchMakes view makes s c r t = (t.on ≡ s.on) × CalledIf s.on view makes s.inner c r t.inner

-- a pair keeps its kind; a call is made at the one host that it is for, if the pair is open
abbrev pub PairMakes : {X Y : Type 0} → (X → View) → (X → Call → Result (Unit {0}) Fault → X → Type 0)
    → (Y → View) → (Y → Call → Result (Unit {0}) Fault → Y → Type 0)
    → Pair X Y → Call → Result (Unit {0}) Fault → Pair X Y → Type 0
PairMakes first_view first second_view second p c r q =
    let to_first = for_first p.kind (first_view p.first) (second_view p.second) c in
    let open_pair = not (pair_view first_view second_view p).shut in
    (q.kind ≡ p.kind)
    × CalledIf (open_pair && to_first) first_view first p.first c r q.first
    × CalledIf (open_pair && not to_first) second_view second p.second c r q.second

-- what calls can make of a switch: it stays as it stands, and while it is off the host below is as it was
pub record SwitchGoes {X : Type 0} (below : X → X → Type 0) (s t : Switch X) : Type 0 where
  pub on : t.on ≡ s.on
  pub inner : below s.inner t.inner
  pub off : s.on ≡ false → t.inner ≡ s.inner

-- what calls can make of a pair: it keeps its kind, each of its hosts goes on, and rows stay where they belong
pub record PairGoes {X Y : Type 0} (first_view : X → View) (first_holds : X → Known → Type 0) (first_goes : X → X → Type 0)
    (second_view : Y → View) (second_holds : Y → Known → Type 0) (second_goes : Y → Y → Type 0) (p q : Pair X Y) : Type 0 where
  pub kind : q.kind ≡ p.kind
  pub first : first_goes p.first q.first
  pub second : second_goes p.second q.second
  pub sorted : Sorted (pair_view first_view second_view) (PairHolds first_holds second_holds) p
      → Sorted (pair_view first_view second_view) (PairHolds first_holds second_holds) q
