-- What commands for a switch or a pair answer and leave, by the hosts below them. Assumes nothing.
use Rattle.std.specs.Prelude.{◌≡◌, Bool, true, false, cond, ◌||◌, Some, None, Option}
use Rattle.values.specs.Checks.{after}
use Rattle.values.specs.declared.Fault.{Fault}
use Rattle.host.specs.View.{View, shut_as}
use Rattle.host.specs.declared.switch.Switch.{Switch}
use Rattle.host.specs.declared.switch.SwitchCommand.{SwitchCommand}
use Rattle.host.specs.declared.switch.SwitchCommand.TheVariants.{On, Off, Below}
use Rattle.host.specs.declared.pair.Pair.{Pair}
use Rattle.host.specs.declared.pair.PairCommand.{PairCommand}
use Rattle.host.specs.declared.pair.PairCommand.TheVariants.{First, Second}

-- what is shown after a command: declined with a fault it changes nothing, and obeyed nothing but whether the host is shut
abbrev pub shown_after : Option Fault → Bool → View → View
shown_after fault shut v = shut_as (after fault v.shut shut) v

-- what a command leaves: of one that is obeyed the host says what, and one that is declined changes nothing
abbrev pub Controlled : {X C : Type 0} → Option Fault → (X → C → X → Type 0) → X → C → X → Type 0
Controlled None leaves x c y = leaves x c y
Controlled (Some f) leaves x c y = y ≡ x

-- what a command leaves of a host that none shuts or opens
abbrev pub LeavesAll : {X C : Type 0} → X → C → X → Type 0
LeavesAll x c y = y ≡ x

-- a switch declines what the host below declines, and is never declined to be turned
abbrev pub switch_declines : {X C : Type 0} → (X → C → Option Fault) → Switch X → SwitchCommand C → Option Fault
switch_declines declines s On = None
switch_declines declines s Off = None
switch_declines declines s (Below c) = declines s.inner c

abbrev pub pair_declines : {X Y C D : Type 0} → (X → C → Option Fault) → (Y → D → Option Fault)
    → Pair X Y → PairCommand C D → Option Fault
pair_declines first second p (First c) = first p.first c
pair_declines first second p (Second c) = second p.second c

-- whether a switch is shut after a command that is obeyed
abbrev pub switch_shuts : {X C : Type 0} → (X → View) → (X → C → Bool) → Switch X → SwitchCommand C → Bool
switch_shuts view shuts s On = (view s.inner).shut
switch_shuts view shuts s Off = true
switch_shuts view shuts s (Below c) = cond s.on (shuts s.inner c) true

-- whether a pair is shut after a command that one of its hosts obeys
abbrev pub pair_shuts : {X Y C D : Type 0} → (X → View) → (X → C → Bool) → (Y → View) → (Y → D → Bool)
    → Pair X Y → PairCommand C D → Bool
pair_shuts first_view first_shuts second_view second_shuts p (First c) = first_shuts p.first c || (second_view p.second).shut
pair_shuts first_view first_shuts second_view second_shuts p (Second c) = (first_view p.first).shut || second_shuts p.second c

-- what a command leaves of a switch: turning it leaves the host below as it is, and a command for that host leaves the switch
abbrev pub SwitchLeaves : {X C : Type 0} → (X → C → X → Type 0) → Switch X → SwitchCommand C → Switch X → Type 0
SwitchLeaves below s On t = (t.on ≡ true) × (t.inner ≡ s.inner)
SwitchLeaves below s Off t = (t.on ≡ false) × (t.inner ≡ s.inner)
SwitchLeaves below s (Below c) t = (t.on ≡ s.on) × below s.inner c t.inner

-- what a command for one host of a pair leaves: the kind and the other host
abbrev pub PairLeaves : {X Y C D : Type 0} → (X → C → X → Type 0) → (Y → D → Y → Type 0) → Pair X Y → PairCommand C D → Pair X Y → Type 0
PairLeaves first second p (First c) q = (q.kind ≡ p.kind) × first p.first c q.first × (q.second ≡ p.second)
PairLeaves first second p (Second c) q = (q.kind ≡ p.kind) × (q.first ≡ p.first) × second p.second c q.second
