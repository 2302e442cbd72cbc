-- What calls and commands leave of the program's hosts: rows where they belong, and how the switches stand. Assumes nothing.
use Rattle.std.proofs.Common.{◌≡◌, None, Option, Result, refl, ap, subst, ◌∙◌, arith, rules}
use Rattle.values.specs.declared.Fault.{Fault}
use Rattle.values.specs.declared.Kind.TheVariants.{Fee}
use Rattle.host.specs.Commands.{Controlled, LeavesAll, switch_declines, pair_declines, SwitchLeaves, PairLeaves}
use Rattle.host.specs.Known.{known_by, only, is_kind, Alone, HoldsNothingFresh, Sorted}
use Rattle.host.specs.Laws.{alone_empty, switch_empty, pair_empty}
use Rattle.host.specs.View.{Fresh, Sound}
use Rattle.host.specs.Views.{switch_view, SwitchHolds, SwitchMakes, SwitchGoes, PairMakes, PairGoes}
use Rattle.host.specs.declared.calls.Call.{Call}
use Rattle.host.specs.declared.hosts.NoCommand.{NoCommand}
use Rattle.host.specs.declared.pair.PairCommand.TheVariants.{First, Second}
use Rattle.host.specs.declared.switch.Switch.{Switch}
use Rattle.host.specs.declared.switch.SwitchCommand.TheVariants.{On, Off, Below}
use Rattle.host.proofs.Sorted.{sorted_fresh}
use Rattle.scorebook.specs.Book.{book_view, BookMakes, BookGoes}
use Rattle.scorebook.specs.Laws.{book_sound}
use Rattle.ledger.specs.Book.{ledger_view, LedgerMakes, LedgerGoes}
use Rattle.ledger.specs.Fees.{standing_sum}
use Rattle.ledger.specs.Laws.{ledger_sound}
use Rattle.club.specs.Commands.{ForSwitch, Command}
use Rattle.club.specs.Hosts.{Hosts, hosts_view, hosts_hold, InOrder, fees_standing, switches_of, turned_by, commanded, are_shut}

-- the hosts are shut exactly while a switch is off
pub shut_by : (h : Hosts) → (hosts_view h).shut ≡ are_shut (switches_of h)
shut_by h = grind arith

-- what calls make of the hosts
abbrev pub Goes : Hosts → Hosts → Type 0
Goes h h' =
    PairGoes (switch_view ledger_view) (SwitchHolds (Alone ledger_view)) (SwitchGoes LedgerGoes)
    (switch_view book_view) (SwitchHolds (Alone book_view)) (SwitchGoes BookGoes) h h'

abbrev pub Makes : Hosts → Call → Result (Unit {0}) Fault → Hosts → Type 0
Makes h c r h' =
    PairMakes (switch_view ledger_view) (SwitchMakes ledger_view LedgerMakes) (switch_view book_view) (SwitchMakes book_view BookMakes) h c r h'

-- a book declines no command
abbrev pub takes_any : {X : Type 0} → X → NoCommand → Option Fault
takes_any x c = None

abbrev pub declines : Hosts → Command → Option Fault
declines h c = pair_declines (switch_declines takes_any) (switch_declines takes_any) h c

abbrev pub Leaves : Hosts → Command → Hosts → Type 0
Leaves h c h' = PairLeaves (SwitchLeaves LeavesAll) (SwitchLeaves LeavesAll) h c h'

-- what a command leaves of the hosts
abbrev pub Commanded : Hosts → Command → Hosts → Type 0
Commanded h c h' = Controlled (declines h c) Leaves h c h'

-- the hosts decline no command
pub declines_none : (h : Hosts) (c : Command) → declines h c ≡ None
declines_none h (First On) = refl
declines_none h (First Off) = refl
declines_none h (First (Below c)) = refl
declines_none h (Second On) = refl
declines_none h (Second Off) = refl
declines_none h (Second (Below c)) = refl

obeyed : (h h' : Hosts) (c : Command) → Commanded h c h' → Leaves h c h'
obeyed h h' c left = subst (λ f. Controlled f Leaves h c h') (declines_none h c) left

-- ── the switches ──

turned_switch : {X : Type 0} (below : X → NoCommand → X → Type 0) (s t : Switch X) (c : ForSwitch) → SwitchLeaves below s c t
    → t.on ≡ turned_by c s.on
turned_switch below s t On h = h.0
turned_switch below s t Off h = h.0
turned_switch below s t (Below c) h = h.0

turned : (h h' : Hosts) (c : Command) → Leaves h c h' → switches_of h' ≡ commanded c (switches_of h)
turned h h' (First one) l =
    λ i. record { ledger = turned_switch LeavesAll h.first h'.first one l.1 i; scores = (l.2 i).on }
turned h h' (Second one) l =
    λ i. record { ledger = (l.1 i).on; scores = turned_switch LeavesAll h.second h'.second one l.2 i }

-- a command turns them as it says, and no call does
pub switches_commanded : (h h' : Hosts) (c : Command) → Commanded h c h' → switches_of h' ≡ commanded c (switches_of h)
switches_commanded h h' c left = turned h h' c (obeyed h h' c left)

pub switches_untouched : (h h' : Hosts) → Goes h h' → switches_of h' ≡ switches_of h
switches_untouched h h' is =
    λ i. record { ledger = is.first.on i; scores = is.second.on i }

-- ── fees in the ledger, everything else in the score book ──

hosts_sound : (h : Hosts) → Sound (hosts_view h)
hosts_sound h =
    let first = ledger_sound h.first.inner in
    let second = book_sound h.second.inner in
    search rules

hosts_empty : HoldsNothingFresh hosts_view hosts_hold
hosts_empty =
    pair_empty (switch_view ledger_view) (SwitchHolds (Alone ledger_view)) (switch_view book_view) (SwitchHolds (Alone book_view))
    (switch_empty ledger_view (Alone ledger_view) (alone_empty ledger_view ledger_sound))
    (switch_empty book_view (Alone book_view) (alone_empty book_view book_sound))

pub fresh_in_order : (h : Hosts) → h.kind ≡ Fee → Fresh (hosts_view h) → InOrder h
fresh_in_order h kind fresh = record { kind = kind; sorted = sorted_fresh hosts_view hosts_hold hosts_sound hosts_empty h fresh }

same_kind_left : (h h' : Hosts) (c : Command) → Leaves h c h' → h'.kind ≡ h.kind
same_kind_left h h' (First one) l = l.0
same_kind_left h h' (Second one) l = l.0

-- calls and commands that leave each row where it belongs leave the hosts in order
pub goes_in_order : (h h' : Hosts) → (Sorted hosts_view hosts_hold h → Sorted hosts_view hosts_hold h') → Goes h h' → InOrder h → InOrder h'
goes_in_order h h' sorted left o = record { kind = left.kind ∙ o.kind; sorted = sorted o.sorted }

pub commanded_in_order : (h h' : Hosts) (c : Command) → (Sorted hosts_view hosts_hold h → Sorted hosts_view hosts_hold h') → Commanded h c h'
    → InOrder h → InOrder h'
commanded_in_order h h' c sorted left o =
    record { kind = same_kind_left h h' c (obeyed h h' c left) ∙ o.kind; sorted = sorted o.sorted }

-- the ledger's rows are the fees among those of the hosts
pub ledger_has_fees : (h : Hosts) → InOrder h → standing_sum (known_by (ledger_view h.first.inner)) ≡ fees_standing (hosts_view h)
ledger_has_fees h o =
    ap standing_sum (o.sorted.0 ∙ ap (λ k. only (is_kind k) (known_by (hosts_view h))) o.kind)
