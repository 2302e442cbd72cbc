-- What a call makes of a pair, where one of its hosts is called. Assumes nothing.
use Rattle.std.proofs.Common.{◌≡◌, Bool, true, false, not, ◌&&◌, Result, refl, sym, ◌∙◌, ap, ap₂, subst}
use Rattle.values.specs.declared.Fault.{Fault}
use Rattle.host.specs.Calls.{Performs}
use Rattle.host.specs.Known.{Known, known_by, Sorted, HoldsWhatItShows, StaysSorted}
use Rattle.host.specs.View.{View, Sound}
use Rattle.host.specs.Views.{for_first, pair_view, Called, CalledIf, PairHolds, PairMakes, PairGoes}
use Rattle.host.specs.declared.calls.Call.{Call}
use Rattle.host.specs.declared.pair.Pair.{Pair}
use Rattle.host.proofs.Sorted.{parted, parted_first, parted_second, first_known, second_known}

called_if : {X : Type 0} (view : X → View) (makes : X → Call → Result (Unit {0}) Fault → X → Type 0) (x : X) (c : Call)
    (r : Result (Unit {0}) Fault) (y : X) {b : Bool} → b ≡ true → Called view makes x c r y → CalledIf b view makes x c r y
called_if view makes x c r y t h = subst (λ b. CalledIf b view makes x c r y) (sym t) h

-- a host that is not called is the same
left_alone : {X : Type 0} (view : X → View) (makes : X → Call → Result (Unit {0}) Fault → X → Type 0) (x : X) (c : Call)
    (r : Result (Unit {0}) Fault) {b : Bool} → b ≡ false → CalledIf b view makes x c r x
left_alone view makes x c r f = subst (λ b. CalledIf b view makes x c r x) (sym f) refl

module _ {X Y : Type 0} (first_view : X → View) (first_makes : X → Call → Result (Unit {0}) Fault → X → Type 0)
    (second_view : Y → View) (second_makes : Y → Call → Result (Unit {0}) Fault → Y → Type 0) (p : Pair X Y) (c : Call) (r : Result (Unit {0}) Fault) where
  abbrev to_first : Bool
  to_first = for_first p.kind (first_view p.first) (second_view p.second) c

  pub shut_makes : (pair_view first_view second_view p).shut ≡ true → PairMakes first_view first_makes second_view second_makes p c r p
  shut_makes shut = (
    refl,
    left_alone first_view first_makes p.first c r (ap (λ b. not b && to_first) shut),
    left_alone second_view second_makes p.second c r (ap (λ b. not b && not to_first) shut),
  )

  module _ (open_pair : (pair_view first_view second_view p).shut ≡ false) where
    pub makes_at_first : (x : X) → to_first ≡ true → Called first_view first_makes p.first c r x
        → PairMakes first_view first_makes second_view second_makes p c r (record { kind = p.kind; first = x; second = p.second })
    makes_at_first x k made = (
      refl,
      called_if first_view first_makes p.first c r x (ap₂ (λ b t. not b && t) open_pair k) made,
      left_alone second_view second_makes p.second c r (ap₂ (λ b t. not b && not t) open_pair k),
    )

    pub makes_at_second : (y : Y) → to_first ≡ false → Called second_view second_makes p.second c r y
        → PairMakes first_view first_makes second_view second_makes p c r (record { kind = p.kind; first = p.first; second = y })
    makes_at_second y k made = (
      refl,
      left_alone first_view first_makes p.first c r (ap₂ (λ b t. not b && t) open_pair k),
      called_if second_view second_makes p.second c r y (ap₂ (λ b t. not b && not t) open_pair k) made,
    )

module _ {X Y : Type 0} (first_view : X → View) (first_holds : X → Known → Type 0) (first_goes : X → X → Type 0)
    (second_view : Y → View) (second_holds : Y → Known → Type 0) (second_goes : Y → Y → Type 0)
    (first_sound : (x : X) → Sound (first_view x)) (first_whole : HoldsWhatItShows first_view first_holds) (second_sound : (y : Y) → Sound (second_view y)) (second_whole : HoldsWhatItShows second_view second_holds)
    (p : Pair X Y) (c : Call) (r : Result (Unit {0}) Fault) where
  abbrev InOrder : Pair X Y → Type 0
  InOrder = Sorted (pair_view first_view second_view) (PairHolds first_holds second_holds)

  module _ (x : X) (k : for_first p.kind (first_view p.first) (second_view p.second) c ≡ true) (shows : Performs (first_view p.first) c r (first_view x)) where
    abbrev with_first : Pair X Y
    with_first = record { kind = p.kind; first = x; second = p.second }

    first_sorted : StaysSorted first_view first_holds first_goes → first_goes p.first x → InOrder p → InOrder with_first
    first_sorted sorted gone order =
        let is_first = first_whole p.first _ order.0 in
        let is_second = second_whole p.second _ order.1 in
        let before = parted p.kind (first_view p.first) (second_view p.second) (known_by (pair_view first_view second_view p)) (first_sound p.first) (second_sound p.second) is_first is_second in
        let later = parted_first p.kind (first_view p.first) (second_view p.second) c (first_view x) k shows.shows before in
        let own = sorted p.first x gone (subst (first_holds p.first) (sym is_first) order.0) in (
          subst (first_holds x) (first_known p.kind (first_view x) (second_view p.second) (first_sound x) (second_sound p.second) later) own,
          subst (second_holds p.second) (sym is_second ∙ second_known p.kind (first_view x) (second_view p.second) (first_sound x) (second_sound p.second) later) order.1,
        )

    pub goes_at_first : StaysSorted first_view first_holds first_goes → ((y : Y) → second_goes y y) → first_goes p.first x → PairGoes first_view first_holds first_goes second_view second_holds second_goes p with_first
    goes_at_first sorted stays gone = record {
      kind = refl;
      first = gone;
      second = stays p.second;
      sorted = first_sorted sorted gone;
    }

  module _ (y : Y) (k : for_first p.kind (first_view p.first) (second_view p.second) c ≡ false) (shows : Performs (second_view p.second) c r (second_view y)) where
    abbrev with_second : Pair X Y
    with_second = record { kind = p.kind; first = p.first; second = y }

    second_sorted : StaysSorted second_view second_holds second_goes → second_goes p.second y → InOrder p → InOrder with_second
    second_sorted sorted gone order =
        let is_first = first_whole p.first _ order.0 in
        let is_second = second_whole p.second _ order.1 in
        let before = parted p.kind (first_view p.first) (second_view p.second) (known_by (pair_view first_view second_view p)) (first_sound p.first) (second_sound p.second) is_first is_second in
        let later = parted_second p.kind (first_view p.first) (second_view p.second) c (second_view y) k shows.shows before in
        let own = sorted p.second y gone (subst (second_holds p.second) (sym is_second) order.1) in (
          subst (first_holds p.first) (sym is_first ∙ first_known p.kind (first_view p.first) (second_view y) (first_sound p.first) (second_sound y) later) order.0,
          subst (second_holds y) (second_known p.kind (first_view p.first) (second_view y) (first_sound p.first) (second_sound y) later) own,
        )

    pub goes_at_second : StaysSorted second_view second_holds second_goes → ((x : X) → first_goes x x) → second_goes p.second y → PairGoes first_view first_holds first_goes second_view second_holds second_goes p with_second
    goes_at_second sorted stays gone = record {
      kind = refl;
      first = stays p.first;
      second = gone;
      sorted = second_sorted sorted gone;
    }
