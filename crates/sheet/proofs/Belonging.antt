-- Rows stay where they belong, whatever events a competition takes. Assumes nothing.
use Rattle.std.proofs.Common.{Bool, List, sym, subst, Option, Result}
use Rattle.values.specs.declared.Fault.{Fault}
use Rattle.host.specs.View.{View, Sound}
use Rattle.host.specs.Known.{Known, known_by, Sorted, HoldsWhatItShows, StaysSorted, MovesNoRow}
use Rattle.host.specs.declared.calls.Call.{Call}
use Rattle.model.specs.Run.{History, opening}
use Rattle.model.proofs.Belonging.{follows_knows, lawful_follows}
use Rattle.sheet.specs.Runs.{world_of, process_of, GoesOn, HostAfter, TakesAll, Belong}
use Rattle.sheet.specs.SheetOf.{sheet_of}
use Rattle.sheet.specs.declared.events.Event.{Event}
use Rattle.sheet.specs.declared.events.Taken.{Taken}
use Rattle.sheet.specs.declared.replay.Competition.{Competition}
use Rattle.sheet.proofs.Going.{host_keeps, taken_keeps}

module _ {X : Type 0} (view : X → View) (holds : X → Known → Type 0) (sound : (x : X) → Sound (view x))
    (whole : HoldsWhatItShows view holds) where
  -- where rows stay sorted and the law holds, they are where they belong
  pub belong : (x y : Competition X) {h : History} → GoesOn (process_of x) (world_of view x) h (world_of view y)
      → (Sorted view holds x.host → Sorted view holds y.host) → Belong view holds x y
  belong x y goes keeps serial v l fresh was g leads sorted =
      let follows = lawful_follows (process_of x) (opening serial v l) (goes.law serial v l fresh was g leads) in
      subst (holds y.host) (follows_knows (sheet_of y.sheet) (view y.host) (view x.host) (sound y.host) (sound x.host) follows) (keeps sorted)

  module _ {C : Type 0} (makes : X → Call → Result (Unit {0}) Fault → X → Type 0) (goes : X → X → Type 0)
      (declines : X → C → Option Fault) (shuts : X → C → Bool) (leaves : X → C → X → Type 0)
      (stays_sorted : StaysSorted view holds goes) (moves_no_row : MovesNoRow holds leaves) where
    abbrev Keeps : X → X → Type 0
    Keeps x y = Sorted view holds x → Sorted view holds y

    commands_keep : (x : X) (c : C) (y : X) → leaves x c y → Keeps x y
    commands_keep x c y left sorted =
        let there = moves_no_row x c y left (known_by (view x)) sorted in
        subst (holds y) (sym (whole y (known_by (view x)) there)) there

    pub host_sorts : (c : Option C) (asks : List Call) (x y : X) → HostAfter view makes goes declines leaves x c asks y → Keeps x y
    host_sorts =
        host_keeps view makes goes declines shuts leaves Keeps (λ x s. s) (λ x y z p q s. q (p s)) stays_sorted commands_keep

    pub taken_sorts : {first last : Competition X} {h : List (Event C × Taken)} → TakesAll view makes goes declines shuts leaves first h last
        → Keeps first.host last.host
    taken_sorts a =
        taken_keeps view makes goes declines shuts leaves Keeps (λ x s. s) (λ x y z p q s. q (p s)) stays_sorted commands_keep a
