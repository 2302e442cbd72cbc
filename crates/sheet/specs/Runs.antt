-- A competition as a world of the model, and what an event or a list of events carries on. Assumes nothing.
use Rattle.std.specs.Prelude.{◌≡◌, ℕ, ◌<◌, ◌≤◌, Bool, true, List, [], ◌∷◌, ◌++◌, length, slice_index_or, None, Some, Option, Result}
use Rattle.values.specs.declared.Answer.{Answer}
use Rattle.values.specs.declared.Fault.{Fault}
use Rattle.std.specs.Bool.{⊤}
use Rattle.host.specs.Commands.{Controlled, shown_after}
use Rattle.host.specs.Known.{Known, known_by, Sorted}
use Rattle.host.specs.Made.{Made}
use Rattle.host.specs.declared.calls.Call.{Call}
use Rattle.host.specs.View.{View, Fresh, Sound}
use Rattle.model.specs.Chart.{Chart}
use Rattle.model.specs.Run.{World, Lent, Event, does, world, History, Leads, opening}
use Rattle.model.specs.Histories.{LawfulHistory}
use Rattle.model.specs.Sheets.{with_rows_known}
use Rattle.sheet.specs.Asked.{event_asks}
use Rattle.sheet.specs.Happenings.{happening, command_of, refused_by, lends}
use Rattle.sheet.specs.declared.events.Event.{Event as HostEvent}
use Rattle.sheet.specs.declared.events.End.{End}
use Rattle.sheet.specs.declared.events.End.TheVariants.{Events, Places, Memory}
use Rattle.sheet.specs.declared.events.Taken.{Taken}
use Rattle.sheet.specs.SheetOf.{sheet_of, chart_of}
use Rattle.sheet.specs.Lent.{lent_of}
use Rattle.sheet.specs.declared.replay.Competition.{Competition}

-- its sheet, what its host shows, and its memory
abbrev pub world_of : {X : Type 0} → (X → View) → Competition X → World
world_of view x = world (sheet_of x.sheet) (view x.host) (lent_of x.memory)

abbrev pub process_of : {X : Type 0} → Competition X → Chart
process_of x = chart_of x.sheet

-- an event got the answer that the definitions name, and left the world that they name
abbrev pub Does : Chart → World → Event → Answer → World → Type 0
Does c before e a then = does c before e ≡ (then, a)

-- the history h leads on from one world to another; and whatever run from a blank sheet at a fresh host came to the first of
-- them, the law over every run holds of all of it, h included
pub record GoesOn (c : Chart) (before : World) (h : History) (then : World) : Type 0 where
  pub leads : Leads c before h then
  pub law : (serial : ℕ) (v : View) (l : Lent) → Fresh v → Sound v → (g : History)
      → Leads c (opening serial v l) g before → LawfulHistory c (opening serial v l) (g ++ h) then

-- what an event leaves of the host, in the host's own terms: a command what the host says of it, and every other event what its calls
-- make of it one after another
abbrev pub HostAfter : {X C : Type 0} → (X → View) → (X → Call → Result (Unit {0}) Fault → X → Type 0) → (X → X → Type 0)
    → (X → C → Option Fault) → (X → C → X → Type 0) → X → Option C → List Call → X → Type 0
HostAfter view makes goes declines leaves before None asks then = Made view makes before asks then × goes before then
HostAfter view makes goes declines leaves before (Some c) asks then = Controlled (declines before c) leaves before c then

-- what the host shows after a command: what it showed, shut or not as it says; of other events the definitions of `does` tell
abbrev pub ShownAfter : {X C : Type 0} → (X → View) → (X → C → Option Fault) → (X → C → Bool) → X → Option C → X → Type 0
ShownAfter view declines shuts before None then = ⊤
ShownAfter view declines shuts before (Some c) then = view then ≡ shown_after (declines before c) (shuts before c) (view before)

-- a competition takes one event, and this is told of it
pub record Takes {X C : Type 0} (view : X → View) (makes : X → Call → Result (Unit {0}) Fault → X → Type 0) (goes : X → X → Type 0)
    (declines : X → C → Option Fault) (shuts : X → C → Bool) (leaves : X → C → X → Type 0) (before : Competition X) (e : HostEvent C) (t : Taken) (then : Competition X) : Type 0 where
  -- the answer, and the world after it, are those that the definitions name
  pub does : Does (process_of before) (world_of view before) (happening t.shut e) t.answer (world_of view then)
  pub process : process_of then ≡ process_of before
  -- the host is what the event leaves of it
  pub host : HostAfter view makes goes declines leaves before.host (command_of e)
      (event_asks (process_of before) (world_of view before) (happening t.shut e)) then.host
  pub shown : ShownAfter view declines shuts before.host (command_of e) then.host
  -- whether the host is shut then is told, and the fault of a command that it declined
  pub shut : t.shut ≡ (view then.host).shut
  pub refused : t.refused ≡ refused_by declines before.host (command_of e)

-- it takes the events of a list, one after another
pub data TakesAll {X C : Type 0} (view : X → View) (makes : X → Call → Result (Unit {0}) Fault → X → Type 0) (goes : X → X → Type 0)
    (declines : X → C → Option Fault) (shuts : X → C → Bool) (leaves : X → C → X → Type 0) (first : Competition X) : List (HostEvent C × Taken) → Competition X → Type 0 where
  nothing : TakesAll view makes goes declines shuts leaves first [] first
  one_more : {h : List (HostEvent C × Taken)} {x y : Competition X} → TakesAll view makes goes declines shuts leaves first h x
      → (e : HostEvent C) (t : Taken) → Takes view makes goes declines shuts leaves x e t y
      → TakesAll view makes goes declines shuts leaves first (h ++ (e, t) ∷ []) y

-- whatever run from a blank sheet at a fresh host came here: where each row of the host is where it belongs, then afterwards under the
-- keys of the sheet's rows each part of the host knows exactly those rows that belong there, each with its entry and in the state that
-- goes with the row's, and under all other keys it knows what it knew
abbrev pub Belong : {X : Type 0} → (X → View) → (X → Known → Type 0) → Competition X → Competition X → Type 0
Belong view holds before then =
    (serial : ℕ) (v : View) (l : Lent) → Fresh v → Sound v
    → (g : History) → Leads (process_of before) (opening serial v l) g (world_of view before) → Sorted view holds before.host
    → holds then.host (with_rows_known (sheet_of then.sheet) (known_by (view before.host)))

-- memory ran out before an event of a list that lends other memory, where there was a place to tell of it
pub record RanOut {C : Type 0} (es : List (HostEvent C)) (places taken : ℕ) : Type 0 where
  pub event : taken < length es
  pub place : taken < places
  pub lends : (e : HostEvent C) → lends (slice_index_or es taken e) ≡ true

-- why no more events of a list were taken than so many: there were no more, or no more places to tell of them, or memory ran out
abbrev pub Ended : {C : Type 0} → End → List (HostEvent C) → ℕ → ℕ → Type 0
Ended Events es places taken = (taken ≡ length es) × (taken ≤ places)
Ended Places es places taken = (taken ≡ places) × (places < length es)
Ended (Memory e) es places taken = RanOut es places taken
