-- The laws of sheets that calls lead to, each for every process, serial, fresh host, memory and list of events.
use Rattle.std.specs.Prelude.{◌≡◌, ℕ, ◌≤◌, length, None}
use Rattle.values.specs.declared.Mode.{Mode}
use Rattle.model.specs.Chart.{Chart}
use Rattle.model.specs.Calls.{abort_fault}
use Rattle.model.specs.Run.{World, Event}
use Rattle.model.specs.Sheets.{Orderly, AfterIsAfter, StruckIsStruck, AbortFalls}
use Rattle.model.specs.Listings.{ListingIs, ListingStays}
use Rattle.model.specs.Replies.{ReplyTells}
use Rattle.model.specs.Histories.{Reached}

abbrev pub SheetsAreOrderly : Type 0
SheetsAreOrderly = (c : Chart) (w : World) → Reached c w → Orderly w.sheet

abbrev pub AfterIsReachedByArrows : Type 0
AfterIsReachedByArrows = (c : Chart) (w : World) → Reached c w → AfterIsAfter w.sheet

abbrev pub StruckSetIsTheLeast : Type 0
StruckSetIsTheLeast = (c : Chart) (w : World) → Reached c w → StruckIsStruck c w.sheet

abbrev pub AbortsFall : Type 0
AbortsFall =
    (c : Chart) (w : World) → Reached c w → (m : Mode) (column line : ℕ)
    → abort_fault w.sheet w.host m column line ≡ None → AbortFalls c w.sheet m

abbrev pub ListingsAreExact : Type 0
ListingsAreExact = (c : Chart) (w : World) → Reached c w → ListingIs c w.sheet

abbrev pub ListingsStay : Type 0
ListingsStay = (c : Chart) (w : World) (e : Event) → ListingStays c w e

abbrev pub RepliesTell : Type 0
RepliesTell = (c : Chart) (w : World) → Reached c w → length c.0 ≤ 64 → ReplyTells c w.sheet
