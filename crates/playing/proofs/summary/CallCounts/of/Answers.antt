-- Each pair is counted, until one of the iterators has no more.
use Rattle.std.proofs.Common.{◌≡◌, ◌⊎◌, List, [], ◌∷◌, fold, inl, inr, refl, sym, ◌∙◌, rules}
use Rattle.std.proofs.lemmas.Slice.Zip.{either_empty_from_Zip}
use Rattle.std.specs.List.{zip}
use Rattle.sheet.specs.declared.events.Event.{Event}
use Rattle.sheet.specs.declared.events.Taken.{Taken}
use Rattle.club.specs.Commands.{Command}
use Rattle.playing.specs.Played.{counted_event}
use Rattle.playing.specs.declared.summary.CallCounts.{CallCounts}
use Rattle.playing.proofs.summary.CallCounts.of.Goals as goal

none_left : (n : CallCounts) (es : List (Event Command)) (ts : List Taken) → (es ≡ []) ⊎ (ts ≡ [])
    → fold counted_event n (zip es ts) ≡ n
none_left n [] ts none = refl
none_left n (e ∷ es) [] none = refl
none_left n (e ∷ es) (t ∷ ts) (inl none) = search rules
none_left n (e ∷ es) (t ∷ ts) (inr none) = search rules

pub returns : goal.returns
returns c =
    let it = c.loop-event.event-iterator in
    let none = either_empty_from_Zip it c.next.new.self c.next.result c.in-None.is c.next.ensures.steps in
    sym (none_left c.loop-event.calls _ _ none) ∙ c.loop-event.invariant.counted
