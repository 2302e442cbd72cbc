-- What events carry on. Assumes nothing.
use Rattle.std.proofs.Common.{◌≡◌, ℕ, ◌+◌, ◌<◌, Bool, List, [], ◌∷◌, ◌++◌, length, get_or, set, take, Some, None, Option, Result, sym, refl, ap, ◌∙◌, subst, arith}
use Rattle.std.specs.List.{zip}
use Rattle.std.proofs.lemmas.List.{append-nil, append_assoc, length-take-le, map-append, take_more_set}
use Rattle.values.specs.declared.Answer.{Answer}
use Rattle.values.specs.declared.Fault.{Fault}
use Rattle.host.specs.Commands.{Controlled}
use Rattle.host.specs.View.{View}
use Rattle.host.specs.declared.calls.Call.{Call}
use Rattle.model.specs.Chart.{Chart}
use Rattle.model.specs.Run.{World, Event as Happening, does, History, Leads, nothing, one_more}
use Rattle.model.proofs.Law.{law_over_every_run}
use Rattle.sheet.specs.declared.events.Event.{Event}
use Rattle.sheet.specs.declared.events.Taken.{Taken}
use Rattle.sheet.specs.declared.replay.Competition.{Competition}
use Rattle.sheet.specs.Happenings.{happening, history, command_of}
use Rattle.sheet.specs.Runs.{world_of, process_of, Does, GoesOn, HostAfter, Takes, TakesAll}
use Rattle.sheet.specs.Runs.{nothing as takes_nothing, one_more as takes_more}

-- one history after another
leads_on : (c : Chart) (first : World) {g : History} {w : World} {h : History} {w' : World}
    → Leads c first g w → Leads c w h w' → Leads c first (g ++ h) w'
leads_on c first {g} {w} p nothing = subst (λ x. Leads c first x w) (sym (append-nil g)) p
leads_on c first {g} {w} p (one_more {h = h} {w = v} q e) =
    subst (λ x. Leads c first x (does c v e).0) (append_assoc g h ((e, (does c v e).1) ∷ [])) (one_more (leads_on c first p q) e)

-- where each answer is the one that the definitions name, the law is carried on
pub goes_on : (c : Chart) (w : World) {h : History} {w' : World} → Leads c w h w' → GoesOn c w h w'
goes_on c w {h} {w'} q = record {
  leads = q;
  law = λ serial v l fresh sound g p. law_over_every_run c serial v l fresh sound (g ++ h) w' (leads_on c _ p q);
}

-- one event
pub goes_one : (c : Chart) (w : World) (e : Happening) (a : Answer) (w' : World) → Does c w e a w' → GoesOn c w ((e, a) ∷ []) w'
goes_one c w e a w' h = goes_on c w (subst (λ (x : World × Answer). Leads c w ((e, x.1) ∷ []) x.0) h (one_more nothing e))

module _ {C : Type 0} where
  abbrev told_as : Event C × Taken → Happening × Answer
  told_as x = (happening x.1.shut x.0, x.1.answer)

  -- nothing is told of no event
  zip_none : (es : List (Event C)) → zip {X = Taken} es [] ≡ []
  zip_none [] = refl
  zip_none (x ∷ es) = refl

  -- one event more of a list
  zip_more : (es : List (Event C)) (ts : List Taken) (t : Taken) (e : Event C) → length ts < length es
      → e ≡ get_or es (length ts) e → zip es (ts ++ t ∷ []) ≡ zip es ts ++ (e, t) ∷ []
  zip_more [] ts t e low at = absurd (omega (arith, low))
  zip_more (x ∷ es) [] t e low at = ap (λ y. (y, t) ∷ zip es []) (sym at) ∙ ap (λ l. (e, t) ∷ l) (zip_none es)
  zip_more (x ∷ es) (u ∷ ts) t e low at = ap (λ l. (x, u) ∷ l) (zip_more es ts t e (omega (arith, low)) at)

  module _ {X : Type 0} (view : X → View) (makes : X → Call → Result (Unit {0}) Fault → X → Type 0) (goes : X → X → Type 0)
      (declines : X → C → Option Fault) (shuts : X → C → Bool) (leaves : X → C → X → Type 0) where
    abbrev TakesSo : Competition X → List (Event C × Taken) → Competition X → Type 0
    TakesSo = TakesAll view makes goes declines shuts leaves

    pub taken_none : (first : Competition X) (es : List (Event C)) (places : List Taken) → TakesSo first (zip es (take 0 places)) first
    taken_none first es places = subst (λ l. TakesSo first l first) (sym (zip_none es)) takes_nothing

    -- one event more, told of in the next place
    pub taken_more : (first x y : Competition X) (es : List (Event C)) (places : List Taken) (i : ℕ) (e : Event C) (t : Taken)
        → i < length es → i < length places → e ≡ get_or es i e → Takes view makes goes declines shuts leaves x e t y
        → TakesSo first (zip es (take i places)) x → TakesSo first (zip es (take (i + 1) (set places i t))) y
    taken_more first x y es places i e t low room is one so_far =
        let size : length (take i places) ≡ i = length-take-le i places (omega (arith, room)) in
        let below : length (take i places) < length es = omega (arith, size, low) in
        let here : e ≡ get_or es (length (take i places)) e = subst (λ n. e ≡ get_or es n e) (sym size) is in
        subst (λ l. TakesSo first l y) (sym (ap (zip es) (take_more_set places i t room) ∙ zip_more es (take i places) t e below here))
        (takes_more so_far e t one)

    -- the process is the same throughout
    same_process : {first last : Competition X} {h : List (Event C × Taken)} → TakesSo first h last → process_of last ≡ process_of first
    same_process takes_nothing = refl
    same_process (takes_more a e t one) = one.process ∙ same_process a

    -- the definitions lead along
    pub taken_leads : (first : Competition X) {last : Competition X} {h : List (Event C × Taken)} → TakesSo first h last
        → Leads (process_of first) (world_of view first) (history h) (world_of view last)
    taken_leads first takes_nothing = nothing
    taken_leads first {last} (takes_more {h = h} {x = x} a e t one) =
        let c = process_of first in
        let does : does c (world_of view x) (happening t.shut e) ≡ (world_of view last, t.answer) =
        subst (λ p. does p (world_of view x) (happening t.shut e) ≡ (world_of view last, t.answer)) (same_process a) one.does in
        subst (λ l. Leads c (world_of view first) l (world_of view last)) (sym (map-append told_as h ((e, t) ∷ [])))
        (subst (λ (r : World × Answer). Leads c (world_of view first) (history h ++ (happening t.shut e, r.1) ∷ []) r.0) does
        (one_more (taken_leads first a) (happening t.shut e)))

    -- what no call and no command undoes holds from the first host to the last
    module _ (keeps : X → X → Type 0) (stays : (x : X) → keeps x x) (on : (x y z : X) → keeps x y → keeps y z → keeps x z)
        (calls : (x y : X) → goes x y → keeps x y) (commands : (x : X) (c : C) (y : X) → leaves x c y → keeps x y) where
      pub host_keeps : (c : Option C) (asks : List Call) (x y : X) → HostAfter view makes goes declines leaves x c asks y → keeps x y
      host_keeps None asks x y h = calls x y h.1
      host_keeps (Some c) asks x y h = left (declines x c) h
        where
          left : (f : Option Fault) → Controlled f leaves x c y → keeps x y
          left None l = commands x c y l
          left (Some f) l = subst (keeps x) (sym l) (stays x)

      pub taken_keeps : {first last : Competition X} {h : List (Event C × Taken)} → TakesSo first h last → keeps first.host last.host
      taken_keeps {first} takes_nothing = stays first.host
      taken_keeps {first} {last} (takes_more {x = x} a e t one) =
          on first.host x.host last.host (taken_keeps a) (host_keeps (command_of e) _ x.host last.host one.host)
