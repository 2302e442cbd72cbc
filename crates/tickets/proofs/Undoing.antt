-- One undo more of those that go down the rows. Assumes nothing.
use Rattle.std.proofs.Common.{◌≡◌, ℕ, suc, ◌-◌, ◌≤◌, Bool, true, false, cond, List, [], ◌∷◌, ◌++◌, Some, None, Ok, Err, Option, Result, sym, refl, ap, ◌∙◌, subst, append_assoc, arith}
use Rattle.std.proofs.lemmas.List.{append-nil}
use Rattle.values.specs.Checks.{answer, after}
use Rattle.values.specs.declared.Fault.{Fault}
use Rattle.values.specs.declared.RowState.TheVariants.{Undone}
use Rattle.values.specs.declared.TicketNumber.{TicketNumber}
use Rattle.host.specs.Made.{Made, none, more}
use Rattle.host.specs.View.{View}
use Rattle.host.specs.declared.calls.Call.{Call}
use Rattle.model.specs.Rows.{Rows, marked}
use Rattle.model.specs.Sheet.{Sheet, with_rows}
use Rattle.sheet.specs.Asked.{undo_asks}
use Rattle.sheet.specs.Tickets.{Undoes}
use Rattle.sheet.specs.declared.ticket.Ticket.{Ticket}
use Rattle.tickets.specs.Endings.{Holds}
use Rattle.tickets.specs.Rollbacks.{CameTo, ComesTo, undone, stops, undone_down, undone_down_asks}

-- ── calls after calls ──

module _ {X : Type 0} (view : X → View) (makes : X → Call → Result (Unit {0}) Fault → X → Type 0) where
  pub made_then : {x y z : X} {cs ds : List Call} → Made view makes x cs y → Made view makes y ds z → Made view makes x (cs ++ ds) z
  made_then {x} {y} {z} {cs} made none = subst (λ l. Made view makes x l y) (sym (append-nil cs)) made
  made_then {x} {y} {z} {cs} made (more {cs = es} rest c done) =
      subst (λ l. Made view makes x l z) (append_assoc cs es (c ∷ [])) (more (made_then made rest) c done)

-- ── one undo more ──

-- the fault that an answer has
abbrev pub fault_in : Result (Unit {0}) Fault → Option Fault
fault_in (Ok u) = None
fault_in (Err f) = Some f

fault_told : (f : Option Fault) (r : Result (Unit {0}) Fault) → r ≡ answer f tt → f ≡ fault_in r
fault_told None r e = ap fault_in (sym e)
fault_told (Some f) r e = ap fault_in (sym e)

pub same_outcome : {o o' : CameTo} {r : Result (Unit {0}) Fault} {s' : Sheet} {v' : View} → o ≡ o' → ComesTo o' r s' v' → ComesTo o r s' v'
same_outcome {r = r} {s' = s'} {v' = v'} same h = subst (λ o. ComesTo o r s' v') (sym same) h

-- a ticket of the rollback under way is so after an undo, no matter whether that changed a row or was declined
held_after : (f : Option Fault) (ticket : Ticket) (s : Sheet) (r : Rows) → Holds ticket s → Holds ticket (after f s (with_rows s r))
held_after None ticket s r h = record { number = h.number; under_way = h.under_way }
held_after (Some fault) ticket s r h = h

module _ (s : Sheet) (v : View) (t : TicketNumber) (row column line : ℕ) where
  -- no row is left
  pub all_done : row ≡ 0 → undone_down row s v t column line ≡ (None, s, v)
  unfolding undone_down
  all_done end = ap (λ k. undone_down k s v t column line) end

  pub all_made : {X : Type 0} (view : X → View) (makes : X → Call → Result (Unit {0}) Fault → X → Type 0) (x : X)
      → row ≡ 0 → Made view makes x (undone_down_asks row s v t column line) x
  unfolding undone_down_asks
  all_made view makes x end = subst (λ k. Made view makes x (undone_down_asks k s v t column line) x) (sym end) none

  -- what the undo of the row comes to, and what is still to come after it
  abbrev one : CameTo
  one = undone s v t row column line

  abbrev rest : CameTo
  rest = undone_down (row - 1) one.1 one.2 t column line

  abbrev rest_asks : List Call
  rest_asks = undone_down_asks (row - 1) one.1 one.2 t column line

  module _ (low : 1 ≤ row) where
    is : suc (row - 1) ≡ row
    is = omega (arith, low)

    down : undone_down row s v t column line ≡ cond (stops one.0) one rest
    unfolding undone_down
    down = subst (λ k. undone_down k s v t column line ≡ cond (stops (undone s v t k column line).0) (undone s v t k column line)
        (undone_down (row - 1) (undone s v t k column line).1 (undone s v t k column line).2 t column line)) is refl

    asks : undone_down_asks row s v t column line ≡ undo_asks s t row column line ++ cond (stops one.0) [] rest_asks
    unfolding undone_down_asks
    asks = subst (λ k. undone_down_asks k s v t column line ≡ undo_asks s t k column line ++ cond (stops (undone s v t k column line).0) []
        (undone_down_asks (row - 1) (undone s v t k column line).1 (undone s v t k column line).2 t column line)) is refl

    -- the row's undo was made, in memory of those lengths
    module _ {a b : ℕ} (wide : a ≡ column) (long : b ≡ line) {r : Result (Unit {0}) Fault} {s' : Sheet} {v' : View}
        (made_so : Undoes s v t row a b r s' v') where
      come : Undoes s v t row column line r s' v'
      come = coe 0 1 (i. Undoes s v t row (wide i) (long i) r s' v') made_so

      pub holding : (ticket : Ticket) → Holds ticket s → Holds ticket s'
      holding ticket h = subst (Holds ticket) (sym come.sheet) (held_after one.0 ticket s (marked s.rows row Undone) h)

      stops_so : (halts : Bool) → stops (fault_in r) ≡ halts → stops one.0 ≡ halts
      stops_so halts so = ap stops (fault_told one.0 r come.answers) ∙ so

      -- it goes on with the row below, or stops there
      pub going : stops (fault_in r) ≡ false → undone_down row s v t column line ≡ undone_down (row - 1) s' v' t column line
      going so =
          down ∙ ap (λ halts. cond halts one rest) (stops_so false so)
          ∙ (λ i. undone_down (row - 1) (sym come.sheet i) (sym come.host i) t column line)

      pub stopping : stops (fault_in r) ≡ true → ComesTo (undone_down row s v t column line) r s' v'
      stopping so =
          same_outcome (down ∙ ap (λ halts. cond halts one rest) (stops_so true so))
          (record { answers = come.answers; sheet = come.sheet; host = come.host })

      module _ {X : Type 0} (view : X → View) (makes : X → Call → Result (Unit {0}) Fault → X → Type 0) {x y : X}
          (made : Made view makes x (undo_asks s t row a b) y) where
        made_one : Made view makes x (undo_asks s t row column line) y
        made_one = coe 0 1 (i. Made view makes x (undo_asks s t row (wide i) (long i)) y) made

        pub made_going : stops (fault_in r) ≡ false → {z : X} → Made view makes y (undone_down_asks (row - 1) s' v' t column line) z
            → Made view makes x (undone_down_asks row s v t column line) z
        made_going so {z} more_made =
            subst (λ cs. Made view makes x cs z)
            (sym (asks ∙ ap (λ halts. undo_asks s t row column line ++ cond halts [] rest_asks) (stops_so false so)
            ∙ (λ i. undo_asks s t row column line ++ undone_down_asks (row - 1) (sym come.sheet i) (sym come.host i) t column line)))
            (made_then view makes made_one more_made)

        pub made_stopping : stops (fault_in r) ≡ true → Made view makes x (undone_down_asks row s v t column line) y
        made_stopping so =
            subst (λ cs. Made view makes x cs y)
            (sym (asks ∙ ap (λ halts. undo_asks s t row column line ++ cond halts [] rest_asks) (stops_so true so)))
            (made_then view makes made_one none)
