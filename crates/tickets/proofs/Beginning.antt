-- A call that is to bring a rollback under way, and then the rest. Assumes nothing.
use Rattle.std.proofs.Common.{◌≡◌, ℕ, List, ◌++◌, Some, None, Ok, Err, Option, Result, sym, refl, subst}
use Rattle.values.specs.Checks.{answer, after}
use Rattle.values.specs.declared.Fault.{Fault}
use Rattle.values.specs.declared.Mode.{Mode}
use Rattle.values.specs.declared.TicketNumber.{TicketNumber}
use Rattle.host.specs.Made.{Made, none}
use Rattle.host.specs.View.{View}
use Rattle.host.specs.declared.calls.Call.{Call}
use Rattle.model.specs.Calls.{abort_fault, all_dropped}
use Rattle.model.specs.Chart.{Chart}
use Rattle.model.specs.Sheet.{Sheet, aborted}
use Rattle.sheet.specs.Asked.{unless}
use Rattle.sheet.specs.Calls.{Comes}
use Rattle.sheet.specs.Tickets.{Aborts}
use Rattle.sheet.specs.declared.ticket.Ticket.{Ticket}
use Rattle.tickets.specs.Endings.{Holds, Through, RollbackEnds}
use Rattle.tickets.specs.Rollbacks.{CameTo, ComesTo}
use Rattle.tickets.proofs.Undoing.{made_then}

-- ── accepted or declined ──

module _ {X : Type 0} {x : X} {s new s' : Sheet} {v moved v' : View} where
  accepted : {y : X} (f : Option Fault) → Comes f x s new v moved (Ok y) s' v' → (f ≡ None) × (s' ≡ new) × (v' ≡ moved) × (y ≡ x)
  accepted None h = let told = h.answers in (refl, h.sheet, h.host, cc)
  accepted (Some f) h = let told = h.answers in cc

  declined : {g : Fault} (f : Option Fault) → Comes f x s new v moved (Err g) s' v' → (f ≡ Some g) × (s' ≡ s) × (v' ≡ v)
  declined None h = let told = h.answers in cc
  declined (Some f) h = let told = h.answers in (cc, h.sheet, h.host)

-- an abort in memory of these lengths
module _ (c : Chart) (s : Sheet) (v : View) (m : Mode) {a b column line : ℕ} (wide : a ≡ column) (long : b ≡ line)
    {s' : Sheet} {v' : View} where
  pub abort_accepted : {t : Ticket} → Aborts c s v m a b (Ok t) s' v'
      → (abort_fault s v m column line ≡ None) × (s' ≡ aborted c s m) × (v' ≡ all_dropped s.rows v) × Holds t s'
  abort_accepted {t} h =
      let all = accepted (abort_fault s v m column line) (coe 0 1 (i. Aborts c s v m (wide i) (long i) (Ok t) s' v') h) in
      (all.0, all.1, all.2, subst (Holds t) (sym all.1) (record { number = all.3; under_way = refl }))

  pub abort_declined : {g : Fault} → Aborts c s v m a b (Err g) s' v' → (abort_fault s v m column line ≡ Some g) × (s' ≡ s) × (v' ≡ v)
  abort_declined {g} h = declined (abort_fault s v m column line) (coe 0 1 (i. Aborts c s v m (wide i) (long i) (Err g) s' v') h)

pub resume_declined : (f : Option Fault) (n : TicketNumber) {g : Fault} → ◌≡◌ {A = Result TicketNumber Fault} (Err g) (answer f n)
    → f ≡ Some g
resume_declined None n told = cc
resume_declined (Some f) n told = cc

-- ── and then the rest ──

pub comes_declined : (f : Option Fault) {g : Fault} (s : Sheet) (v : View) (o : CameTo)
    {r : Result (Unit {0}) Fault} {s' : Sheet} {v' : View}
    → f ≡ Some g → r ≡ Err g → s' ≡ s → v' ≡ v → ComesTo (after f (f, s, v) o) r s' v'
comes_declined f {g} s v o {r} {s'} {v'} is answers sheet host =
    subst (λ f. ComesTo (after f (f, s, v) o) r s' v') (sym is) (record { answers = answers; sheet = sheet; host = host })

pub ends_declined : (f : Option Fault) {g : Fault} (s begun : Sheet) {s' : Sheet} {r : Result (Unit {0}) Fault}
    → f ≡ Some g → r ≡ Err g → s' ≡ s → RollbackEnds f s begun r s'
ends_declined f s begun {s'} {r} is answers same = subst (λ f. RollbackEnds f s begun r s') (sym is) (answers, same)

pub ends_through : (f : Option Fault) (s begun started s' : Sheet) (r : Result (Unit {0}) Fault)
    → f ≡ None → started ≡ begun → Through started r s' → RollbackEnds f s begun r s'
ends_through f s begun started s' r passed same h =
    subst (λ f. RollbackEnds f s begun r s') (sym passed) (subst (λ b. Through b r s') same h)

module _ {X : Type 0} (view : X → View) (makes : X → Call → Result (Unit {0}) Fault → X → Type 0) {x : X} (f : Option Fault) where
  pub none_made : {g : Fault} (bs : List Call) → f ≡ Some g → Made view makes x (unless f bs) x
  none_made bs is = subst (λ f. Made view makes x (unless f bs) x) (sym is) none

module _ {X : Type 0} (view : X → View) (makes : X → Call → Result (Unit {0}) Fault → X → Type 0) {x y : X} {cs : List Call}
    (f : Option Fault) where
  pub made_alone : {g : Fault} (bs : List Call) → f ≡ Some g → Made view makes x cs y → Made view makes x (cs ++ unless f bs) y
  made_alone bs is made = made_then view makes made (none_made view makes f bs is)

  pub made_both : {bs : List Call} {z : X} → f ≡ None → Made view makes x cs y → Made view makes y bs z
      → Made view makes x (cs ++ unless f bs) z
  made_both {bs = bs} {z = z} passed made rest =
      made_then view makes made (subst (λ f. Made view makes y (unless f bs) z) (sym passed) rest)
