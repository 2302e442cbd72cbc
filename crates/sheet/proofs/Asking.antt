-- What the host was asked: nothing, where a check fails, and else what the call asks. Assumes nothing.
use Rattle.std.proofs.Common.{◌≡◌, List, [], ◌∷◌, Option, Result, sym, subst}
use Rattle.values.specs.declared.Fault.{Fault}
use Rattle.host.specs.Made.{Made, none}
use Rattle.host.specs.View.{View}
use Rattle.host.specs.Views.{Called}
use Rattle.host.specs.declared.calls.Call.{Call}
use Rattle.host.proofs.Made.{made_one}
use Rattle.sheet.specs.Asked.{unless}
use Rattle.sheet.proofs.Comings.{Passes, Fails, none_stands, one_stands}

module _ {X : Type 0} (view : X → View) (makes : X → Call → Result (Unit {0}) Fault → X → Type 0) (f : Option Fault) where
  pub not_asked : (cs : List Call) (x : X) {e : Fault} → Fails f e → Made view makes x (unless f cs) x
  not_asked cs x {e} fails = subst (λ g. Made view makes x (unless g cs) x) (sym (one_stands f e fails)) none

  pub asked : (cs : List Call) (x y : X) → Passes f → Made view makes x cs y → Made view makes x (unless f cs) y
  asked cs x y passes made = subst (λ g. Made view makes x (unless g cs) y) (sym (none_stands f passes)) made

  pub asked_one : (c : Call) (x y : X) (r : Result (Unit {0}) Fault) → Passes f → Called view makes x c r y
      → Made view makes x (unless f (c ∷ [])) y
  asked_one c x y r passes done = asked (c ∷ []) x y passes (made_one view makes x c r y done)

-- a host that is not called
pub still : {X : Type 0} (view : X → View) (makes : X → Call → Result (Unit {0}) Fault → X → Type 0) (goes : X → X → Type 0)
    → ((x : X) → goes x x) → (x y : X) → y ≡ x → Made view makes x [] y × goes x y
still view makes goes stays x y same = subst (λ z. Made view makes x [] z × goes x z) (sym same) (none, stays x)
