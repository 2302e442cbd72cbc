-- One call more that was made on a host. Assumes nothing.
use Rattle.std.proofs.Common.{ℕ, ◌+◌, ◌<◌, List, [], ◌∷◌, ◌++◌, get_or, length, take, Result, sym, subst}
use Rattle.std.proofs.lemmas.List.{take_more}
use Rattle.values.specs.Checks.{answer}
use Rattle.values.specs.declared.Fault.{Fault}
use Rattle.host.specs.Calls.{fault_of}
use Rattle.host.specs.Made.{Made, none, more}
use Rattle.host.specs.View.{View}
use Rattle.host.specs.Views.{Called}
use Rattle.host.specs.declared.calls.Call.{Call}

module _ {X : Type 0} (view : X → View) (makes : X → Call → Result (Unit {0}) Fault → X → Type 0) where
  -- the answer of a call is the one that goes with what was shown
  answered : (x : X) (c : Call) (r : Result (Unit {0}) Fault) (y : X) → Called view makes x c r y
      → Called view makes x c (answer (fault_of (view x) c) tt) y
  answered x c r y done = subst (λ a. Called view makes x c a y) done.shows.answers done

  pub made_more : {first : X} {cs : List Call} {x : X} (c : Call) (r : Result (Unit {0}) Fault) (y : X) → Made view makes first cs x
      → Called view makes x c r y → Made view makes first (cs ++ c ∷ []) y
  made_more {x = x} c r y made done = more made c (answered x c r y done)

  pub made_one : (x : X) (c : Call) (r : Result (Unit {0}) Fault) (y : X) → Called view makes x c r y → Made view makes x (c ∷ []) y
  made_one x c r y done = made_more c r y none done

  pub made_next : {first x : X} (cs : List Call) (i : ℕ) (d : Call) (r : Result (Unit {0}) Fault) (y : X) → i < length cs
      → Made view makes first (take i cs) x → Called view makes x (get_or cs i d) r y → Made view makes first (take (i + 1) cs) y
  made_next {first} cs i d r y low made done =
      subst (λ l. Made view makes first l y) (sym (take_more cs i d low)) (made_more (get_or cs i d) r y made done)
