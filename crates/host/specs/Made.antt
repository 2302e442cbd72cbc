-- Calls made on a host, one after another. Assumes nothing.
use Rattle.std.specs.Prelude.{List, [], ◌∷◌, ◌++◌, Result}
use Rattle.values.specs.Checks.{answer}
use Rattle.values.specs.declared.Fault.{Fault}
use Rattle.host.specs.Calls.{fault_of}
use Rattle.host.specs.View.{View}
use Rattle.host.specs.Views.{Called}
use Rattle.host.specs.declared.calls.Call.{Call}

-- the calls of a list are made, also after a declined one; each gets the answer that goes with what the host shows, and makes of the
-- host what the host itself says
pub data Made {X : Type 0} (view : X → View) (makes : X → Call → Result (Unit {0}) Fault → X → Type 0) (first : X) : List Call → X → Type 0 where
  none : Made view makes first [] first
  more : {cs : List Call} {x y : X} → Made view makes first cs x → (c : Call) → Called view makes x c (answer (fault_of (view x) c) tt) y
      → Made view makes first (cs ++ c ∷ []) y
