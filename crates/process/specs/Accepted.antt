-- What reading a stored process answers, in the words of the stored form. Assumes nothing.
use Rattle.std.specs.Prelude.{◌≡◌, ℕ, Bool, true, false, ◌&&◌, List, IfOk, IfErr, Err, vec_items, Result, MatchResult, nat_le}
use Rattle.values.specs.declared.Cause.TheVariants.{ShortMemory}
use Rattle.values.specs.declared.Layer.TheVariants.{Reader}
use Rattle.values.specs.declared.Fault.{Fault}
use Rattle.graph.specs.Column.{Wiped}
use Rattle.process.specs.declared.parts.Step.{Step}
use Rattle.process.specs.declared.parts.Arrow.{Arrow}
use Rattle.process.specs.declared.accepted.Process.{Process}
use Rattle.process.specs.Stored.{Plan, stored, Sound}
use Rattle.process.specs.Drafts.{bare_plan}
use Rattle.process.specs.Front.{FirstFault}

-- the steps of an accepted process, without their names, and its arrows
abbrev pub tables_of : Process → List Step × List Arrow
tables_of q = (vec_items q.steps, vec_items q.arrows)

-- the bytes are the stored form of a sound process, and q holds it
pub record StandsFor (xs : List ℕ) (q : Process) : Type 0 where
  pub plan : Plan
  pub sound : Sound plan
  pub bytes : xs ≡ stored plan
  pub holds : tables_of q ≡ bare_plan plan

-- the one answer for the bytes xs
pub record Reading (xs : List ℕ) (r : Result Process Fault) : Type 0 where
  -- whatever is accepted is the stored form of what it gives
  pub accepted : IfOk r (StandsFor xs)
  -- the stored form of a sound process gives that process back
  pub gives_back : (p : Plan) → Sound p → xs ≡ stored p → MatchResult r (λ q. tables_of q ≡ bare_plan p) (λ _. ⊥)
  -- a fault is the first one that stands
  pub declined : IfErr r (FirstFault xs)
  -- the first fault that stands is the answer
  pub faults : (f : Fault) → FirstFault xs f → r ≡ Err f

-- whether a column and a line of these lengths are as long as reading wants them
abbrev pub enough : ℕ → ℕ → Bool
enough column line = nat_le 257 column && nat_le 256 line

-- the fault where it is shorter
abbrev pub short_memory : Fault
short_memory = record { cause = ShortMemory; layer = Reader; place = 0 }

-- what reading leaves of the column: the same bytes, if the memory was too short; else its marks are zeros
abbrev pub Left : Bool → List ℕ → List ℕ → Type 0
Left true before after = Wiped before after
Left false before after = after ≡ before
