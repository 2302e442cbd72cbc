-- What the reader does with a record whose checks are known. Assumes nothing.
use Rattle.std.proofs.Common.{◌≡◌, ℕ, List, Some, None, Ok, Err, Option, refl, ap, arith}
use Rattle.values.specs.Checks.{first_fault, answer}
use Rattle.values.specs.declared.Fault.{Fault}
use Rattle.process.specs.declared.cursor.Cursor.{Cursor}
use Rattle.process.specs.Reading.{Expected}
use Rattle.process.specs.Reading.{checks, got, next_of}

-- an answer tells whether a check stood, and what was given where none did
pub answer_ok : {A : Type 0} (o : Option Fault) (x y : A) → Ok y ≡ answer o x → (o ≡ None) × (y ≡ x)
answer_ok None x y e = (refl, cc)
answer_ok (Some f) x y e = let z : ◌≡◌ {A = ℕ} 0 1 = cc in absurd (omega arith)

pub answer_err : {A : Type 0} (o : Option Fault) (x : A) (f : Fault) → Err f ≡ answer o x → o ≡ Some f
answer_err None x f e = let z : ◌≡◌ {A = ℕ} 0 1 = cc in absurd (omega arith)
answer_err (Some g) x f e = cc

module _ (e : Expected) (xs : List ℕ) (c : Cursor) where
  pub next_declined : (f : Fault) → first_fault (checks e xs c) ≡ Some f → next_of e xs c ≡ Err f
  next_declined f h = ap (λ o. answer o (got e xs c)) h

  pub next_given : first_fault (checks e xs c) ≡ None → next_of e xs c ≡ Ok (got e xs c)
  next_given h = ap (λ o. answer o (got e xs c)) h
