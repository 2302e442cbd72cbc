-- The fault that stands first in the bytes: all before it is good. Assumes nothing.
use Rattle.std.specs.Prelude.{◌≡◌, ℕ, ◌-◌, ◌<◌, ◌≤◌, List, [], ◌∷◌, ◌++◌, length, Some, None, Option}
use Rattle.values.specs.Checks.{first_fault}
use Rattle.values.specs.declared.Cause.TheVariants.{WrongStep}
use Rattle.values.specs.declared.Layer.TheVariants.{Reader}
use Rattle.values.specs.declared.Fault.{Fault}
use Rattle.process.specs.declared.parts.Arrow.{Arrow}
use Rattle.process.specs.declared.cursor.Cursor.{Cursor}
use Rattle.process.specs.Stored.{Plan, All, Nameable, Placed, Rising, no_arrow, form_of, stored, Formed}
use Rattle.process.specs.Reading.{start, no_plan, expected, checks, FirstUnfit}

-- the last arrow, or `none` where there is none
abbrev pub last_of : Arrow → List Arrow → Arrow
last_of none [] = none
last_of none (a ∷ zs) = last_of a zs

-- the last arrow, if there is one
abbrev pub last_in : List Arrow → Option Arrow
last_in [] = None
last_in (a ∷ zs) = Some (last_of a zs)

-- some steps of n, and then, once all steps are there, some arrows of m, without fault
pub record SoFar (n m : ℕ) (p : Plan) : Type 0 where
  pub some_steps : 1 ≤ n
  pub few_steps : n ≤ 64
  pub few_arrows : m ≤ 512
  pub steps_in : length p.steps ≤ n
  pub arrows_in : length p.arrows ≤ m
  pub steps_first : length p.steps < n → p.arrows ≡ []
  pub named : All Nameable p.steps
  pub placed : All (Placed n) p.arrows
  pub rising : Rising no_arrow p.arrows

-- where the reader stands after them
abbrev pub cursor_after : ℕ → ℕ → Plan → Cursor
cursor_after n m p = record {
  place = length (form_of n m p);
  progress = Some (record {
    steps = n;
    steps_left = n - length p.steps;
    arrows_left = m - length p.arrows;
    last = last_in p.arrows;
  });
}

-- the bytes xs begin with the stored form of p, which is without fault; `rest` is left
pub data Front (xs : List ℕ) : List ℕ → Cursor → Plan → Type 0 where
  nothing_read : Front xs xs start no_plan
  read_so_far : {rest : List ℕ} {p : Plan} (n m : ℕ) → SoFar n m p → xs ≡ form_of n m p ++ rest
      → Front xs rest (cursor_after n m p) p

-- f is the first fault that stands in xs: in a record before which all is without fault; or, where all records are,
-- the lowest step that has too many arrows or is not reached
pub data FirstFault (xs : List ℕ) : Fault → Type 0 where
  in_record : {rest : List ℕ} {c : Cursor} {p : Plan} {f : Fault} → Front xs rest c p
      → first_fault (checks (expected c) rest c) ≡ Some f → FirstFault xs f
  in_step : {p : Plan} {k : ℕ} → Formed p → xs ≡ stored p → FirstUnfit p.arrows (length p.steps) k
      → FirstFault xs (record { cause = WrongStep; layer = Reader; place = k })
