-- The stored form of a process, and which processes are sound. Assumes nothing.
use Rattle.std.specs.Prelude.{◌≡◌, ℕ, ◌-◌, ◌<◌, ◌≤◌, Bool, cond, ◌⊎◌, List, [], ◌∷◌, ◌++◌, length, count_by, nat_eq, slice_index_or}
use Rattle.values.specs.Numbers.{kind_number, flow_number}
use Rattle.graph.specs.Reach.{Within, Start, Reached}
use Rattle.process.specs.declared.parts.Step.{Step}
use Rattle.process.specs.declared.parts.Arrow.{Arrow}
use Rattle.process.specs.Bits.{pack, unpack, two_bytes, four_bytes}

-- a step and its name
pub record Named : Type 0 where
  pub step : Step
  pub name : List ℕ

-- a process; the first in the list of its steps is step 1
pub record Plan : Type 0 where
  pub steps : List Named
  pub arrows : List Arrow

-- the widths of the fields of each record
abbrev pub header_widths : List ℕ
header_widths = 8 ∷ 7 ∷ 10 ∷ 7 ∷ []

abbrev pub step_widths : List ℕ
step_widths = 1 ∷ 1 ∷ 1 ∷ 1 ∷ 1 ∷ 2 ∷ 5 ∷ 4 ∷ []

abbrev pub arrow_widths : List ℕ
arrow_widths = 6 ∷ 6 ∷ 4 ∷ []

abbrev pub bit : Bool → ℕ
bit b = cond b 1 0

-- form number, steps, arrows, spare
abbrev pub header_fields : ℕ → ℕ → List ℕ
header_fields steps arrows = 1 ∷ steps ∷ arrows ∷ 0 ∷ []

-- savepoint, counterpart, private, entry, exit, kind, name length, spare
abbrev pub step_fields : Named → List ℕ
step_fields s =
    bit s.step.savepoint ∷ bit s.step.counterpart ∷ bit s.step.private
    ∷ flow_number s.step.entry ∷ flow_number s.step.exit ∷ kind_number s.step.kind ∷ length s.name ∷ 0 ∷ []

-- the two steps, counted from 0, and spare bits
abbrev pub arrow_fields : Arrow → List ℕ
arrow_fields a = (a.from - 1) ∷ (a.to - 1) ∷ 0 ∷ []

abbrev pub header_form : ℕ → ℕ → List ℕ
header_form steps arrows = unpack four_bytes (pack header_widths (header_fields steps arrows))

abbrev pub step_form : Named → List ℕ
step_form s = unpack two_bytes (pack step_widths (step_fields s)) ++ s.name

abbrev pub arrow_form : Arrow → List ℕ
arrow_form a = unpack two_bytes (pack arrow_widths (arrow_fields a))

abbrev pub steps_form : List Named → List ℕ
steps_form [] = []
steps_form (s ∷ ss) = step_form s ++ steps_form ss

abbrev pub arrows_form : List Arrow → List ℕ
arrows_form [] = []
arrows_form (a ∷ zs) = arrow_form a ++ arrows_form zs

-- a header for so many steps and arrows, each step with its name, each arrow
abbrev pub form_of : ℕ → ℕ → Plan → List ℕ
form_of n m p = header_form n m ++ (steps_form p.steps ++ arrows_form p.arrows)

-- the stored form
abbrev pub stored : Plan → List ℕ
stored p = form_of (length p.steps) (length p.arrows) p

-- a name has 1 to 31 bytes
abbrev pub Nameable : Named → Type 0
Nameable s = (1 ≤ length s.name) × (length s.name ≤ 31)

-- an arrow of a process of n steps: both ends are steps, and none leads into step 1
pub record Placed (n : ℕ) (a : Arrow) : Type 0 where
  pub from_low : 1 ≤ a.from
  pub from_high : a.from ≤ n
  pub to_low : 2 ≤ a.to
  pub to_high : a.to ≤ n

-- the first comes before the second: by the step that it leaves, and else by the one that it enters
abbrev pub Before : Arrow → Arrow → Type 0
Before a b = (a.from < b.from) ⊎ ((a.from ≡ b.from) × (a.to < b.to))

abbrev pub All : {X : Type 0} → (X → Type 0) → List X → Type 0
All P [] = Unit {0}
All P (x ∷ xs) = P x × All P xs

-- each arrow comes after the one before it, and the first after `last`
abbrev pub Rising : Arrow → List Arrow → Type 0
Rising last [] = Unit {0}
Rising last (a ∷ zs) = Before last a × Rising a zs

-- no arrow: every arrow comes after it
abbrev pub no_arrow : Arrow
no_arrow = record { from = 0; to = 0 }

-- an end of an arrow: where it leaves, or where it leads
pub data End : Type 0 where
  Tail : End
  Head : End

abbrev pub end_of : End → Arrow → ℕ
end_of Tail a = a.from
end_of Head a = a.to

-- how many arrows have that end at step k
abbrev pub ends_at : End → List Arrow → ℕ → ℕ
ends_at e zs k = count_by (λ a. nat_eq (end_of e a) k) zs

-- an arrow of the list leads from step j to step k, both of them among n steps
pub record Leads (zs : List Arrow) (n j k : ℕ) : Type 0 where
  pub place : ℕ
  pub inside : place < length zs
  pub from_is : (slice_index_or zs place no_arrow).from ≡ j
  pub to_is : (slice_index_or zs place no_arrow).to ≡ k
  pub from_step : Within n j
  pub to_step : Within n k

-- arrows lead from step 1 to step k, or it is step 1
abbrev pub Reachable : List Arrow → ℕ → ℕ → Type 0
Reachable zs n k = Reached (Leads zs n) (Start n (1 ∷ [])) k

-- neither more than 8 arrows leave step k nor more than 8 enter it, and it is reached
pub record Fine (zs : List Arrow) (n k : ℕ) : Type 0 where
  pub out_few : ends_at Tail zs k ≤ 8
  pub in_few : ends_at Head zs k ≤ 8
  pub reached : Reachable zs n k

-- a process that has a stored form
pub record Formed (p : Plan) : Type 0 where
  pub some_steps : 1 ≤ length p.steps
  pub few_steps : length p.steps ≤ 64
  pub named : All Nameable p.steps
  pub few_arrows : length p.arrows ≤ 512
  pub placed : All (Placed (length p.steps)) p.arrows
  pub rising : Rising no_arrow p.arrows

-- a sound process: each of its steps is fine too
pub record Sound (p : Plan) : Type 0 where
  pub formed : Formed p
  pub fine : (k : ℕ) → Within (length p.steps) k → Fine p.arrows (length p.steps) k
