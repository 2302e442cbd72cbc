-- What the tables hold of the process that is read. Assumes nothing.
use Rattle.std.specs.Prelude.{◌≡◌, ℕ, ◌+◌, ◌≤◌, List, [], ◌∷◌, ◌++◌, map, Ok, vec_items, vec_len}
use Rattle.process.specs.declared.parts.Step.{Step}
use Rattle.process.specs.declared.parts.Arrow.{Arrow}
use Rattle.process.specs.declared.tables.Draft.{Draft}
use Rattle.process.specs.Stored.{Plan, Sound}
use Rattle.process.specs.Reading.{Record, header, step, arrow, Scan}

-- the steps without their names, and the arrows
abbrev pub bare_plan : Plan → List Step × List Arrow
bare_plan p = (map (λ s. s.step) p.steps, p.arrows)

abbrev pub bare : Draft → List Step × List Arrow
bare d = (vec_items d.steps, vec_items d.arrows)

-- with one record more
abbrev pub bare_with : List Step × List Arrow → Record → List Step × List Arrow
bare_with t (header n m) = t
bare_with t (step s place) = (t.0 ++ s.step ∷ [], t.1)
bare_with t (arrow a) = (t.0, t.1 ++ a ∷ [])

-- a record adds a step, or an arrow, or neither
abbrev pub step_more : Record → ℕ
step_more (header n m) = 0
step_more (step s p) = 1
step_more (arrow a) = 0

abbrev pub arrow_more : Record → ℕ
arrow_more (header n m) = 0
arrow_more (step s p) = 0
arrow_more (arrow a) = 1

-- there is room for the record
abbrev pub RoomFor : Record → Draft → Type 0
RoomFor i d = (vec_len d.steps + step_more i ≤ 64) × (vec_len d.arrows + arrow_more i ≤ 512)

-- the tables hold the process that the bytes give, read to the end
pub record Filled (xs : List ℕ) (d : Draft) : Type 0 where
  pub plan : Plan
  pub scan : Scan xs (Ok plan)
  pub holds : bare d ≡ bare_plan plan

-- the tables hold a sound process
pub record SoundDraft (d : Draft) : Type 0 where
  pub plan : Plan
  pub sound : Sound plan
  pub holds : bare d ≡ bare_plan plan
