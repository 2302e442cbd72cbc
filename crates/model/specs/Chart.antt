-- A process as a sheet needs it: its steps without their names, and its arrows. Assumes nothing.
use Rattle.std.specs.Prelude.{ℕ, ◌-◌, Bool, false, cond, ◌&&◌, List, length, count_by, ◌==◌, nat_eq, nat_le, slice_index_or}
use Rattle.values.specs.declared.Flow.{Flow}
use Rattle.values.specs.declared.Flow.TheVariants.{One, All}
use Rattle.values.specs.declared.Kind.TheVariants.{Score}
use Rattle.process.specs.declared.parts.Step.{Step}
use Rattle.process.specs.declared.parts.Arrow.{Arrow}
use Rattle.model.specs.Search.{any}

-- the steps, of which the first is step 1, and the arrows
abbrev pub Chart : Type 0
Chart = List Step × List Arrow

abbrev pub no_step : Step
no_step = record {
  savepoint = false;
  counterpart = false;
  private = false;
  entry = One;
  exit = One;
  kind = Score;
}

-- step k, and a step without any mark where there is no such step
abbrev pub step_at : Chart → ℕ → Step
step_at c k = cond (k == 0) no_step (slice_index_or c.0 (k - 1) no_step)

abbrev pub has_step : Chart → ℕ → Bool
has_step c k = nat_le 1 k && nat_le k (length c.0)

-- an arrow leads from step j to step k
abbrev pub is_arrow : Chart → ℕ → ℕ → Bool
is_arrow c j k = any (λ a. (a.from == j) && a.to == k) c.1

-- the first for "one", the second for "all"
abbrev pub by_flow : {X : Type 0} → Flow → X → X → X
by_flow One x y = x
by_flow All x y = y

-- how many arrows enter step k
abbrev pub arrows_into : Chart → ℕ → ℕ
arrows_into c k = count_by (λ a. nat_eq a.to k) c.1

-- how many predecessors a row of step k has to have: for step 1 none; else, by its entry, 1 or as many as arrows enter the step
abbrev pub wanted : Chart → ℕ → ℕ
wanted c k = cond (k == 1) 0 (by_flow (step_at c k).entry 1 (arrows_into c k))
