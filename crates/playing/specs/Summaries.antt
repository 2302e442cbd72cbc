-- What a summary says. Assumes nothing.
use Rattle.std.specs.Prelude.{ℕ, ℤ, List, map, Option, vec_items, string_bytes, Vec}
use Rattle.std.specs.List.{zip}
use Rattle.std.specs.declared.alloc.Global.{Global}
use Rattle.values.specs.declared.Phase.{Phase}
use Rattle.values.specs.declared.RowState.{RowState}
use Rattle.model.specs.Summaries.{Counts, Summary as OfSheet}
use Rattle.sheet.specs.Summaries.{counts_told}
use Rattle.playing.specs.declared.summary.CallCounts.{CallCounts}
use Rattle.playing.specs.declared.summary.StepLine.{StepLine}
use Rattle.playing.specs.declared.summary.Summary.{Summary}

-- a step's name as it is printed, and how the step stands
abbrev pub line_shown : StepLine → List ℕ × Option RowState
line_shown s = (string_bytes s.name, s.standing)

abbrev pub lines_shown : Vec StepLine Global → List (List ℕ × Option RowState)
lines_shown v = map line_shown (vec_items v)

pub record SummaryShown : Type 0 where
  pub calls : CallCounts
  pub phase : Phase
  pub rollbacks : ℕ
  pub rows : Counts
  pub steps : List (List ℕ × Option RowState)
  pub balance : Option ℤ

abbrev pub summary_shown : Summary → SummaryShown
summary_shown x = record {
  calls = x.calls;
  phase = x.phase;
  rollbacks = x.rollbacks;
  rows = counts_told x.rows;
  steps = lines_shown x.steps;
  balance = x.balance;
}

-- that of a run with so many calls that ends with such a sheet, of a process whose steps have these names
abbrev pub joined : CallCounts → OfSheet → List (List ℕ) → Option ℤ → SummaryShown
joined calls s names balance = record {
  calls = calls;
  phase = s.phase;
  rollbacks = s.rollbacks;
  rows = s.rows;
  steps = zip names s.standings;
  balance = balance;
}
