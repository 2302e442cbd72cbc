-- What is checked of a row that is to start, by the model's definitions. Assumes nothing.
use Rattle.std.specs.Prelude.{ℕ, Bool, List, length, Option, ◌==◌}
use Rattle.values.specs.declared.Fault.{Fault}
use Rattle.model.specs.Chart.{Chart, step_at, wanted}
use Rattle.model.specs.Sheet.{Sheet}
use Rattle.model.specs.Calls.{lawful, unfit_at, used_at, start_checks}
use Rattle.sheet.specs.declared.sheets.starts.Candidate.{Candidate}
use Rattle.sheet.specs.SheetOf.{sheet_of, chart_of}

-- the sheet that it would be of, and the process of that sheet
abbrev pub sheet_for : Candidate → Sheet
sheet_for new = sheet_of new.sheet.now

abbrev pub chart_for : Candidate → Chart
chart_for new = chart_of new.sheet.now

-- it has as many predecessors as its step wants
abbrev pub counted : Candidate → Bool
counted new = length new.predecessors.now == wanted (chart_for new) new.step

-- it cannot follow the i-th predecessor
abbrev pub unfit : Candidate → ℕ → Bool
unfit new i = unfit_at (chart_for new) (sheet_for new).rows new.step new.predecessors.now i

-- the exit of the i-th predecessor is used
abbrev pub used : Candidate → ℕ → Bool
used new i = used_at (chart_for new) (sheet_for new).rows new.step new.predecessors.now i

-- its entry is lawful
abbrev pub fair : Candidate → Bool
fair new = lawful (step_at (chart_for new) new.step) new.entry

-- the sheet's own checks
abbrev pub checks : Candidate → List (Option Fault)
checks new = start_checks (chart_for new) (sheet_for new) new.step new.predecessors.now (fair new)
