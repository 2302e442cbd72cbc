-- What a sheet is in the model, and its process. Assumes nothing.
use Rattle.process.specs.Accepted.{tables_of}
use Rattle.model.specs.Chart.{Chart}
use Rattle.model.specs.Sheet.{Sheet as Columns}
use Rattle.sheet.specs.declared.sheets.Sheet.{Sheet}
use Rattle.sheet.specs.Parts.{sheet_from}

abbrev pub sheet_of : Sheet → Columns
sheet_of s = sheet_from s.table s.phase s.rollback s.serial s.mode

abbrev pub chart_of : Sheet → Chart
chart_of s = tables_of s.process
