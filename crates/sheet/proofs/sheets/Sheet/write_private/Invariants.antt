use Rattle.sheet.specs.Fields.{ShowsNow}
use Rattle.sheet.proofs.Shown.{hidden_below}
use Rattle.sheet.proofs.sheets.Sheet.write_private.Given as goal

abbrev pub invariant-loop-step : goal.invariant-loop-step
invariant-loop-step l = ShowsNow l.self (hidden_below l.self l.step) l.fn.bytes l.bytes
