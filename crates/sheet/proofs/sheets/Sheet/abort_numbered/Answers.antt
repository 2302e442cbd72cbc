-- The memory first, and then the checks of abort.
use Rattle.std.proofs.Common.{[], length, refl, rules}
use Rattle.values.specs.Checks.{first_fault}
use Rattle.model.specs.Calls.{memory_check}
use Rattle.sheet.specs.Calls.{abort_own_checks}
use Rattle.sheet.specs.SheetOf.{sheet_of}
use Rattle.sheet.specs.Asked.{unless, drops}
use Rattle.sheet.proofs.Asking.{not_asked, asked}
use Rattle.sheet.proofs.Clearing.{left_cleared}
use Rattle.sheet.proofs.Comings.{own_declines, passed_first}
use Rattle.sheet.proofs.sheets.Sheet.abort_numbered.Goals as goal

pub returns-in_err-may_abort-clause-comes : goal.returns-in_err-may_abort-clause-comes
returns-in_err-may_abort-clause-comes g c =
    let own = abort_own_checks (sheet_of c.args.self.now) (g.X.Host.view c.args.host.now) c.args.mode in
    passed_first (memory_check (length c.args.column.now) (length c.args.line.now)) own c.in_ok-wants_memory.ensures
    (own_declines own [] c.in_err-may_abort.ensures (search rules) refl refl)

pub returns-in_err-may_abort-clause-column : goal.returns-in_err-may_abort-clause-column
returns-in_err-may_abort-clause-column g c = left_cleared c.args.column.now (length c.args.line.now) (search rules)

pub returns-clause-column : goal.returns-clause-column
returns-clause-column g c = left_cleared c.args.column.now (length c.args.line.now) (search rules)

pub returns-in_err-wants_memory-clause-made : goal.returns-in_err-wants_memory-clause-made
returns-in_err-wants_memory-clause-made g c =
    let s = sheet_of c.args.self.now in
    let view = g.X.Host.view in
    let makes = g.X.Host.makes in
    let host = c.args.host.now in
    let memory = memory_check (length c.args.column.now) (length c.args.line.now) in
    let own = first_fault (abort_own_checks s (view host) c.args.mode) in
    not_asked view makes memory (unless own (drops s.rows)) host c.in_err-wants_memory.ensures

pub returns-in_err-may_abort-clause-made : goal.returns-in_err-may_abort-clause-made
returns-in_err-may_abort-clause-made g c =
    let s = sheet_of c.args.self.now in
    let view = g.X.Host.view in
    let makes = g.X.Host.makes in
    let host = c.args.host.now in
    let memory = memory_check (length c.args.column.now) (length c.args.line.now) in
    let own = first_fault (abort_own_checks s (view host) c.args.mode) in
    asked view makes memory (unless own (drops s.rows)) host host c.in_ok-wants_memory.ensures
    (not_asked view makes own (drops s.rows) host c.in_err-may_abort.ensures)

pub returns-clause-made : goal.returns-clause-made
returns-clause-made g c =
    let s = sheet_of c.args.self.now in
    let view = g.X.Host.view in
    let makes = g.X.Host.makes in
    let host = c.args.host.now in
    let memory = memory_check (length c.args.column.now) (length c.args.line.now) in
    let own = first_fault (abort_own_checks s (view host) c.args.mode) in
    asked view makes memory (unless own (drops s.rows)) host c.roll_back.new.host c.in_ok-wants_memory.ensures
    (asked view makes own (drops s.rows) host c.roll_back.new.host c.in_ok-may_abort.ensures c.roll_back.ensures.made)
