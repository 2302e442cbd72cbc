-- The memory first, then the checks of undo, and then those of the host.
use Rattle.std.proofs.Common.{[], ◌∷◌, length, sym, ap, refl, ◌∙◌, subst, rules}
use mathlib.Core.Logic.{∥∥₁_map}
use Rattle.values.specs.declared.HostState.TheVariants.{Standing}
use Rattle.values.specs.declared.RowState.TheVariants.{Due, Undone}
use Rattle.values.specs.Checks.{first_fault}
use Rattle.host.specs.Keys.{key_of}
use Rattle.host.specs.declared.calls.Call.TheVariants.{Undo}
use Rattle.host.specs.View.{move_checks}
use Rattle.model.specs.Calls.{memory_check}
use Rattle.model.specs.Rows.{marked}
use Rattle.model.specs.Sheets.{Kept}
use Rattle.model.proofs.Accepted.{undo_due}
use Rattle.model.proofs.Kept.{on_undo}
use Rattle.sheet.specs.Graphs.{HasGraph}
use Rattle.sheet.specs.SheetOf.{sheet_of, chart_of}
use Rattle.sheet.specs.Tickets.{undo_own_checks}
use Rattle.sheet.specs.Asked.{unless}
use Rattle.sheet.proofs.Asking.{not_asked, asked, asked_one}
use Rattle.sheet.proofs.Clearing.{left_cleared}
use Rattle.sheet.proofs.Comings.{own_declines, host_declines, both_accept, passed_first, none_declines, other_rows, put_into}
use Rattle.sheet.proofs.Graphs.{graph_state, graph_put}
use Rattle.sheet.proofs.sheets.Sheet.undo_numbered.Goals as goal

pub returns-in_err-may_undo-clause-comes : goal.returns-in_err-may_undo-clause-comes
returns-in_err-may_undo-clause-comes g c =
    let s = sheet_of c.args.self.now in
    let own = undo_own_checks s c.args.ticket c.args.row in
    let asked = move_checks Standing (g.X.Host.view c.args.host.now) (key_of c.args.row) in
    passed_first (memory_check (length c.args.column.now) (length c.args.line.now)) _ c.in_ok-wants_memory.ensures
    (own_declines own asked c.in_err-may_undo.ensures.checks (search rules) refl refl)

pub returns-in_err-undo-clause-comes : goal.returns-in_err-undo-clause-comes
returns-in_err-undo-clause-comes g c =
    let s = sheet_of c.args.self.now in
    let own = undo_own_checks s c.args.ticket c.args.row in
    let asked = move_checks Standing (g.X.Host.view c.args.host.now) (key_of c.args.row) in
    let b = simp c.row_key.ensures at c.in_err-undo.ensures.does in
    passed_first (memory_check (length c.args.column.now) (length c.args.line.now)) _ c.in_ok-wants_memory.ensures
    (host_declines own asked c.in_ok-may_undo.ensures.checks b.answers (search rules) refl b.shows)

pub invariant_of-self : goal.invariant_of-self
invariant_of-self g c =
    let s = sheet_of c.args.self.now in
    let v = g.X.Host.view c.args.host.now in
    let t = c.args.ticket in
    let k = c.args.row in
    let b = simp c.row_key.ensures at c.in_ok-undo.ensures.does in
    let none = none_declines (undo_own_checks s t k) (move_checks Standing v (key_of k)) c.in_ok-may_undo.ensures.checks b.answers in
    let due = undo_due s v t k 257 256 none in
    let is = other_rows c.args.self.now c.set_state.new.self _
    (c.set_state.ensures.rows ∙ put_into s.rows k Due Undone due refl)
    c.set_state.ensures.rolled in
    record {
      kept = ∥∥₁_map c.args.self.now.kept
          (λ kept. subst Kept (sym is) (on_undo (chart_of c.args.self.now) s v kept t k 257 256 none));
      holds = subst (λ u. HasGraph u c.args.self.now.graph) (sym is)
          (graph_put s c.args.self.now.graph k Undone (ap graph_state due) c.args.self.now.holds (marked s.rows k Undone) refl);
    }

pub returns-clause-comes : goal.returns-clause-comes
returns-clause-comes g c =
    let s = sheet_of c.args.self.now in
    let v = g.X.Host.view c.args.host.now in
    let t = c.args.ticket in
    let k = c.args.row in
    let own = undo_own_checks s t k in
    let asked = move_checks Standing v (key_of k) in
    let b = simp c.row_key.ensures at c.in_ok-undo.ensures.does in
    let none = none_declines own asked c.in_ok-may_undo.ensures.checks b.answers in
    let is = other_rows c.args.self.now c.set_state.new.self _
    (c.set_state.ensures.rows ∙ put_into s.rows k Due Undone (undo_due s v t k 257 256 none) refl)
    c.set_state.ensures.rolled in
    passed_first (memory_check (length c.args.column.now) (length c.args.line.now)) _ c.in_ok-wants_memory.ensures
    (both_accept own asked c.in_ok-may_undo.ensures.checks b.answers refl is b.shows)

pub returns-in_err-may_undo-clause-column : goal.returns-in_err-may_undo-clause-column
returns-in_err-may_undo-clause-column g c = left_cleared c.args.column.now (length c.args.line.now) (search rules)

pub returns-in_err-undo-clause-column : goal.returns-in_err-undo-clause-column
returns-in_err-undo-clause-column g c = left_cleared c.args.column.now (length c.args.line.now) (search rules)

pub returns-clause-column : goal.returns-clause-column
returns-clause-column g c = left_cleared c.args.column.now (length c.args.line.now) (search rules)

pub returns-in_err-wants_memory-clause-made : goal.returns-in_err-wants_memory-clause-made
returns-in_err-wants_memory-clause-made g c =
    let x = c.args.self.now in
    let view = g.X.Host.view in
    let makes = g.X.Host.makes in
    let call = Undo (key_of c.args.row) in
    let host = c.args.host.now in
    let memory = memory_check (length c.args.column.now) (length c.args.line.now) in
    let own = first_fault (undo_own_checks (sheet_of x) c.args.ticket c.args.row) in
    not_asked view makes memory (unless own (call ∷ [])) host c.in_err-wants_memory.ensures

pub returns-in_err-may_undo-clause-made : goal.returns-in_err-may_undo-clause-made
returns-in_err-may_undo-clause-made g c =
    let x = c.args.self.now in
    let view = g.X.Host.view in
    let makes = g.X.Host.makes in
    let call = Undo (key_of c.args.row) in
    let host = c.args.host.now in
    let memory = memory_check (length c.args.column.now) (length c.args.line.now) in
    let own = first_fault (undo_own_checks (sheet_of x) c.args.ticket c.args.row) in
    asked view makes memory (unless own (call ∷ [])) host host c.in_ok-wants_memory.ensures
    (not_asked view makes own (call ∷ []) host c.in_err-may_undo.ensures.checks)

pub returns-in_err-undo-clause-made : goal.returns-in_err-undo-clause-made
returns-in_err-undo-clause-made g c =
    let x = c.args.self.now in
    let view = g.X.Host.view in
    let makes = g.X.Host.makes in
    let call = Undo (key_of c.args.row) in
    let host = c.args.host.now in
    let memory = memory_check (length c.args.column.now) (length c.args.line.now) in
    let own = first_fault (undo_own_checks (sheet_of x) c.args.ticket c.args.row) in
    let b = simp c.row_key.ensures at c.undo.ensures in
    asked view makes memory (unless own (call ∷ [])) host c.undo.new.self c.in_ok-wants_memory.ensures
    (asked_one view makes own call host c.undo.new.self c.undo.result c.in_ok-may_undo.ensures.checks
    (record { shows = record { answers = b.does.answers; shows = b.does.shows }; made = b.made }))

pub returns-clause-made : goal.returns-clause-made
returns-clause-made g c =
    let x = c.args.self.now in
    let view = g.X.Host.view in
    let makes = g.X.Host.makes in
    let call = Undo (key_of c.args.row) in
    let host = c.args.host.now in
    let memory = memory_check (length c.args.column.now) (length c.args.line.now) in
    let own = first_fault (undo_own_checks (sheet_of x) c.args.ticket c.args.row) in
    let b = simp c.row_key.ensures at c.undo.ensures in
    asked view makes memory (unless own (call ∷ [])) host c.undo.new.self c.in_ok-wants_memory.ensures
    (asked_one view makes own call host c.undo.new.self c.undo.result c.in_ok-may_undo.ensures.checks
    (record { shows = record { answers = b.does.answers; shows = b.does.shows }; made = b.made }))
