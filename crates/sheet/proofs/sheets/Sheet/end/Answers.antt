-- A running row is committed at the host, and marked.
use Rattle.std.proofs.Common.{[], ◌∷◌, sym, ap, refl, ◌∙◌, subst, rules}
use mathlib.Core.Logic.{∥∥₁_map}
use Rattle.values.specs.declared.HostState.TheVariants.{Open}
use Rattle.values.specs.declared.RowState.TheVariants.{Running, Committed}
use Rattle.values.specs.Checks.{first_fault}
use Rattle.host.specs.Keys.{key_of}
use Rattle.host.specs.declared.calls.Call.TheVariants.{Commit}
use Rattle.host.specs.View.{move_checks}
use Rattle.model.specs.Rows.{marked}
use Rattle.model.specs.Sheets.{Kept}
use Rattle.model.proofs.Accepted.{end_running}
use Rattle.model.proofs.Kept.{on_end}
use Rattle.sheet.specs.Calls.{end_checks}
use Rattle.sheet.specs.Graphs.{HasGraph}
use Rattle.sheet.specs.SheetOf.{sheet_of, chart_of}
use Rattle.sheet.proofs.Asking.{not_asked, asked_one}
use Rattle.sheet.proofs.Comings.{host_declines, none_declines, other_rows, put_into}
use Rattle.sheet.proofs.Graphs.{graph_state, graph_put}
use Rattle.sheet.proofs.sheets.Sheet.end.Goals as goal

pub returns-in_err-commit-clause-comes : goal.returns-in_err-commit-clause-comes
returns-in_err-commit-clause-comes g c =
    let b = simp c.row_key.ensures at c.in_err-commit.ensures.does in
    host_declines (end_checks (sheet_of c.args.self.now) c.args.row) (move_checks Open (g.X.Host.view c.args.host.now) (key_of c.args.row))
    c.in_ok-may_end.ensures b.answers (search rules) refl b.shows

pub invariant_of-self : goal.invariant_of-self
invariant_of-self g c =
    let s = sheet_of c.args.self.now in
    let v = g.X.Host.view c.args.host.now in
    let k = c.args.row in
    let b = simp c.row_key.ensures at c.in_ok-commit.ensures.does in
    let none = none_declines (end_checks s k) (move_checks Open v (key_of k)) c.in_ok-may_end.ensures b.answers in
    let runs = end_running s v k none in
    let is = other_rows c.args.self.now c.set_state.new.self _
    (c.set_state.ensures.rows ∙ put_into s.rows k Running Committed runs refl)
    c.set_state.ensures.rolled in
    record {
      kept = ∥∥₁_map c.args.self.now.kept
          (λ kept. subst Kept (sym is) (on_end (chart_of c.args.self.now) s v kept k none));
      holds = subst (λ t. HasGraph t c.args.self.now.graph) (sym is)
          (graph_put s c.args.self.now.graph k Committed (ap graph_state runs) c.args.self.now.holds (marked s.rows k Committed) refl);
    }

pub returns-in_err-may_end-clause-made : goal.returns-in_err-may_end-clause-made
returns-in_err-may_end-clause-made g c =
    let own = first_fault (end_checks (sheet_of c.args.self.now) c.args.row) in
    not_asked g.X.Host.view g.X.Host.makes own (Commit (key_of c.args.row) ∷ []) c.args.host.now c.in_err-may_end.ensures

pub returns-in_err-commit-clause-made : goal.returns-in_err-commit-clause-made
returns-in_err-commit-clause-made g c =
    let own = first_fault (end_checks (sheet_of c.args.self.now) c.args.row) in
    let b = simp c.row_key.ensures at c.commit.ensures in
    asked_one g.X.Host.view g.X.Host.makes own (Commit (key_of c.args.row)) c.args.host.now c.commit.new.self c.commit.result
    c.in_ok-may_end.ensures (record { shows = record { answers = b.does.answers; shows = b.does.shows }; made = b.made })

pub returns-clause-made : goal.returns-clause-made
returns-clause-made g c =
    let own = first_fault (end_checks (sheet_of c.args.self.now) c.args.row) in
    let b = simp c.row_key.ensures at c.commit.ensures in
    asked_one g.X.Host.view g.X.Host.makes own (Commit (key_of c.args.row)) c.args.host.now c.commit.new.self c.commit.result
    c.in_ok-may_end.ensures (record { shows = record { answers = b.does.answers; shows = b.does.shows }; made = b.made })
