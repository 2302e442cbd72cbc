use Rattle.std.proofs.Common.{◌≡◌, ℕ, ◌&&◌, ◌||◌, Bool, true, [], cond, eqb, refl, ap, ap₂, ◌∙◌}
use mathlib.Core.Path.{fun_ext}
use Rattle.values.specs.declared.RowState.TheVariants.{Running}
use Rattle.rowset.specs.Members.{contains}
use Rattle.model.specs.Chart.{Chart}
use Rattle.model.specs.Rollback.{fallen}
use Rattle.model.specs.Rows.{Rows, idle, in_state, live, with_states}
use Rattle.rows.specs.Tables.{rows_of, rolled_of}
use Rattle.rowset.proofs.Iteration.{top_more, next_member, no_next_member}
use Rattle.rowset.proofs.Loops.{up_to_none}
use Rattle.rows.proofs.Falls.{fallen_states, fallen_rolled, states_more, states_all, rolled_more, rolled_all}
use Rattle.rows.proofs.table.RowTable.fall.Goals as goal

pub loop-row-init : goal.loop-row-init
loop-row-init c =
    let r = rows_of c.args.self.now in
    let rolled = rolled_of c.args.self.now in
    let struck : ℕ → Bool = contains c.args.struck.now in
    record {
      rows = ap (with_states r) (fun_ext (up_to_none (fallen_states (c.args.steps.now, []) r struck) r.state refl));
      rolled = fun_ext (up_to_none (fallen_rolled r struck c.args.number rolled) rolled refl);
    }

pub loop-row-preserved : goal.loop-row-preserved
loop-row-preserved c =
    let chart : Chart = (c.args.steps.now, []) in
    let r = rows_of c.args.self.now in
    let rolled = rolled_of c.args.self.now in
    let struck : ℕ → Bool = contains c.args.struck.now in
    let falling : ℕ → Bool = contains c.join.new.self in
    let are : (k : ℕ) → falling k ≡ (in_state r Running k || struck k) =
    λ k. c.join.ensures k ∙ ap (λ b. b || struck k) (c.rows_in-falling.ensures k) in
    let t = c.in-Some.row in
    let next = next_member c.join.new.self _ _ c.into_iter-row-iterator.ensures.into_iter_gives c.iter-row-items.ensures
    c.loop-row.yielded_by c.in-Some.ensures.steps in
    let now = c.loop-row.invariant in
    rw (top_more 0 c.loop-row.yielded t) record {
      rows = c.fall_row.ensures.rows
          ∙ ap (λ (x : Rows). with_states x (λ k. cond (eqb k t) (fallen (x.state k) true (idle chart x k)) (x.state k))) now.rows
          ∙ ap (with_states r) (states_more chart r struck c.args.number rolled falling are _ t next);
      rolled = c.fall_row.ensures.rolled
          ∙ ap₂ {C = ℕ → ℕ} (λ (x : Rows) (ns : ℕ → ℕ) k. cond (eqb k t && live (x.state k)) c.args.number (ns k)) now.rows now.rolled
          ∙ rolled_more chart r struck c.args.number rolled falling are _ t next;
    }

pub returns : goal.returns
returns c =
    let chart : Chart = (c.args.steps.now, []) in
    let r = rows_of c.args.self.now in
    let rolled = rolled_of c.args.self.now in
    let struck : ℕ → Bool = contains c.args.struck.now in
    let falling : ℕ → Bool = contains c.join.new.self in
    let are : (k : ℕ) → falling k ≡ (in_state r Running k || struck k) =
    λ k. c.join.ensures k ∙ ap (λ b. b || struck k) (c.rows_in-falling.ensures k) in
    let past = no_next_member c.join.new.self _ _ c.into_iter-row-iterator.ensures.into_iter_gives c.iter-row-items.ensures
    c.loop-row.yielded_by c.in-None.ensures.steps.0 in
    record {
      rows = c.loop-row.invariant.rows
          ∙ ap (with_states r) (states_all chart r struck c.args.number rolled falling are _ past);
      rolled = c.loop-row.invariant.rolled ∙ rolled_all chart r struck c.args.number rolled falling are _ past;
    }
