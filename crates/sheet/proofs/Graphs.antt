-- A sheet still has the rows of its graph. Assumes nothing.
use Rattle.std.proofs.Common.{◌≡◌, ℕ, Bool, false, ◌&&◌, ◌||◌, eqb, None, sym, subst, ap, ap₂, ◌∙◌, inl, inr, arith}
use mathlib.Core.Logic.{∥∥₁_elim}
use Rattle.std.proofs.lemmas.Bool.{cases_Bool, cases_eq, both_ways}
use Rattle.values.specs.Numbers.{same_state}
use Rattle.values.specs.declared.Mode.{Mode}
use Rattle.values.specs.declared.Mode.TheVariants.{Complete}
use Rattle.values.specs.declared.Phase.{Phase}
use Rattle.values.specs.declared.Phase.TheVariants.{Forward}
use Rattle.values.specs.declared.RowState.{RowState}
use Rattle.values.specs.declared.RowState.TheVariants.{Due, Undone}
use Rattle.host.specs.View.{View}
use Rattle.model.specs.Calls.{abort_fault}
use Rattle.model.specs.Chart.{Chart}
use Rattle.model.specs.Rows.{Rows, no_rows, in_state}
use Rattle.model.specs.Search.{at_put}
use Rattle.model.specs.Sheet.{Sheet, blank, with_rows, with_phase, aborted, in_graph}
use Rattle.model.specs.Sheets.{Kept}
use Rattle.model.proofs.Basics.{put_same, put_other, same_state_eq}
use Rattle.model.proofs.Kept.{kept_first}
use Rattle.model.proofs.Struck.{abort_falls}
use Rattle.rowset.specs.declared.RowSet.{RowSet}
use Rattle.rowset.specs.Members.{contains}
use Rattle.rows.specs.declared.table.RowTable.{RowTable}
use Rattle.rows.specs.Tables.{rows_of, rolled_of}
use Rattle.sheet.specs.Graphs.{HasGraph, HasGraph-prop}
use Rattle.sheet.specs.Parts.{sheet_from}

pub of_graph : (s : Sheet) (set : RowSet) → HasGraph s set → (k : ℕ) → contains set k ≡ in_graph s k
unfolding HasGraph
of_graph s set h = h

to_graph : (s : Sheet) (set : RowSet) → ((k : ℕ) → contains set k ≡ in_graph s k) → HasGraph s set
unfolding HasGraph
to_graph s set h = h

-- ── a blank sheet ──

module _ (t : RowTable) (serial : ℕ) (rows : rows_of t ≡ no_rows) where
  abbrev new : Sheet
  new = sheet_from t Forward 0 serial Complete

  pub kept_blank : rolled_of t ≡ (λ _. 0) → ∥ Kept new ∥₁
  kept_blank rolled =
      let is : new ≡ blank serial = ap₂ (λ (r : Rows) (n : ℕ → ℕ). record {
        rows = r;
        rolled = n;
        phase = Forward;
        rollback = 0;
        serial = serial;
        mode = Complete;
      }) rows rolled in
      ∣ subst Kept (sym is) (kept_first serial) ∣₁

  pub graph_blank : (set : RowSet) → ((k : ℕ) → contains set k ≡ false) → HasGraph new set
  graph_blank set none = to_graph new set (λ k. none k ∙ (let absent = ap (λ r. r.state k) rows in grind arith))

-- ── one row put into another state ──

-- a row of the graph is in such a state
abbrev pub graph_state : RowState → Bool
graph_state st = same_state st Due || same_state st Undone

-- both states are, or neither
module _ (s : Sheet) (set : RowSet) (k : ℕ) (new : RowState) (alike : graph_state (s.rows.state k) ≡ graph_state new) where
  state_put : (j : ℕ) → graph_state (s.rows.state j) ≡ graph_state (at_put s.rows.state k new j)
  state_put j = elim (cases_eq j k) [
    | inl e ↦
        ap (λ i. graph_state (s.rows.state i)) e ∙ alike
        ∙ sym (ap graph_state (ap (at_put s.rows.state k new) e ∙ put_same s.rows.state k new))
    | inr ne ↦ sym (ap graph_state (put_other s.rows.state k new j ne))
  ]

  pub graph_put : HasGraph s set → (r : Rows) → at_put s.rows.state k new ≡ r.state → HasGraph (with_rows s r) set
  graph_put h r is =
      to_graph (with_rows s r) set
      (λ j. of_graph s set h j ∙ ap (λ b. eqb (s.rolled j) s.rollback && b) (state_put j ∙ ap (λ st. graph_state (st j)) is))

-- ── another phase ──

pub graph_stays : (s : Sheet) (p : Phase) (set : RowSet) → HasGraph s set → HasGraph (with_phase s p) set
graph_stays s p set h = to_graph (with_phase s p) set (of_graph s set h)

-- ── an abort ──

-- the rows that are due
pub graph_due : (c : Chart) (s : Sheet) (v : View) (m : Mode) (column line : ℕ) (set : RowSet) → ∥ Kept s ∥₁
    → abort_fault s v m column line ≡ None → ((k : ℕ) → contains set k ≡ in_state (aborted c s m).rows Due k)
    → HasGraph (aborted c s m) set
graph_due c s v m column line set kept accepted due =
    ∥∥₁_elim kept (HasGraph-prop (aborted c s m) set) (λ h. to_graph (aborted c s m) set (λ k. due k ∙ same h k))
  where
    now : Sheet
    now = aborted c s m

    same : Kept s → (k : ℕ) → in_state now.rows Due k ≡ in_graph now k
    same h k =
        let (out, into) = (abort_falls c s v m column line h.orderly accepted).graph k in
        elim (cases_Bool (in_state now.rows Due k)) [
          | inl t ↦ t ∙ sym (into (same_state_eq _ _ t))
          | inr f ↦ elim (cases_Bool (in_graph now k)) [
            | inl t ↦ absurd (both_ways (in_state now.rows Due k) f (let is = out t in grind arith))
            | inr g ↦ f ∙ sym g
          ]
        ]
