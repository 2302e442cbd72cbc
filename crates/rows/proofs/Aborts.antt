-- What the walks of an abort mark. Assumes nothing.
use Rattle.std.proofs.Common.{◌≡◌, ℕ, ◌≤◌, true, ◌&&◌, List, length, is_ok, Ok, Err, Decides, Result, sym, ap, ◌∙◌, inl, inr, arith}
use borrow.Author.Tests.{clash}
use Rattle.std.proofs.lemmas.Bool.{and_right, cases_Bool}
use Rattle.std.specs.Result.{MatchResult}
use Rattle.graph.specs.Reach.{Within, Start, Explored}
use Rattle.model.specs.Chart.{Chart}
use Rattle.model.specs.Rollback.{After, next, further, uncut, backward}
use Rattle.model.specs.Search.{has}
use Rattle.model.specs.Sheets.{Lower}
use Rattle.model.proofs.Reach.{sound_from}
use Rattle.rowset.specs.declared.RowSet.{RowSet}
use Rattle.rowset.specs.Members.{is_number, contains}
use Rattle.rowset.proofs.Members.{within_numbers}
use Rattle.rows.specs.declared.row.Row.{Row}
use Rattle.rows.specs.Arrows.{Drawn, forth, back}
use Rattle.rows.specs.Columns.{columns, preds_of, Positive}
use Rattle.rows.specs.Marking.{BackwardMarked, HasBackward, PartMarked}
use Rattle.rows.proofs.Arrows.{Joins, joins_forth, joins_cut, lower_cut}
use Rattle.rows.proofs.Walks.{start_has, has_start, back_within, forth_within}

-- ── room or not ──

pub walked_ok : {T E : Type 0} (r : Result T E) (Done No : Type 0) → is_ok r ≡ true → Done → MatchResult r (λ _. Done) (λ _. No)
walked_ok (Ok x) Done No ok d = d
walked_ok (Err x) Done No ok d = absurd (clash ok)

-- ── the marks ──

-- a path begins at a row
path_from : (n : ℕ) (preds : ℕ → List ℕ) → Joins n (back preds) → {u v : ℕ} → After preds u v → Within n u
path_from n preds joins {u} {v} (next m) = (joins v u m).1
path_from n preds joins (further p m) = path_from n preds joins p

module _ (rows : List Row) (lower : Lower (preds_of rows)) (positive : Positive (preds_of rows)) where
  -- a walk back from f
  pub backward_marked : (c : Chart) (f : ℕ) {before : List ℕ} (xs : List ℕ)
      → Explored (Drawn (length rows) (back (uncut c (columns rows)))) (Start (length rows) (uncut c (columns rows) f)) before xs
      → BackwardMarked c (columns rows) f xs
  backward_marked c f xs =
      back_within (length rows) (uncut c (columns rows)) (joins_cut rows lower positive c) (lower_cut rows lower positive c) f xs

  -- only rows are in it
  backward_row : (c : Chart) (f u : ℕ) → backward c (columns rows) f u ≡ true → Within (length rows) u
  backward_row c f u t =
      let cut = uncut c (columns rows) in
      path_from (length rows) cut (joins_cut rows lower positive c) (sound_from cut u (length rows) f t)

  -- and they are numbers that a set can have
  pub backward_numbers : length rows ≤ 256 → (c : Chart) (f u : ℕ)
      → (is_number u && backward c (columns rows) f u) ≡ backward c (columns rows) f u
  backward_numbers few c f u = elim (cases_Bool (backward c (columns rows) f u)) [
    | inl t ↦
        let (low, high) = backward_row c f u t in
        ap (λ b. b && backward c (columns rows) f u) (within_numbers u low (omega arith))
    | inr none ↦ and_right (is_number u) (backward c (columns rows) f u) none ∙ sym none
  ]

  -- a walk along the arrows from a set of it
  pub part_marked : (c : Chart) (f : ℕ) (part : RowSet) (starts : List ℕ) {xs : List ℕ} (ys : List ℕ)
      → HasBackward c (columns rows) f part → ((u : ℕ) → has u starts ≡ contains part u)
      → Explored (Drawn (length rows) (forth (preds_of rows))) (Start (length rows) starts) xs ys
      → PartMarked c (columns rows) f ys
  part_marked c f part starts ys them listed e =
      forth_within (length rows) (preds_of rows) (joins_forth rows lower positive) lower starts ys e (backward c (columns rows) f) is
    where
      is : (u : ℕ) → Decides (backward c (columns rows) f u) (Start (length rows) starts u)
      is u = (
        (λ t. has_start (length rows) starts (backward_row c f u t) (listed u ∙ them u ∙ t)),
        (λ s. sym (them u) ∙ sym (listed u) ∙ start_has (length rows) starts s),
      )
