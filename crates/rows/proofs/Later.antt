-- The due rows after a row, found among those that a walk from it marks. Assumes nothing.
use Rattle.std.proofs.Common.{◌≡◌, ℕ, zero, suc, ◌+◌, ◌<◌, ◌≤◌, Bool, true, false, ◌&&◌, eqb, ltb, ◌⊎◌, List, [], ◌∷◌, length, None, Decides, sym, refl, ap, ◌∙◌, subst, inl, inr, ⊎_elim, arith}
use mathlib.Core.Path.{fun_ext}
use Rattle.std.proofs.lemmas.Bool.{both_ways, cases_Bool, cases_lt, and_parts, and_from, and_left, and_right, lt-ltb, le-ltb}
use Rattle.std.proofs.lemmas.Bool.Decides.{same_from_decides}
use Rattle.values.specs.declared.RowState.TheVariants.{Due}
use Rattle.graph.specs.Column.{marked}
use Rattle.graph.specs.Reach.{Within, Start, Explored}
use Rattle.model.specs.Calls.{due_after}
use Rattle.model.specs.Rollback.{After, next, further, after}
use Rattle.model.specs.Rows.{in_state}
use Rattle.model.specs.Search.{first_below}
use Rattle.model.specs.Sheets.{Lower}
use Rattle.model.proofs.Basics.{any_below_in}
use Rattle.model.proofs.Reach.{after_lower}
use Rattle.rows.specs.declared.row.Row.{Row}
use Rattle.rows.specs.Arrows.{Drawn, forth}
use Rattle.rows.specs.Columns.{columns, preds_of, Positive}
use Rattle.rows.specs.Marking.{due_above, lowest_due}
use Rattle.rows.proofs.Arrows.{Joins, joins_forth}
use Rattle.rows.proofs.Below.{first_none}
use Rattle.rows.proofs.Walks.{within_is, forth_marked}

-- a path begins at a row
path_from : (n : ℕ) (preds : ℕ → List ℕ) → Joins n (forth preds) → {u v : ℕ} → After preds u v → Within n u
path_from n preds joins {u} {v} (next m) = (joins u v m).0
path_from n preds joins (further p m) = path_from n preds joins p

-- the only start of one
start_only : (n x : ℕ) {k : ℕ} → Start n (x ∷ []) k → k ≡ x
start_only n x (w, (zero, (inside, e))) = sym e
start_only n x (w, (suc i, (inside, e))) = absurd (omega arith)

module _ (rows : List Row) (lower : Lower (preds_of rows)) (positive : Positive (preds_of rows)) (row : ℕ) where
  after_is : (v : ℕ) → Decides (after (columns rows) (eqb row) v) (After (preds_of rows) row v)
  after_is v = within_is (length rows) (preds_of rows) lower row v (λ w m. (joins_forth rows lower positive w v m).1.1)

  -- rows after it have higher numbers
  not_after : (v : ℕ) → v ≤ row → after (columns rows) (eqb row) v ≡ false
  not_after v low =
      elim (cases_Bool (after (columns rows) (eqb row) v)) [
        | inl t ↦ let high = after_lower (preds_of rows) lower ((after_is v).0 t) in absurd (omega arith)
        | inr f ↦ f
      ]

  -- where no row above it is due, none after it is
  pub none_later : due_above (columns rows) row ≡ false → due_after (columns rows) row ≡ None
  none_later none = first_none (length rows + 1) (λ v. due v && later v) (λ v inside.
      elim (cases_Bool (due v && later v)) [
        | inl t ↦
            let (d, a) = and_parts (due v) (later v) t in
            let high = after_lower (preds_of rows) lower ((after_is v).0 a) in
            absurd (both_ways (due_above (columns rows) row) none
            (any_below_in (length rows + 1) (λ x. ltb row x && due x) v inside (and_from (ltb row v) (due v) (lt-ltb row v high) d)))
        | inr f ↦ f
      ])
    where
      due : ℕ → Bool
      due = in_state (columns rows) Due

      later : ℕ → Bool
      later = after (columns rows) (eqb row)

  module _ {before : List ℕ} (xs : List ℕ)
      (e : Explored (Drawn (length rows) (forth (preds_of rows))) (Start (length rows) (row ∷ [])) before xs) where
    -- above it, the rows after it are marked
    later_marked : (v : ℕ) → row < v → marked xs v ≡ after (columns rows) (eqb row) v
    later_marked v high = same_from_decides (marked xs v) (after (columns rows) (eqb row) v) (path, mark) (after_is v)
      where
        joins : Joins (length rows) (forth (preds_of rows))
        joins = joins_forth rows lower positive

        are : Decides (marked xs v) (Start (length rows) (row ∷ []) v
            ⊎ ((u : ℕ) × Start (length rows) (row ∷ []) u × After (preds_of rows) u v))
        are = forth_marked (length rows) (preds_of rows) joins lower (row ∷ []) xs e v

        path : marked xs v ≡ true → After (preds_of rows) row v
        path m = ⊎_elim (λ s. let same = start_only (length rows) row s in absurd (omega arith))
            (λ w. subst (λ u. After (preds_of rows) u v) (start_only (length rows) row w.1) w.2) (are.0 m)

        mark : After (preds_of rows) row v → marked xs v ≡ true
        mark p = are.1 (inr (row, (path_from (length rows) (preds_of rows) joins p, (0, (omega arith, refl))), p))

    -- the lowest of them that is due
    pub lowest_later : lowest_due (columns rows) row xs ≡ due_after (columns rows) row
    lowest_later = ap (first_below (length rows + 1)) (fun_ext same)
      where
        same : (v : ℕ) → (ltb row v && (in_state (columns rows) Due v && marked xs v))
            ≡ (in_state (columns rows) Due v && after (columns rows) (eqb row) v)
        same v = elim (cases_lt row v) [
          | inl high ↦
              ap (λ b. b && (in_state (columns rows) Due v && marked xs v)) (lt-ltb row v high)
              ∙ ap (λ b. in_state (columns rows) Due v && b) (later_marked v high)
          | inr low ↦
              and_left (ltb row v) (in_state (columns rows) Due v && marked xs v) (le-ltb row v low)
              ∙ sym (and_right (in_state (columns rows) Due v) (after (columns rows) (eqb row) v) (not_after v low))
        ]
