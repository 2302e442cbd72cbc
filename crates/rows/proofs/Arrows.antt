-- Which numbers the arrows of a table join, and the same of the arrows that are left of them. Assumes nothing.
use Rattle.std.proofs.Common.{◌≡◌, ℕ, ◌<◌, Bool, true, false, cond, not, List, [], length, Option, sym, ap, ◌∙◌, inl, inr, arith}
use borrow.Author.Tests.{clash}
use Rattle.std.proofs.lemmas.Bool.{cases_lt, and_parts}
use Rattle.graph.specs.Reach.{Within, Least}
use Rattle.model.specs.Chart.{Chart}
use Rattle.model.specs.Rollback.{uncut}
use Rattle.model.specs.Rows.{is_savepoint}
use Rattle.model.specs.Search.{has}
use Rattle.model.specs.Sheets.{Lower}
use Rattle.rows.specs.declared.row.Row.{Row}
use Rattle.rows.specs.Arrows.{Drawn, forth, back}
use Rattle.rows.specs.Columns.{columns, listed, preds_of, Positive}
use Rattle.rows.proofs.Columns.{row_past}
use Rattle.rows.proofs.Leasts.{least_like}
use Rattle.rows.proofs.Lists.{has_kept}

-- ── lists ──

-- what stands in a list or in none stands in the list
pub has_cond : (b : Bool) (xs : List ℕ) (k : ℕ) → has k (cond b xs []) ≡ true → has k xs ≡ true
has_cond true xs k m = m
has_cond false xs k m = absurd (clash m)

-- ── arrows between rows ──

-- the arrows lead only between the numbers 1 to n
abbrev pub Joins : ℕ → (ℕ → ℕ → Bool) → Type 0
Joins n arrow = (j k : ℕ) → arrow j k ≡ true → Within n j × Within n k

pub draws : (n : ℕ) (arrow : ℕ → ℕ → Bool) → Joins n arrow → {j k : ℕ} → arrow j k ≡ true → Drawn n arrow j k
draws n arrow joins {j} {k} a = let (from, to) = joins j k a in record { from_row = from; to_row = to; drawn = a }

pub least_drawn : (n : ℕ) (arrow : ℕ → ℕ → Bool) → Joins n arrow → (j after : ℕ) (o : Option ℕ)
    → Least (λ k. arrow j k ≡ true) after o → Least (Drawn n arrow j) after o
least_drawn n arrow joins j after o h =
    least_like (λ k. arrow j k ≡ true) (Drawn n arrow j) after o (λ k a. draws n arrow joins a) (λ k d. d.drawn) h

-- ── a table's arrows ──

module _ (rows : List Row) (lower : Lower (preds_of rows)) (positive : Positive (preds_of rows)) where
  -- only rows have predecessors
  pub no_preds : (k : ℕ) → length rows < k → preds_of rows k ≡ []
  no_preds k h = sym (ap (λ r. listed r.predecessors) (row_past rows k (inr h)))

  pub joins_forth : Joins (length rows) (forth (preds_of rows))
  joins_forth j k a =
      let low = positive k j a in
      let less = lower k j a in
      elim (cases_lt (length rows) k) [
        | inl h ↦ absurd (clash (sym (ap (has j) (no_preds k h)) ∙ a))
        | inr h ↦ ((low, omega arith), (omega arith, h))
      ]

  -- fewer arrows, turned round
  joins_back : (preds : ℕ → List ℕ) → ((j k : ℕ) → has k (preds j) ≡ true → has k (preds_of rows j) ≡ true)
      → Joins (length rows) (back preds)
  joins_back preds part j k a = let (from, to) = joins_forth k j (part j k a) in (to, from)

  -- those that are no savepoints
  cut_part : (c : Chart) (j k : ℕ) → has k (uncut c (columns rows) j) ≡ true → has k (preds_of rows j) ≡ true
  cut_part c j k a =
      let kept = has_kept (λ w. not (is_savepoint c (columns rows) w)) k (preds_of rows j) in
      (and_parts (has k (preds_of rows j)) (not (is_savepoint c (columns rows) k)) (sym kept ∙ a)).0

  pub joins_cut : (c : Chart) → Joins (length rows) (back (uncut c (columns rows)))
  joins_cut c = joins_back (uncut c (columns rows)) (cut_part c)

  pub lower_cut : (c : Chart) → Lower (uncut c (columns rows))
  lower_cut c v w a = lower v w (cut_part c v w a)
