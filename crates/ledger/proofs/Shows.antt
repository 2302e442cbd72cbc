-- What a ledger shows after one line more. Assumes nothing.
use Rattle.std.proofs.Common.{◌≡◌, ℕ, true, false, List, [], ◌∷◌, ◌++◌, is_some, Some, refl, ⊎_elim, arith}
use Rattle.std.proofs.lemmas.Bool.Decides.{nat_tests}
use Rattle.std.proofs.lemmas.Bool.{cases_Bool}
use Rattle.host.specs.Keys.{RowKey, is_row}
use Rattle.host.specs.View.{moved}
use Rattle.host.proofs.Ext.{view_ext}
use Rattle.ledger.specs.declared.lines.Line.{Line}
use Rattle.ledger.specs.Lines.{last_of, state_at, kept_by}
use Rattle.ledger.proofs.Added.{last_push}

-- the lines of a known row
module _ (xs : List Line) (row : RowKey) (p : Line) (was : last_of xs row ≡ Some p) where
  -- one line more with the same entry is one row moved
  pub kept_moved : (free : ℕ) (l : Line) → l.row ≡ row → l.entry ≡ p.entry
      → kept_by free (xs ++ l ∷ []) ≡ moved (state_at l.mark) (kept_by free xs) row
  kept_moved free l r e =
      view_ext (kept_by free (xs ++ l ∷ [])) (moved (state_at l.mark) (kept_by free xs) row) refl (λ _. refl)
      (λ n. let q = last_push xs l n in grind (arith, nat_tests))
      (λ n. let q = last_push xs l n in grind (arith, nat_tests))

-- a row with a line is a row
pub row_known : (xs : List Line) (row : RowKey) (p : Line) → ((n : RowKey) → is_row n ≡ false → is_some (last_of xs n) ≡ false)
    → last_of xs row ≡ Some p → is_row row ≡ true
row_known xs row p rows was =
    ⊎_elim (λ e. e) (λ e. let z = rows row e in grind arith) (cases_Bool (is_row row))
