-- Each line has a fee, after one line more too. Assumes nothing.
use Rattle.std.proofs.Common.{◌≡◌, true, List, [], ◌∷◌, ◌++◌, ◌&&◌, Some, ap₂, ◌∙◌, arith}
use Rattle.std.proofs.lemmas.List.Folds.{list_all-append}
use Rattle.std.proofs.lemmas.Bool.Decides.{nat_tests}
use Rattle.host.specs.Keys.{RowKey}
use Rattle.ledger.specs.declared.lines.Line.{Line}
use Rattle.ledger.specs.Lines.{last_of, is_fee, fees}
use Rattle.ledger.proofs.Last.{last_more}

pub fees_push : (xs : List Line) (l : Line) → fees xs ≡ true → is_fee l.entry ≡ true → fees (xs ++ l ∷ []) ≡ true
fees_push xs l h k = list_all-append (λ (x : Line). is_fee x.entry) xs (l ∷ []) ∙ ap₂ (λ a b. a && (b && true)) h k

pub fee_last : (xs : List Line) (row : RowKey) (l : Line) → fees xs ≡ true → last_of xs row ≡ Some l → is_fee l.entry ≡ true
fee_last [] row l h p = grind arith
fee_last (x ∷ xs) row l h p = let ih = fee_last xs row l in let more = last_more x xs row in grind (arith, nat_tests)
