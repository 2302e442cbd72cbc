-- The last line of a row, by a place kept for each row, and a sum that has come to an index. Assumes nothing.
use Rattle.std.proofs.Common.{◌≡◌, ℕ, zero, suc, ◌+◌, ◌<◌, ◌&&◌, true, cond, List, [], ◌∷◌, ◌++◌, length, get_or, slice_index_or, take, fold, nat_lt, ℤ, pos, ◌+ℤ◌, Some, None, Option, sym, refl, ap, ◌∙◌, ap₂, arith}
use Rattle.std.specs.Option.{option_or}
use Rattle.std.proofs.lemmas.Bool.Decides.{nat_tests}
use Rattle.std.proofs.lemmas.List.Sums.{fold_more}
use Rattle.host.specs.Keys.{RowKey, same_row, is_row}
use Rattle.host.specs.Places.{places_most}
use Rattle.ledger.specs.declared.lines.Line.{Line}
use Rattle.ledger.specs.Lines.{last_of, last_place}
use Rattle.ledger.specs.Fees.{posted, worth}

-- what is found in the lines so far stands where the rest has nothing
last_from : (row : RowKey) (o : Option Line) (xs : List Line)
    → fold (λ found l. cond (same_row l.row row) (Some l) found) o xs ≡ option_or (last_of xs row) o
last_from row o [] = refl
last_from row o (x ∷ xs) =
    let rest = last_from row (cond (same_row x.row row) (Some x) o) xs in
    let first = last_from row (cond (same_row x.row row) (Some x) None) xs in
    grind (arith, nat_tests)

-- the last line is in the rest, or else first
pub last_more : (x : Line) (xs : List Line) (row : RowKey)
    → last_of (x ∷ xs) row ≡ option_or (last_of xs row) (cond (same_row x.row row) (Some x) None)
last_more x xs row = last_from row (cond (same_row x.row row) (Some x) None) xs

-- a row without a place has no line
pub found_none : (xs : List Line) (row : RowKey) → None ≡ last_place xs row → None ≡ last_of xs row
found_none [] row h = refl
found_none (x ∷ xs) row h = let ih = found_none xs row in let more = last_more x xs row in grind (arith, nat_tests)

found_here : (xs : List Line) (row : RowKey) (i : ℕ) (d : Line) → Some i ≡ last_place xs row
    → Some (slice_index_or xs i d) ≡ last_of xs row
found_here [] row i d h = grind (arith, nat_tests)
found_here (x ∷ xs) row zero d h =
    let none = found_none xs row in let more = last_more x xs row in grind (arith, nat_tests)
found_here (x ∷ xs) row (suc i) d h =
    let ih = found_here xs row i d in let more = last_more x xs row in grind (arith, nat_tests)

-- the line at a row's place is its last one
pub found_at : (xs ys : List Line) (row : RowKey) (i : ℕ) (d : Line) → Some i ≡ last_place xs row → ys ≡ xs
    → Some (slice_index_or ys i d) ≡ last_of xs row
found_at xs ys row i d h q = ap (λ zs. Some (get_or zs i d)) q ∙ found_here xs row i d h

-- a place is a line's
pub place_within : (xs : List Line) (row : RowKey) (i : ℕ) → Some i ≡ last_place xs row → i < length xs
place_within [] row i h = grind (arith, nat_tests)
place_within (x ∷ xs) row zero h = omega arith
place_within (x ∷ xs) row (suc i) h = let ih = place_within xs row i in grind (arith, nat_tests)

-- one line more stands last
place_push : (xs : List Line) (l : Line) (n : RowKey)
    → last_place (xs ++ l ∷ []) n ≡ cond (same_row l.row n) (Some (length xs)) (last_place xs n)
place_push [] l n = grind (arith, nat_tests)
place_push (x ∷ xs) l n = let ih = place_push xs l n in grind (arith, nat_tests)

-- so the number of the old lines is its place
pub placed_push : (xs : List Line) (l : Line) (n : RowKey) (k : ℕ) (old new : Option ℕ) → is_row l.row ≡ true
    → k ≡ length xs → k < places_most → old ≡ last_place xs n
    → new ≡ cond (is_row l.row && (nat_lt k places_most && same_row l.row n)) (Some k) old
    → new ≡ last_place (xs ++ l ∷ []) n
placed_push xs l n k old new i last few was is = let p = place_push xs l n in grind (arith, nat_tests)

-- one line more in the balance
pub posted_more : (xs : List Line) (i : ℕ) (d : Line) (sum w : ℤ) → i < length xs → sum ≡ posted (take i xs)
    → w ≡ worth (get_or xs i d) → sum +ℤ w ≡ posted (take (i + 1) xs)
posted_more xs i d sum w h p q = ap₂ ◌+ℤ◌ p q ∙ sym (fold_more (λ s l. s +ℤ worth l) (pos 0) xs i d h)
