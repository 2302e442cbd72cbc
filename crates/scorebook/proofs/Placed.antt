-- Where a row's record stands, by a place kept for each row. Assumes nothing.
use Rattle.std.specs.Prelude.{◌≡◌, ℕ, zero, suc, ◌<◌, ◌&&◌, true, cond, List, [], ◌∷◌, ◌++◌, length, get_or, nat_lt, slice_index_or, Some, None, Option, refl}
use Rattle.std.proofs.Common.{ap, ◌∙◌, arith}
use Rattle.std.proofs.lemmas.Bool.Decides.{nat_tests}
use Rattle.values.specs.declared.HostState.{HostState}
use Rattle.host.specs.Keys.{RowKey, same_row, is_row}
use Rattle.host.specs.Places.{places_most}
use Rattle.scorebook.specs.declared.records.Record.{Record}
use Rattle.scorebook.specs.Records.{find_in, place_in, turned}

found_here : (xs : List Record) (row : RowKey) (i : ℕ) (d : Record) → Some i ≡ place_in xs row
    → Some (slice_index_or xs i d) ≡ find_in xs row
found_here [] row i d h = grind (arith, nat_tests)
found_here (x ∷ xs) row zero d h = grind (arith, nat_tests)
found_here (x ∷ xs) row (suc i) d h = let ih = found_here xs row i d in grind (arith, nat_tests)

-- the record at a row's place is the row's record
pub found_at : (xs ys : List Record) (row : RowKey) (i : ℕ) (d : Record) → Some i ≡ place_in xs row → ys ≡ xs
    → Some (slice_index_or ys i d) ≡ find_in xs row
found_at xs ys row i d h q = ap (λ zs. Some (get_or zs i d)) q ∙ found_here xs row i d h

-- and a row without a place has no record
pub found_none : (xs : List Record) (row : RowKey) → None ≡ place_in xs row → None ≡ find_in xs row
found_none [] row h = refl
found_none (x ∷ xs) row h = let ih = found_none xs row in grind (arith, nat_tests)

-- a record in another state stands where it stood
pub place_turned : (xs : List Record) (row : RowKey) (to : HostState) (n : RowKey) → place_in (turned xs row to) n ≡ place_in xs n
place_turned [] row to n = refl
place_turned (x ∷ xs) row to n = let ih = place_turned xs row to n in grind (arith, nat_tests)

-- one record more stands last
place_push : (xs : List Record) (r : Record) (n : RowKey) → find_in xs r.row ≡ None
    → place_in (xs ++ r ∷ []) n ≡ cond (same_row r.row n) (Some (length xs)) (place_in xs n)
place_push [] r n h = grind (arith, nat_tests)
place_push (x ∷ xs) r n h = let ih = place_push xs r n in grind (arith, nat_tests)

-- so the number of the old records is its place
pub placed_push : (xs : List Record) (r : Record) (n : RowKey) (k : ℕ) (old new : Option ℕ) → is_row r.row ≡ true
    → k ≡ length xs → k < places_most → find_in xs r.row ≡ None → old ≡ place_in xs n
    → new ≡ cond (is_row r.row && (nat_lt k places_most && same_row r.row n)) (Some k) old
    → new ≡ place_in (xs ++ r ∷ []) n
placed_push xs r n k old new i last few unused was is = let p = place_push xs r n unused in grind (arith, nat_tests)
