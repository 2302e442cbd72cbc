-- One record turned, and one record more, among a book's records. Assumes nothing.
use Rattle.std.specs.Prelude.{◌≡◌, ℕ, ◌<◌, ◌≤◌, true, false, cond, List, [], ◌∷◌, ◌++◌, length, get_or, set, is_some, Some, None, slice_index_or, slice_set, refl}
use Rattle.std.specs.List.{position_or_len}
use Rattle.std.proofs.Common.{ap, ap₂, ◌∙◌, ◌&&◌, arith}
use Rattle.std.proofs.lemmas.List.Folds.{list_all-append}
use Rattle.std.proofs.lemmas.Bool.Decides.{nat_tests}
use Rattle.values.specs.declared.HostState.{HostState}
use Rattle.host.specs.Keys.{RowKey, same_row, is_row}
use Rattle.host.specs.View.{is_unknown}
use Rattle.scorebook.specs.declared.records.Record.{Record}
use Rattle.scorebook.specs.Records.{find_in, place_in, turned, with_state, state_in, entry_in, is_score, scores, well}

-- no entry changes
pub entry_turned : (xs : List Record) (row : RowKey) (to : HostState) (n : RowKey)
    → entry_in (find_in (turned xs row to) n) ≡ entry_in (find_in xs n)
entry_turned [] row to n = refl
entry_turned (r ∷ rs) row to n = let ih = entry_turned rs row to n in grind (arith, nat_tests)

-- the one state changes
pub state_turned : (xs : List Record) (row : RowKey) (to : HostState) (n : RowKey) → is_some (find_in xs row) ≡ true
    → state_in (find_in (turned xs row to) n) ≡ cond (same_row n row) to (state_in (find_in xs n))
state_turned [] row to n h = grind (arith, nat_tests)
state_turned (r ∷ rs) row to n h = let ih = state_turned rs row to n in grind (arith, nat_tests)

-- no row gets or loses a record
pub some_turned : (xs : List Record) (row : RowKey) (to : HostState) (n : RowKey)
    → is_some (find_in (turned xs row to) n) ≡ is_some (find_in xs n)
some_turned [] row to n = refl
some_turned (r ∷ rs) row to n = let ih = some_turned rs row to n in grind (arith, nat_tests)

pub well_turned : (xs : List Record) (row : RowKey) (to : HostState) → well xs ≡ true → is_unknown to ≡ false
    → well (turned xs row to) ≡ true
well_turned [] row to w k = refl
well_turned (r ∷ rs) row to w k =
    let ih = well_turned rs row to in let s = some_turned rs row to r.row in grind (arith, nat_tests)

-- one record more is found last
pub find_push : (xs : List Record) (r : Record) (n : RowKey)
    → find_in (xs ++ r ∷ []) n ≡ cond (is_some (find_in xs n)) (find_in xs n) (cond (same_row r.row n) (Some r) None)
find_push [] r n = refl
find_push (x ∷ xs) r n = let ih = find_push xs r n in grind (arith, nat_tests)

pub well_push : (xs : List Record) (r : Record) → well xs ≡ true → is_row r.row ≡ true → is_unknown r.state ≡ false
    → find_in xs r.row ≡ None → well (xs ++ r ∷ []) ≡ true
well_push [] r w i k e = grind (arith, nat_tests)
well_push (x ∷ xs) r w i k e =
    let ih = well_push xs r in let p = find_push xs r x.row in grind (arith, nat_tests)

-- each record stays one of a score
pub scores_turned : (xs : List Record) (row : RowKey) (to : HostState) → scores xs ≡ true → scores (turned xs row to) ≡ true
scores_turned [] row to h = refl
scores_turned (x ∷ xs) row to h = let ih = scores_turned xs row to in grind arith

pub scores_push : (xs : List Record) (r : Record) → scores xs ≡ true → is_score r.entry ≡ true → scores (xs ++ r ∷ []) ≡ true
scores_push xs r h k =
    list_all-append (λ (x : Record). is_score x.entry) xs (r ∷ []) ∙ ap₂ (λ a b. a && (b && true)) h k

-- where a record stands, or that there is none
pub placed : (xs : List Record) (row : RowKey) (i : ℕ) → Some i ≡ place_in xs row
    → (i ≡ position_or_len (λ r. same_row r.row row) xs) × (i < length xs)
placed xs row i h = (grind (arith, nat_tests), grind (arith, nat_tests))

pub unplaced : (xs : List Record) (row : RowKey) → None ≡ place_in xs row → length xs ≤ position_or_len (λ r. same_row r.row row) xs
unplaced xs row h = grind (arith, nat_tests)

-- the record at its place is set
turned_set : (xs : List Record) (row : RowKey) (to : HostState) (d : Record) → position_or_len (λ r. same_row r.row row) xs < length xs
    → slice_set xs (position_or_len (λ r. same_row r.row row) xs)
    (with_state to (slice_index_or xs (position_or_len (λ r. same_row r.row row) xs) d)) ≡ turned xs row to
turned_set [] row to d h = refl
turned_set (x ∷ xs) row to d h = let ih = turned_set xs row to d in grind (arith, nat_tests)

turned_none : (xs : List Record) (row : RowKey) (to : HostState) → length xs ≤ position_or_len (λ r. same_row r.row row) xs
    → turned xs row to ≡ xs
turned_none [] row to h = refl
turned_none (x ∷ xs) row to h = let ih = turned_none xs row to in grind (arith, nat_tests)

pub turned_absent : (xs : List Record) (row : RowKey) (to : HostState) → None ≡ place_in xs row → turned xs row to ≡ xs
turned_absent xs row to h = turned_none xs row to (unplaced xs row h)

-- the same, where a search says the place
pub turned_at : (xs ys : List Record) (row : RowKey) (i : ℕ) (to : HostState) (d : Record)
    → Some i ≡ place_in xs row → ys ≡ xs → slice_set xs i (with_state to (slice_index_or ys i d)) ≡ turned xs row to
turned_at xs ys row i to d e q =
    let at = placed xs row i e in
    let place = at.0 in
    let here : position_or_len (λ x. same_row x.row row) xs < length xs = omega (arith, place, at.1) in
    ap (λ zs. set xs i (with_state to (get_or zs i d))) q
    ∙ ap (λ k. set xs k (with_state to (get_or xs k d))) place
    ∙ turned_set xs row to d here
