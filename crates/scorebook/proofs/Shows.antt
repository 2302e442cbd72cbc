-- What a book shows after a turn, and after one record more. Assumes nothing.
use Rattle.std.specs.Prelude.{◌≡◌, ℕ, ◌-◌, true, false, not, List, [], ◌∷◌, ◌++◌, is_some, None, Ok, refl}
use Rattle.std.proofs.Common.{ap, ap₂, ◌∙◌, ⊎_elim, arith}
use Rattle.std.proofs.lemmas.Bool.Decides.{nat_tests}
use Rattle.std.proofs.lemmas.Bool.{cases_Bool}
use Rattle.values.specs.Checks.{first_fault}
use Rattle.values.specs.Numbers.{same_kind, same_host_state}
use Rattle.values.specs.declared.Entry.{Entry}
use Rattle.values.specs.declared.Kind.TheVariants.{Score}
use Rattle.values.specs.declared.HostState.{HostState}
use Rattle.host.specs.Keys.{RowKey, is_row}
use Rattle.host.specs.View.{Begins, Moves, is_unknown, begin_checks, begun, move_checks, moved}
use Rattle.host.proofs.Checks.{accepted_moves, accepted_begins}
use Rattle.host.proofs.Ext.{view_ext}
use Rattle.scorebook.specs.declared.records.Record.{Record}
use Rattle.scorebook.specs.Records.{find_in, turned, opened, state_in, well, booked}
use Rattle.scorebook.specs.Laws.{find_outside, find_known}
use Rattle.scorebook.proofs.Turned.{state_turned, entry_turned, find_push}

-- one record turned is one row moved
pub booked_turned : (free : ℕ) (xs : List Record) (row : RowKey) (to : HostState) → is_some (find_in xs row) ≡ true
    → booked free (turned xs row to) ≡ moved to (booked free xs) row
booked_turned free xs row to h =
    view_ext (booked free (turned xs row to)) (moved to (booked free xs) row) refl (λ _. refl)
    (λ n. state_turned xs row to n h) (λ n. entry_turned xs row to n)

-- a row that is in a known state has a record, and so it is a row
known_row : (from : HostState) (xs : List Record) (row : RowKey) → is_unknown from ≡ false → well xs ≡ true
    → same_host_state (state_in (find_in xs row)) from ≡ true → (is_some (find_in xs row) ≡ true) × (is_row row ≡ true)
known_row from xs row k w h =
    let known : is_unknown (state_in (find_in xs row)) ≡ false = grind (arith, nat_tests) in
    let some : is_some (find_in xs row) ≡ true = find_known xs row w ∙ ap not known in
    (some, ⊎_elim (λ e. e) (λ e. let z = find_outside xs row w e in grind arith) (cases_Bool (is_row row)))

-- and that row is moved, if the checks pass
pub turn_moves : (from to : HostState) (free left : ℕ) (xs ys : List Record) (row : RowKey) → is_unknown from ≡ false
    → well xs ≡ true → first_fault (move_checks from (booked free xs) row) ≡ None → left ≡ free → ys ≡ turned xs row to
    → Moves from to (booked free xs) row (Ok tt) (booked left ys)
turn_moves from to free left xs ys row k w none l t =
    let here : same_host_state (state_in (find_in xs row)) from ≡ true = grind (arith, nat_tests) in
    accepted_moves from to (booked free xs) (booked left ys) row (Ok tt) none refl
    (ap₂ booked l t ∙ booked_turned free xs row to (known_row from xs row k w here).0)

-- one record more is one row begun
pub booked_push : (free less : ℕ) (xs : List Record) (row : RowKey) (e : Entry) → find_in xs row ≡ None
    → same_kind e.kind Score ≡ true → less ≡ free - 1 → booked less (xs ++ opened row e ∷ []) ≡ begun (booked free xs) row e
booked_push free less xs row e h z l =
    view_ext (booked less (xs ++ opened row e ∷ [])) (begun (booked free xs) row e) refl
    (λ k. grind (arith, nat_tests))
    (λ n. let p = find_push xs (opened row e) n in grind (arith, nat_tests))
    (λ n. let p = find_push xs (opened row e) n in grind (arith, nat_tests))

-- an unknown row has no record
pub none_unknown : (xs : List Record) (row : RowKey) → well xs ≡ true → is_unknown (state_in (find_in xs row)) ≡ true
    → find_in xs row ≡ None
none_unknown xs row w h = let known = find_known xs row w in grind arith

pub begun_unused : (free : ℕ) (xs : List Record) (row : RowKey) (e : Entry) → well xs ≡ true
    → first_fault (begin_checks (booked free xs) row e.kind) ≡ None → find_in xs row ≡ None
begun_unused free xs row e w none =
    let unknown : is_unknown (state_in (find_in xs row)) ≡ true = grind (arith, nat_tests) in
    none_unknown xs row w unknown

-- and that row is begun, if the checks pass
pub push_begins : (free less : ℕ) (xs ys : List Record) (row : RowKey) (e : Entry) → well xs ≡ true
    → first_fault (begin_checks (booked free xs) row e.kind) ≡ None → less ≡ free - 1 → ys ≡ xs ++ opened row e ∷ []
    → Begins (booked free xs) row e (Ok tt) (booked less ys)
push_begins free less xs ys row e w none l t =
    let z : same_kind e.kind Score ≡ true = grind (arith, nat_tests) in
    accepted_begins (booked free xs) (booked less ys) row e (Ok tt) none refl
    (ap (booked less) t ∙ booked_push free less xs row e (begun_unused free xs row e w none) z l)
