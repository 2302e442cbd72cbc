-- What an accepted call on a ledger shows. Assumes nothing.
use Rattle.std.proofs.Common.{◌≡◌, false, [], ◌∷◌, ◌++◌, is_some, Some, None, Ok, refl, ◌∙◌, ap₂, arith}
use Rattle.std.proofs.lemmas.Bool.Decides.{nat_tests}
use Rattle.values.specs.Checks.{first_fault}
use Rattle.host.specs.Keys.{RowKey, is_row}
use Rattle.host.specs.View.{Moves, move_checks}
use Rattle.host.proofs.Checks.{accepted_moves}
use Rattle.ledger.specs.declared.lines.Mark.{Mark}
use Rattle.ledger.specs.declared.lines.Line.{Line}
use Rattle.ledger.specs.declared.book.Ledger.{Ledger}
use Rattle.ledger.specs.Book.{ledger_view, lines_of, free_of}
use Rattle.ledger.specs.Lines.{last_of, state_at, kept_by}
use Rattle.ledger.proofs.Shows.{kept_moved, row_known}

-- a move of a row whose last line has the wanted mark: one line is written
pub turn_moves : (from to : Mark) (b c : Ledger) (row : RowKey) (p : Line) → last_of (lines_of b) row ≡ Some p
    → ((n : RowKey) → is_row n ≡ false → is_some (last_of (lines_of b) n) ≡ false) → p.mark ≡ from
    → lines_of c ≡ lines_of b ++ record { mark = to; row = row; entry = p.entry } ∷ [] → free_of c ≡ free_of b
    → Moves (state_at from) (state_at to) (ledger_view b) row (Ok tt) (ledger_view c)
turn_moves from to b c row p was rows same lines free =
    let new : Line = record { mark = to; row = row; entry = p.entry } in
    let known = row_known (lines_of b) row p rows was in
    let none : first_fault (move_checks (state_at from) (ledger_view b) row) ≡ None = grind (arith, nat_tests) in
    accepted_moves (state_at from) (state_at to) (ledger_view b) (ledger_view c) row (Ok tt) none refl
    (ap₂ kept_by free lines ∙ kept_moved (lines_of b) row p was (free_of b) new refl refl)
