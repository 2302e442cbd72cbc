-- A ledger's lines, in the order in which they were written. Assumes nothing.
use Rattle.std.specs.Prelude.{◌≡◌, ℕ, Bool, true, false, cond, List, [], ◌∷◌, suc, Some, None, fold, count_by, Option}
use Rattle.std.specs.List.{list_all}
use Rattle.values.specs.Numbers.{same_kind}
use Rattle.values.specs.declared.Entry.{Entry}
use Rattle.values.specs.declared.Kind.TheVariants.{Fee}
use Rattle.values.specs.declared.HostState.{HostState}
use Rattle.values.specs.declared.HostState.TheVariants.{Unknown, Open, Standing, Void, Reversed}
use Rattle.host.specs.Keys.{RowKey, same_row}
use Rattle.host.specs.View.{View}
use Rattle.ledger.specs.declared.lines.Mark.{Mark}
use Rattle.ledger.specs.declared.lines.Mark.TheVariants.{Hold, Post, Contra, Release}
use Rattle.ledger.specs.declared.lines.Line.{Line}

-- the most lines of a table that are used
abbrev pub lines_most : ℕ
lines_most = 768

-- the state of a row whose last line has a mark
abbrev pub state_at : Mark → HostState
state_at Hold = Open
state_at Post = Standing
state_at Contra = Reversed
state_at Release = Void

-- each line is of a fee
abbrev pub is_fee : Entry → Bool
is_fee e = same_kind e.kind Fee

abbrev pub fees : List Line → Bool
fees ls = list_all (λ l. is_fee l.entry) ls

-- the last line of a row
abbrev pub last_of : List Line → RowKey → Option Line
last_of ls row = fold (λ found l. cond (same_row l.row row) (Some l) found) None ls

-- a place among the lines after the first one counts one more here; where there is none, the first line may be it
abbrev pub later_or : Bool → Option ℕ → Option ℕ
later_or first (Some i) = Some (suc i)
later_or first None = cond first (Some 0) None

-- where the last line of a row stands
abbrev pub last_place : List Line → RowKey → Option ℕ
last_place [] row = None
last_place (l ∷ ls) row = later_or (same_row l.row row) (last_place ls row)

abbrev pub state_by : Option Line → HostState
state_by None = Unknown
state_by (Some l) = state_at l.mark

abbrev pub entry_by : Option Line → Option Entry
entry_by None = None
entry_by (Some l) = Some l.entry

abbrev pub is_hold : Mark → Bool
is_hold Hold = true
is_hold Post = false
is_hold Contra = false
is_hold Release = false

-- how many rows were begun
abbrev pub begun_in : List Line → ℕ
begun_in ls = count_by (λ l. is_hold l.mark) ls

-- what a ledger with these lines shows, where it has room for so many more rows
abbrev pub kept_by : ℕ → List Line → View
kept_by free ls = record {
  shut = false;
  room = λ k. cond (same_kind k Fee) free 0;
  state = λ row. state_by (last_of ls row);
  entry = λ row. entry_by (last_of ls row);
}

-- the line of a row that begins
abbrev pub hold_line : RowKey → Entry → Line
hold_line row e = record { mark = Hold; row = row; entry = e }

-- the line that a move of a known row adds: its mark, the row, and the row's entry again
abbrev pub next_line : Mark → RowKey → Option Line → List Line
next_line m row None = []
next_line m row (Some l) = record { mark = m; row = row; entry = l.entry } ∷ []

-- which mark may come after which in the lines of one row
abbrev pub after_hold : Mark → Bool
after_hold Hold = false
after_hold Post = true
after_hold Contra = false
after_hold Release = true

abbrev pub after_post : Mark → Bool
after_post Hold = false
after_post Post = false
after_post Contra = true
after_post Release = false

abbrev pub may_follow : Mark → Mark → Bool
may_follow Hold m = after_hold m
may_follow Post m = after_post m
may_follow Contra m = false
may_follow Release m = false

-- a line may be written after what came last of its row
abbrev pub Follows : Option Line → Line → Type 0
Follows None l = is_hold l.mark ≡ true
Follows (Some p) l = (may_follow p.mark l.mark ≡ true) × (l.entry ≡ p.entry)

-- how many more lines a row in a state may need
abbrev pub lines_due : HostState → ℕ
lines_due Unknown = 0
lines_due Open = 2
lines_due Standing = 1
lines_due Void = 0
lines_due Reversed = 0
