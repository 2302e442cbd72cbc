-- A list of rows as the model's columns. Assumes nothing.
use Rattle.std.specs.Prelude.{◌≡◌, ℕ, ◌-◌, ◌≤◌, Bool, true, cond, not, ◌&&◌, List, length, min, take, replicate, None, Option, ◌==◌, nat_le, nat_lt, slice_get, slice_index_or}
use Rattle.values.specs.declared.RowState.TheVariants.{Absent}
use Rattle.model.specs.Search.{any, has}
use Rattle.model.specs.Rows.{Rows, no_entry, is_row}
use Rattle.rows.specs.declared.row.Predecessors.{Predecessors}
use Rattle.rows.specs.declared.row.Row.{Row}

-- the numbers of a row's predecessors
abbrev pub listed : Predecessors → List ℕ
listed p = take (min p.count 8) p.numbers

abbrev pub no_predecessors : Predecessors
no_predecessors = record { numbers = replicate 8 0; count = 0 }

abbrev pub no_row : Row
no_row = record { step = 0; predecessors = no_predecessors; entry = no_entry; state = Absent; rolled = 0 }

-- item k of a list, counted from 1
abbrev pub numbered : {X : Type 0} → List X → ℕ → Option X
numbered xs k = cond (k == 0) None (slice_get xs (k - 1))

-- the same, or another where there is none
abbrev pub item_at : {X : Type 0} → X → List X → ℕ → X
item_at none xs k = cond (k == 0) none (slice_index_or xs (k - 1) none)

-- row k, counted from 1
abbrev pub row_at : List Row → ℕ → Row
row_at rows k = cond (k == 0) no_row (slice_index_or rows (k - 1) no_row)

-- the predecessors of a row, by its number
abbrev pub preds_of : List Row → ℕ → List ℕ
preds_of rows k = listed (row_at rows k).predecessors

-- the step of a row, by its number
abbrev pub steps_of : List Row → ℕ → ℕ
steps_of rows k = (row_at rows k).step

abbrev pub columns : List Row → Rows
columns rows = record {
  count = length rows;
  step = steps_of rows;
  preds = preds_of rows;
  entry = λ k. (row_at rows k).entry;
  state = λ k. (row_at rows k).state;
}

-- whether a row that follows these can be added: there is a place, and they are at most eight of the rows
abbrev pub fits : Rows → List ℕ → Bool
fits r fs = nat_lt r.count 256 && (nat_le (length fs) 8 && not (any (λ x. not (is_row r x)) fs))

-- predecessors are numbered from 1
abbrev pub Positive : (ℕ → List ℕ) → Type 0
Positive preds = (v w : ℕ) → has w (preds v) ≡ true → 1 ≤ w
