-- A row read, written and added, as columns. Assumes nothing.
use Rattle.std.proofs.Common.{◌≡◌, ℕ, ◌+◌, ◌-◌, ◌<◌, ◌≤◌, Bool, true, false, cond, eqb, ◌⊎◌, List, [], ◌∷◌, ◌++◌, length, get_or, set, Option, sym, refl, ap, ◌∙◌, inl, inr, ⊎_elim, arith, length-set}
use mathlib.Core.Path.{fun_ext}
use denote.Ref.{Bor}
use Rattle.std.specs.Option.{MatchOption, option_copied}
use Rattle.std.proofs.lemmas.Bool.Decides.{eqb_tells, leb_tells}
use Rattle.std.proofs.lemmas.List.{length_push}
use Rattle.model.specs.Search.{at_put}
use Rattle.rows.specs.declared.row.Row.{Row}
use Rattle.rows.proofs.Numbered.{past, inside, found, item_set, item_push}
use Rattle.values.specs.declared.Entry.{Entry}
use Rattle.values.specs.declared.RowState.{RowState}
use Rattle.values.specs.declared.RowState.TheVariants.{Absent, Running}
use Rattle.values.specs.Numbers.{same_state}
use Rattle.model.specs.Search.{has}
use Rattle.model.specs.Rows.{marked, added}
use Rattle.model.specs.Sheets.{Lower}
use Rattle.model.proofs.Basics.{put_all}
use Rattle.std.proofs.lemmas.Bool.{eqb-true}
use Rattle.rows.specs.declared.row.Predecessors.{Predecessors}
use Rattle.rows.specs.Columns.{no_row, listed, numbered, row_at, preds_of, steps_of, columns, Positive}

pub row_past : (rows : List Row) (k : ℕ) → (k ≡ 0) ⊎ (length rows < k) → no_row ≡ row_at rows k
row_past rows k o = past no_row rows k o

pub row_inside : (rows : List Row) (k : ℕ) (y : Row) → 0 < k → k ≤ length rows → y ≡ get_or rows (k - 1) y → y ≡ row_at rows k
row_inside rows k y h l e = inside no_row rows k y h l e

-- a row looked up by its number
pub row_found : (rows : List Row) (k : ℕ) (o : Option (Bor Row)) → option_copied o ≡ numbered rows k
    → MatchOption o (row_at rows k ≡ no_row) (λ y. y.now ≡ row_at rows k)
row_found rows k o e = found no_row rows k o e

-- a row that is not absent has a number from 1 to the length
pub known_within : (rows : List Row) (k : ℕ) → same_state (row_at rows k).state Absent ≡ false → (0 < k) × (k ≤ length rows)
known_within rows k h =
    let gone : ((k ≡ 0) ⊎ (length rows < k)) → ⊥ =
    λ o. (let z : true ≡ false = ap (λ r. same_state r.state Absent) (row_past rows k o) ∙ h in grind arith) in (
      ⊎_elim (λ e. absurd (gone (inl e.1))) (λ e. omega (arith, e.1)) (eqb_tells k 0),
      ⊎_elim (λ e. e.1) (λ e. absurd (gone (inr e.1))) (leb_tells k (length rows)),
    )

-- one row written
pub row_set : (rows : List Row) (k : ℕ) (x : Row) → 0 < k → k ≤ length rows
    → row_at (set rows (k - 1) x) ≡ at_put (row_at rows) k x
row_set rows k x h l = item_set no_row rows k x h l

-- one row more
row_push : (rows : List Row) (x : Row) → row_at (rows ++ x ∷ []) ≡ at_put (row_at rows) (length rows + 1) x
row_push rows x = item_push no_row rows x

-- a column of what rows hold: the row written holds y there
pub column_put : {B : Type 0} (f : Row → B) (g : ℕ → Row) (k : ℕ) (x : Row) → ◌≡◌ {A = ℕ → B} (λ j. f (at_put g k x j)) (at_put (λ j. f (g j)) k (f x))
column_put f g k x = fun_ext (λ j. go (eqb j k) j)
  where
    go : (t : Bool) (j : ℕ) → f (cond t x (g j)) ≡ cond t (f x) (f (g j))
    go true j = refl
    go false j = refl

-- a column that the write does not change
pub column_kept : {B : Type 0} (f : Row → B) (g : ℕ → Row) (k : ℕ) (x : Row) → f x ≡ f (g k) → ◌≡◌ {A = ℕ → B} (λ j. f (at_put g k x j)) (λ j. f (g j))
column_kept f g k x e = fun_ext (λ j. go (eqb j k) j refl)
  where
    go : (t : Bool) (j : ℕ) → eqb j k ≡ t → f (cond t x (g j)) ≡ f (g j)
    go true j z = e ∙ ap (λ i. f (g i)) (sym (eqb-true j k z))
    go false j z = refl

abbrev pub turned : Row → RowState → Row
turned y to = record { step = y.step; predecessors = y.predecessors; entry = y.entry; state = to; rolled = y.rolled }

abbrev pub rolled_by : Row → ℕ → Row
rolled_by y n = record { step = y.step; predecessors = y.predecessors; entry = y.entry; state = y.state; rolled = n }

-- one row written for another
module _ (rows : List Row) (k : ℕ) (y x : Row) (low : 0 < k) (high : k ≤ length rows) (is : y ≡ row_at rows k) where
  pub kept : {B : Type 0} (f : Row → B) → f x ≡ f y → ◌≡◌ {A = ℕ → B} (λ j. f (row_at (set rows (k - 1) x) j)) (λ j. f (row_at rows j))
  kept f e = ap (λ g j. f (g j)) (row_set rows k x low high) ∙ column_kept f (row_at rows) k x (e ∙ ap f is)

  pub written : {B : Type 0} (f : Row → B)
      → ◌≡◌ {A = ℕ → B} (λ j. f (row_at (set rows (k - 1) x) j)) (at_put (λ j. f (row_at rows j)) k (f x))
  written f = ap (λ g j. f (g j)) (row_set rows k x low high) ∙ column_put f (row_at rows) k x

-- one row's rollback written
module _ (rows : List Row) (k : ℕ) (y : Row) (n : ℕ) (low : 0 < k) (high : k ≤ length rows) (is : y ≡ row_at rows k) where
  abbrev rolled_rows : List Row
  rolled_rows = set rows (k - 1) (rolled_by y n)

  stays : {B : Type 0} (f : Row → B) → f (rolled_by y n) ≡ f y → ◌≡◌ {A = ℕ → B} (λ j. f (row_at rolled_rows j)) (λ j. f (row_at rows j))
  stays f e = kept rows k y (rolled_by y n) low high is f e

  pub preds_rolled : preds_of rolled_rows ≡ preds_of rows
  preds_rolled = stays (λ r. listed r.predecessors) refl

  pub steps_rolled : steps_of rolled_rows ≡ steps_of rows
  steps_rolled = stays (λ r. r.step) refl

  pub states_rolled : ◌≡◌ {A = ℕ → RowState} (λ j. (row_at rolled_rows j).state) (λ j. (row_at rows j).state)
  states_rolled = stays (λ r. r.state) refl

  pub columns_rolled : columns rolled_rows ≡ columns rows
  columns_rolled = λ i. record {
    count = length-set rows (k - 1) (rolled_by y n) i;
    step = steps_rolled i;
    preds = preds_rolled i;
    entry = stays (λ r. r.entry) refl i;
    state = states_rolled i;
  }

  pub rolled_written : ◌≡◌ {A = ℕ → ℕ} (λ j. (row_at rolled_rows j).rolled) (at_put (λ j. (row_at rows j).rolled) k n)
  rolled_written = written rows k y (rolled_by y n) low high is (λ r. r.rolled)

-- one row's state written
module _ (rows : List Row) (k : ℕ) (y : Row) (to : RowState) (low : 0 < k) (high : k ≤ length rows) (is : y ≡ row_at rows k) where
  stays_marked : {B : Type 0} (f : Row → B) → f (turned y to) ≡ f y → ◌≡◌ {A = ℕ → B} (λ j. f (row_at (set rows (k - 1) (turned y to)) j)) (λ j. f (row_at rows j))
  stays_marked f e = kept rows k y (turned y to) low high is f e

  -- the predecessors stay
  pub preds_marked : preds_of (set rows (k - 1) (turned y to)) ≡ preds_of rows
  preds_marked = stays_marked (λ r. listed r.predecessors) refl

  pub steps_marked : steps_of (set rows (k - 1) (turned y to)) ≡ steps_of rows
  steps_marked = stays_marked (λ r. r.step) refl

  pub states_marked : ◌≡◌ {A = ℕ → RowState} (λ j. (row_at (set rows (k - 1) (turned y to)) j).state) (at_put (λ j. (row_at rows j).state) k to)
  states_marked = written rows k y (turned y to) low high is (λ r. r.state)

  pub columns_marked : columns (set rows (k - 1) (turned y to)) ≡ marked (columns rows) k to
  columns_marked = λ i. record {
    count = length-set rows (k - 1) (turned y to) i;
    step = steps_marked i;
    preds = preds_marked i;
    entry = stays_marked (λ r. r.entry) refl i;
    state = states_marked i;
  }

  pub rolled_marked : ◌≡◌ {A = ℕ → ℕ} (λ j. (row_at (set rows (k - 1) (turned y to)) j).rolled) (λ j. (row_at rows j).rolled)
  rolled_marked = stays_marked (λ r. r.rolled) refl

abbrev pub opened : ℕ → Predecessors → Entry → Row
opened step ps e = record { step = step; predecessors = ps; entry = e; state = Running; rolled = 0 }

-- one row added
module _ (rows : List Row) (step : ℕ) (ps : Predecessors) (fs : List ℕ) (e : Entry) (is : listed ps ≡ fs) where
  abbrev pub more : List Row
  more = rows ++ opened step ps e ∷ []

  grown : {B : Type 0} (f : Row → B) → ◌≡◌ {A = ℕ → B} (λ j. f (row_at more j)) (at_put (λ j. f (row_at rows j)) (length rows + 1) (f (opened step ps e)))
  grown f = ap (λ g j. f (g j)) (row_push rows (opened step ps e)) ∙ column_put f (row_at rows) (length rows + 1) (opened step ps e)

  pub preds_grown : preds_of more ≡ at_put (preds_of rows) (length rows + 1) fs
  preds_grown = grown (λ r. listed r.predecessors) ∙ ap (at_put (preds_of rows) (length rows + 1)) is

  pub steps_grown : steps_of more ≡ at_put (steps_of rows) (length rows + 1) step
  steps_grown = grown (λ r. r.step)

  pub states_grown : ◌≡◌ {A = ℕ → RowState} (λ j. (row_at more j).state) (at_put (λ j. (row_at rows j).state) (length rows + 1) Running)
  states_grown = grown (λ r. r.state)

  pub columns_added : columns more ≡ added (columns rows) step fs e
  columns_added = λ i. record {
    count = length_push rows (opened step ps e) i;
    step = steps_grown i;
    preds = preds_grown i;
    entry = grown (λ r. r.entry) i;
    state = states_grown i;
  }

  pub rolled_added : ◌≡◌ {A = ℕ → ℕ} (λ j. (row_at more j).rolled) (λ j. (row_at rows j).rolled)
  rolled_added =
      ap (λ g j. (g j).rolled) (row_push rows (opened step ps e))
      ∙ column_kept (λ r. r.rolled) (row_at rows) (length rows + 1) (opened step ps e)
      (ap (λ r. r.rolled) (row_past rows (length rows + 1) (inr (omega arith))))

-- what holds of each row's predecessors, where a row is added
module _ (rows : List Row) (fs : List ℕ) where
  pub positive_added : Positive (preds_of rows) → ((x : ℕ) → has x fs ≡ true → 1 ≤ x)
      → Positive (at_put (preds_of rows) (length rows + 1) fs)
  positive_added h up = put_all (λ _ xs. (x : ℕ) → has x xs ≡ true → 1 ≤ x) (preds_of rows) (length rows + 1) fs h up

  pub lower_added : Lower (preds_of rows) → ((x : ℕ) → has x fs ≡ true → x ≤ length rows)
      → Lower (at_put (preds_of rows) (length rows + 1) fs)
  lower_added h up =
      put_all (λ v xs. (x : ℕ) → has x xs ≡ true → x < v) (preds_of rows) (length rows + 1) fs h
      (λ x m. let l = up x m in omega arith)
