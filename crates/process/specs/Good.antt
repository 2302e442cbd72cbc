-- A record without fault, and the end of a stored process without left-over bytes. Assumes nothing.
use Rattle.std.specs.Prelude.{◌≡◌, ℕ, ◌+◌, ◌<◌, ◌≤◌, true, false, List, length}
use Rattle.process.specs.declared.cursor.Cursor.{Cursor}
use Rattle.process.specs.Reading.{Expected, HeaderRecord, StepRecord, ArrowRecord, NoRecord}
use Rattle.process.specs.Stored.{Before}
use Rattle.process.specs.Reading.{is_begun, step_count, steps_to_come, arrows_to_come, last_arrow, header_at, step_at, arrow_at, name_length, read_arrow}

pub record GoodHeader (xs : List ℕ) (c : Cursor) : Type 0 where
  pub first : is_begun c ≡ false
  pub long : 4 ≤ length xs
  pub form_is : header_at xs 0 ≡ 1
  pub spare_is : header_at xs 3 ≡ 0
  pub some_steps : 1 ≤ header_at xs 1
  pub few_steps : header_at xs 1 ≤ 64
  pub few_arrows : header_at xs 2 ≤ 512

pub record GoodStep (xs : List ℕ) (c : Cursor) : Type 0 where
  pub begun : is_begun c ≡ true
  pub wanted : 0 < steps_to_come c
  pub long : 2 + name_length xs ≤ length xs
  pub spare_is : step_at xs 7 ≡ 0
  pub kind_low : step_at xs 5 ≤ 1
  pub some_name : 1 ≤ name_length xs

pub record GoodArrow (xs : List ℕ) (c : Cursor) : Type 0 where
  pub begun : is_begun c ≡ true
  pub no_step : steps_to_come c ≡ 0
  pub wanted : 0 < arrows_to_come c
  pub long : 2 ≤ length xs
  pub spare_is : arrow_at xs 2 ≡ 0
  pub from_high : (read_arrow xs).from ≤ step_count c
  pub to_high : (read_arrow xs).to ≤ step_count c
  pub to_low : (read_arrow xs).to ≡ 1 → ⊥
  pub rising : Before (last_arrow c) (read_arrow xs)

pub record GoodEnd (xs : List ℕ) (c : Cursor) : Type 0 where
  pub begun : is_begun c ≡ true
  pub no_step : steps_to_come c ≡ 0
  pub no_arrow_left : arrows_to_come c ≡ 0
  pub none_left : length xs ≡ 0

abbrev pub Good : Expected → List ℕ → Cursor → Type 0
Good HeaderRecord xs c = GoodHeader xs c
Good StepRecord xs c = GoodStep xs c
Good ArrowRecord xs c = GoodArrow xs c
Good NoRecord xs c = GoodEnd xs c
