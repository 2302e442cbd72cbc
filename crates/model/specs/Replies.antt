-- What a reply tells, read back from its bytes. Assumes nothing.
use Rattle.std.specs.Prelude.{◌≡◌, ℕ, ◌+◌, ◌-◌, ◌<◌, ◌≤◌, true, false, List, length, ◌≢◌, slice_index, slice_index_or}
use Rattle.values.specs.Numbers.{phase_number, row_state_number}
use Rattle.process.specs.Bits.{pack, unpack}
use Rattle.model.specs.Chart.{Chart, step_at}
use Rattle.model.specs.Rows.{Rows}
use Rattle.model.specs.Sheet.{Sheet}
use Rattle.model.specs.Report.{reply_widths, reply_bytes, reply_of}

-- the fields of 32 bytes
abbrev pub fields_of : List ℕ → List ℕ
fields_of bytes = unpack reply_widths (pack reply_bytes bytes)

-- the field of step k
abbrev pub step_field : List ℕ → ℕ → ℕ
step_field bytes k = slice_index (fields_of bytes) (k + 3)

-- n is what may be told of step k, by whether it is private, has no row, or has a highest one
pub data Tells (c : Chart) (r : Rows) (k : ℕ) : ℕ → Type 0 where
  private_step : (step_at c k).private ≡ true → Tells c r k 7
  no_row : (step_at c k).private ≡ false → ((j : ℕ) → 1 ≤ j → j ≤ r.count → r.step j ≢ k) → Tells c r k 0
  highest_row : {j : ℕ} → (step_at c k).private ≡ false → 1 ≤ j → j ≤ r.count → r.step j ≡ k
      → ((i : ℕ) → j < i → i ≤ r.count → r.step i ≢ k) → Tells c r k (row_state_number (r.state j))

pub record ReplyTells (c : Chart) (s : Sheet) : Type 0 where
  pub size : length (reply_of c s) ≡ 32
  pub bytes : (i : ℕ) → slice_index (reply_of c s) i < 256
  pub form : slice_index_or (fields_of (reply_of c s)) 0 0 ≡ 1
  pub phase : slice_index_or (fields_of (reply_of c s)) 1 0 ≡ phase_number s.phase
  pub steps : slice_index_or (fields_of (reply_of c s)) 2 0 ≡ length c.0 - 1
  pub rollback : slice_index_or (fields_of (reply_of c s)) 3 0 ≡ s.rollback
  pub field : (k : ℕ) → 1 ≤ k → k ≤ 64 → Tells c s.rows k (step_field (reply_of c s) k)
  pub zeros : slice_index_or (fields_of (reply_of c s)) 68 0 ≡ 0
