-- Fields of bits that are set in place, at the beginning of some bytes. Assumes nothing.
use Rattle.std.specs.Prelude.{◌≡◌, ℕ, ◌+◌, ◌-◌, ◌*◌, ◌^◌, cond, List, [], ◌∷◌, ◌++◌, length, drop, slice_set}
use Rattle.values.specs.Numbers.{phase_number}
use Rattle.process.specs.Bits.{pack, field}
use Rattle.model.specs.Chart.{step_at}
use Rattle.model.specs.Search.{each_below}
use Rattle.model.specs.Report.{highest_below, reply_bytes, reply_of}
use Rattle.model.specs.Replies.{fields_of}
use Rattle.model.specs.Rows.{Rows}
use Rattle.model.specs.Run.{over}
use Rattle.rows.specs.Highest.{is_highest}
use Rattle.sheet.specs.declared.sheets.Sheet.{Sheet}
use Rattle.sheet.specs.SheetOf.{sheet_of, chart_of}

-- the number that the first 32 bytes hold
unfoldable pub number_of : List ℕ → ℕ
number_of bytes = pack reply_bytes bytes

-- so many bits above the `low` lowest ones have a value; the other bits of the first 32 bytes are kept, and the other bytes
pub record Sets (low width value : ℕ) (before after : List ℕ) : Type 0 where
  pub bits : number_of after + field low width (number_of before) * 2 ^ low ≡ number_of before + value * 2 ^ low
  pub rest : drop 32 after ≡ drop 32 before

-- the field of step k has a value; the other fields are kept, and the other bytes
pub record SetsStep (k value : ℕ) (before after : List ℕ) : Type 0 where
  pub fields : fields_of after ≡ slice_set (fields_of before) (k + 3) value
  pub rest : drop 32 after ≡ drop 32 before

-- the fields of a reply in which each step has the value that `shows` names
unfoldable pub fields_with : Sheet → (ℕ → ℕ) → List ℕ
fields_with x shows =
    1 ∷ phase_number (sheet_of x).phase ∷ (length (chart_of x).0 - 1) ∷ (sheet_of x).rollback
    ∷ (each_below 64 (λ i. shows (i + 1) ∷ []) ++ 0 ∷ [])

-- the first 32 bytes have these fields
abbrev pub Shows : Sheet → (ℕ → ℕ) → List ℕ → Type 0
Shows x shows bytes = fields_of bytes ≡ fields_with x shows

-- they have them now; the other bytes are kept
pub record ShowsNow (x : Sheet) (shows : ℕ → ℕ) (before after : List ℕ) : Type 0 where
  pub reply : Shows x shows after
  pub rest : drop 32 after ≡ drop 32 before

-- the step of a row that is the highest of its step, and 0 for any other row
unfoldable pub highest_step : Rows → ℕ → ℕ
highest_step r k = cond (is_highest r k) (r.step k) 0

-- what is shown of step k by the highest rows below n
abbrev pub shown_below : Sheet → ℕ → ℕ → ℕ
shown_below x n k =
    cond (step_at (chart_of x) k).private 7
    (highest_below (highest_step (sheet_of x).rows) (sheet_of x).rows.state k n)

-- the reply stands at the beginning of some bytes; the other bytes are kept
pub record StandsFirst (x : Sheet) (before after : List ℕ) : Type 0 where
  pub bytes : after ≡ over (reply_of (chart_of x) (sheet_of x)) before
