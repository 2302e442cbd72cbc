-- The reply: 32 bytes on a competition for those outside. Assumes nothing.
use Rattle.std.specs.Prelude.{ℕ, zero, suc, ◌+◌, ◌-◌, cond, List, [], ◌∷◌, ◌++◌, length, replicate, ◌==◌}
use Rattle.values.specs.Numbers.{phase_number, row_state_number}
use Rattle.values.specs.declared.RowState.{RowState}
use Rattle.process.specs.Bits.{pack, unpack}
use Rattle.model.specs.Search.{each_below}
use Rattle.model.specs.Chart.{Chart, step_at}
use Rattle.model.specs.Sheet.{Sheet}

-- the number of the state of the highest row of step k among the rows below n, 0 if there is none
abbrev pub highest_below : (ℕ → ℕ) → (ℕ → RowState) → ℕ → ℕ → ℕ
highest_below steps states k zero = 0
highest_below steps states k (suc n) = cond (steps n == k) (row_state_number (states n)) (highest_below steps states k n)

-- the field of step k in a reply; that of a private step is 7
abbrev pub shown : Chart → Sheet → ℕ → ℕ
shown c s k = cond (step_at c k).private 7 (highest_below s.rows.step s.rows.state k (s.rows.count + 1))

-- the widths of the fields: of form number, phase, number of steps and rollback number, then of each step, then of the zeros
abbrev pub reply_widths : List ℕ
reply_widths = 8 ∷ 2 ∷ 6 ∷ 16 ∷ (replicate 64 3 ++ 32 ∷ [])

abbrev pub reply_fields : Chart → Sheet → List ℕ
reply_fields c s =
    1 ∷ phase_number s.phase ∷ (length c.0 - 1) ∷ s.rollback
    ∷ (each_below 64 (λ i. shown c s (i + 1) ∷ []) ++ 0 ∷ [])

-- 32 bytes
abbrev pub reply_bytes : List ℕ
reply_bytes = replicate 32 8

abbrev pub reply_of : Chart → Sheet → List ℕ
reply_of c s = unpack reply_bytes (pack reply_widths (reply_fields c s))
