-- The balance, by the lines and by the rows. Assumes nothing.
use Rattle.std.specs.Prelude.{ℕ, zero, suc, cond, List, ℤ, pos, ◌+ℤ◌, neg_ℤ, Some, None, fold, Option}
use Rattle.values.specs.Numbers.{same_host_state}
use Rattle.values.specs.declared.HostState.TheVariants.{Standing}
use Rattle.host.specs.Keys.{RowKey, key_of, rows_most}
use Rattle.host.specs.Known.{Known, KnownRow}
use Rattle.ledger.specs.declared.lines.Mark.{Mark}
use Rattle.ledger.specs.declared.lines.Mark.TheVariants.{Hold, Post, Contra, Release}
use Rattle.ledger.specs.declared.lines.Line.{Line}
use Rattle.ledger.specs.Lines.{last_of, state_by, lines_due}

-- the number of an entry; an empty one counts 0
abbrev pub number_of : Option ℤ → ℤ
number_of None = pos 0
number_of (Some n) = n

-- what a mark makes of an amount in the balance
abbrev pub marked : Mark → ℤ → ℤ
marked Hold n = pos 0
marked Post n = n
marked Contra n = neg_ℤ n
marked Release n = pos 0

abbrev pub worth : Line → ℤ
worth l = marked l.mark (number_of l.entry.number)

-- the balance by the lines: what was posted, without what contras took back
abbrev pub posted : List Line → ℤ
posted ls = fold (λ sum l. sum +ℤ worth l) (pos 0) ls

-- a sum over the rows 1 to n
unfoldable pub sum_rows : ℕ → (RowKey → ℤ) → ℤ
sum_rows zero f = pos 0
sum_rows (suc n) f = sum_rows n f +ℤ f (key_of (suc n))

-- the number of a known row that stands, else 0
abbrev pub standing_number : Option KnownRow → ℤ
standing_number None = pos 0
standing_number (Some r) = cond (same_host_state r.state Standing) (number_of r.entry.number) (pos 0)

-- the sum of the numbers of the rows that stand
abbrev pub standing_sum : Known → ℤ
standing_sum rows = sum_rows rows_most (λ row. standing_number (rows row))

-- how many more lines the rows so far may need
abbrev pub reserved : List Line → ℤ
reserved ls = sum_rows rows_most (λ row. pos (lines_due (state_by (last_of ls row))))
