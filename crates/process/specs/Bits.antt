-- Numbers that are made of fields of bits, of which the first is the highest. Assumes nothing.
use Rattle.std.specs.Prelude.{ℕ, ◌+◌, ◌*◌, ◌/◌, ◌%◌, ◌^◌, ◌<◌, List, [], ◌∷◌}

abbrev pub total : List ℕ → ℕ
total [] = 0
total (w ∷ ws) = w + total ws

-- the number in which fields of these widths have these values
abbrev pub pack : List ℕ → List ℕ → ℕ
pack [] vs = 0
pack (w ∷ ws) [] = 0
pack (w ∷ ws) (v ∷ vs) = v * 2 ^ total ws + pack ws vs

-- the field of a width above the `low` lowest bits
abbrev pub field : ℕ → ℕ → ℕ → ℕ
field low width n = n / 2 ^ low % 2 ^ width

-- the values of the fields of these widths
abbrev pub unpack : List ℕ → ℕ → List ℕ
unpack [] n = []
unpack (w ∷ ws) n = field (total ws) w n ∷ unpack ws n

-- a value for each width, which it fits
abbrev pub Fit : List ℕ → List ℕ → Type 0
Fit [] [] = Unit {0}
Fit [] (v ∷ vs) = ⊥
Fit (w ∷ ws) [] = ⊥
Fit (w ∷ ws) (v ∷ vs) = (v < 2 ^ w) × Fit ws vs

-- two bytes, and four
abbrev pub two_bytes : List ℕ
two_bytes = 8 ∷ 8 ∷ []

abbrev pub four_bytes : List ℕ
four_bytes = 8 ∷ 8 ∷ 8 ∷ 8 ∷ []
