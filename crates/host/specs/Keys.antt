-- How a host knows a row: the one place that says what a row's key is. Assumes nothing.
use Rattle.std.specs.Prelude.{ℕ, Bool, ◌&&◌, ◌==◌, nat_le}

-- a row is known by its number
abbrev pub RowKey : Type 0
RowKey = ℕ

-- the key of the row with a number
abbrev pub key_of : ℕ → RowKey
key_of number = number

-- the most rows that there can be
abbrev pub rows_most : ℕ
rows_most = 256

-- the keys under which a host can know a row: 1 to 256
abbrev pub is_row : RowKey → Bool
is_row row = nat_le 1 row && nat_le row rows_most

abbrev pub same_row : RowKey → RowKey → Bool
same_row a b = a == b

-- the place of a fault at a row
abbrev pub place_of : RowKey → ℕ
place_of row = row

-- the number of the row with a key
abbrev pub number_of : RowKey → ℕ
number_of row = row

-- which keys are those of the rows of a sheet with this serial: all keys that a host knows, since a host serves one sheet
abbrev pub is_of_sheet : ℕ → RowKey → Bool
is_of_sheet serial row = is_row row
