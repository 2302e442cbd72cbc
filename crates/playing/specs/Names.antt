-- The names of the steps that a stored process hands out, as they are printed. Assumes nothing.
use Rattle.std.specs.Prelude.{ℕ, zero, suc, List, [], ◌∷◌, map, Some, None, Ok, Err, vec_items, string_bytes, String, Option, Result, Vec}
use Rattle.std.specs.declared.alloc.Global.{Global}
use Rattle.values.specs.declared.Fault.{Fault}
use Rattle.process.specs.declared.cursor.Cursor.{Cursor}
use Rattle.process.specs.Reading.{Record, header, step, arrow, Got, next}
use Rattle.playing.specs.Spelled.{shown_name}

-- the texts of names
abbrev pub texts : Vec (String Global) Global → List (List ℕ)
texts v = map string_bytes (vec_items v)

-- a record's name before others: only a step has one
abbrev pub name_before : Record → List (List ℕ) → List (List ℕ)
name_before (header n m) names = names
name_before (step s place) names = shown_name s.name ∷ names
name_before (arrow a) names = names

-- the same of what the reader hands out; at its end there are no others
abbrev pub name_if : Option Record → List (List ℕ) → List (List ℕ)
name_if None names = []
name_if (Some i) names = name_before i names

abbrev pub names_after : Result Got Fault → (List ℕ → Cursor → List (List ℕ)) → List (List ℕ)
names_after (Err f) on = []
names_after (Ok g) on = name_if g.said (on g.rest g.cursor)

-- the names of the steps among the next k records, up to the end or a fault
abbrev pub names_handed : ℕ → List ℕ → Cursor → List (List ℕ)
names_handed zero xs c = []
names_handed (suc k) xs c = names_after (next xs c) (names_handed k)
