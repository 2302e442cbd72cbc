-- What a guard over a scratch column holds.
use Rattle.std.specs.Prelude.{ℕ, List}
use Rattle.graph.specs.declared.marks.Marks.{Marks}

-- the bytes of the column that the marks stand in
abbrev pub held : Marks → List ℕ
held m = m.column.now
