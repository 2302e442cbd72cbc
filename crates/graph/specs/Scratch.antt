-- The memory that a traversal is lent: what room there is in it, and what stays of it.
use Rattle.std.specs.Prelude.{◌≡◌, ℕ, Bool, length}
use Rattle.graph.specs.Column.{Kept}
use Rattle.graph.specs.Held.{held}
use Rattle.graph.specs.Reach.{roomy}
use Rattle.graph.specs.declared.scratch.Scratch.{Scratch}

-- whether there is room to traverse a graph of n points
abbrev pub roomy_in : ℕ → Scratch → Bool
roomy_in n s = roomy n (length s.line.now) (length (held s.marks.now))

-- the column and the line are as they were
abbrev pub Untouched : Scratch → Scratch → Type 0
Untouched before after = (held after.marks.now ≡ held before.marks.now) × (after.line.now ≡ before.line.now)

-- the same memory is lent as before, and what follows the marks in the column is as it was
pub record SameLoans (before after : Scratch) : Type 0 where
  pub marks : after.marks.ghost_name ≡ before.marks.ghost_name
  pub column : after.marks.now.column.ghost_name ≡ before.marks.now.column.ghost_name
  pub line : after.line.ghost_name ≡ before.line.ghost_name
  pub places : length after.line.now ≡ length before.line.now
  pub kept : Kept (held before.marks.now) (held after.marks.now)
