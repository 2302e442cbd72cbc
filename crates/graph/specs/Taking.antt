-- What it does to a traversal to take in points.
use Rattle.std.specs.Prelude.{◌≡◌, ℕ}
use Rattle.graph.specs.Column.{Marked}
use Rattle.graph.specs.Held.{held}
use Rattle.graph.specs.Search.{Grown}
use Rattle.graph.specs.Waiting.{waiting, places}
use Rattle.graph.specs.declared.traversal.Traversal.{Traversal}

-- the same graph is gone through, in the same memory
pub record SameTraversal (before after : Traversal) : Type 0 where
  pub points : after.points ≡ before.points
  pub places : places after.queue.now ≡ places before.queue.now
  pub queue : after.queue.ghost_name ≡ before.queue.ghost_name
  pub marks : after.marks.ghost_name ≡ before.marks.ghost_name
  pub column : after.marks.now.column.ghost_name ≡ before.marks.now.column.ghost_name

-- the points that have From are taken in, and no others
pub record TakesIn (From : ℕ → Type 0) (before after : Traversal) : Type 0 where
  pub grown : Grown From before.points (held before.marks.now) (waiting before.queue.now) (held after.marks.now) (waiting after.queue.now)
  pub all : (k : ℕ) → From k → Marked (held after.marks.now) k
  pub same : SameTraversal before after
