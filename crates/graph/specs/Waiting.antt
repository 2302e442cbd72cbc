-- What a queue holds, and how much it can hold.
use Rattle.std.specs.Prelude.{ℕ, List, length}
use Rattle.graph.specs.declared.queue.Queue.{Queue}
use Rattle.graph.specs.Ring.{ring}

-- the elements that wait, first to last
abbrev pub waiting : {X : Type 0} → Queue X → List X
waiting q = ring q.slots.now q.head q.count

-- how many elements can wait at once
abbrev pub places : {X : Type 0} → Queue X → ℕ
places q = length q.slots.now
