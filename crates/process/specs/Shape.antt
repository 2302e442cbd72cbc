-- What the last checks look for. Assumes nothing.
use Rattle.std.specs.Prelude.{◌≡◌, ℕ, ◌<◌, ◌≤◌, Bool, true, false, ◌&&◌, List, length, Some, None, Option, nat_le, slice_index_or}
use Rattle.graph.specs.Column.{marked}
use Rattle.graph.specs.Reach.{Within}
use Rattle.process.specs.declared.parts.Arrow.{Arrow}
use Rattle.process.specs.Stored.{Tail, Head}
use Rattle.process.specs.Stored.{ends_at, Fine, no_arrow}
use Rattle.process.specs.Reading.{before, FirstUnfit}

-- each arrow comes before every later one
abbrev pub Sorted : List Arrow → Type 0
Sorted zs = (i j : ℕ) → (i < j) × (j < length zs) → before (slice_index_or zs i no_arrow) (slice_index_or zs j no_arrow) ≡ true

-- both ends of each arrow are steps, of n
abbrev pub Inside : ℕ → List Arrow → Type 0
Inside n zs = (i : ℕ) → i < length zs
    → Within n (slice_index_or zs i no_arrow).from × Within n (slice_index_or zs i no_arrow).to

-- neither more than 8 arrows leave step k nor more than 8 enter it, and it is marked
abbrev pub fine_by : List ℕ → List Arrow → ℕ → Bool
fine_by marks zs k = nat_le (ends_at Tail zs k) 8 && (nat_le (ends_at Head zs k) 8 && marked marks k)

-- the lowest step that is not, if there is one
abbrev pub LowestUnfit : List ℕ → List Arrow → ℕ → Option ℕ → Type 0
LowestUnfit marks zs n None = (k : ℕ) → Within n k → fine_by marks zs k ≡ true
LowestUnfit marks zs n (Some k) =
    Within n k × ((j : ℕ) → 1 ≤ j → j < k → fine_by marks zs j ≡ true) × (fine_by marks zs k ≡ false)

-- what the last checks find: no step that is not fine, or the lowest
abbrev pub Shaped : List Arrow → ℕ → Option ℕ → Type 0
Shaped zs n None = (k : ℕ) → Within n k → Fine zs n k
Shaped zs n (Some k) = FirstUnfit zs n k
