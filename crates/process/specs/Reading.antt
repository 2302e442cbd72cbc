-- What the reader answers for any bytes: each record's checks in their order, record by record. Assumes nothing.
use Rattle.std.specs.Prelude.{◌≡◌, ℕ, ◌+◌, ◌-◌, ◌<◌, ◌≤◌, Bool, cond, not, ◌&&◌, ◌||◌, List, [], ◌∷◌, ◌++◌, length, take, drop, Some, None, Ok, Err, Option, Result, ◌==◌, nat_lt, slice_index}
use Rattle.std.specs.Option.{is_some, option_map, option_map_or, unwrap_or}
use Rattle.values.specs.Checks.{bad, first_fault, answer}
use Rattle.values.specs.declared.Kind.{Kind}
use Rattle.values.specs.declared.Kind.TheVariants.{Score, Fee}
use Rattle.values.specs.declared.Flow.{Flow}
use Rattle.values.specs.declared.Flow.TheVariants.{One, All}
use Rattle.values.specs.declared.Cause.{Cause}
use Rattle.values.specs.declared.Cause.TheVariants.{WrongLength, WrongForm, WrongValue, WrongStep}
use Rattle.values.specs.declared.Layer.TheVariants.{Reader}
use Rattle.values.specs.declared.Fault.{Fault}
use Rattle.graph.specs.Reach.{Within}
use Rattle.process.specs.declared.parts.Step.{Step}
use Rattle.process.specs.declared.parts.Arrow.{Arrow}
use Rattle.process.specs.declared.cursor.Cursor.{Cursor}
use Rattle.process.specs.declared.cursor.Progress.{Progress}
use Rattle.process.specs.Bits.{pack, unpack, two_bytes, four_bytes}
use Rattle.process.specs.Stored.{Named, Plan, header_widths, step_widths, arrow_widths, no_arrow, Fine}

-- what one record says; a step with the place of its name
pub data Record : Type 0 where
  header : ℕ → ℕ → Record
  step : Named → ℕ → Record
  arrow : Arrow → Record

-- the first two bytes, and the first four, as numbers
abbrev pub word2 : List ℕ → ℕ
word2 xs = pack two_bytes (slice_index xs 0 ∷ slice_index xs 1 ∷ [])

abbrev pub word4 : List ℕ → ℕ
word4 xs = pack four_bytes (slice_index xs 0 ∷ slice_index xs 1 ∷ slice_index xs 2 ∷ slice_index xs 3 ∷ [])

-- a field of the record that the bytes begin with
abbrev pub header_at : List ℕ → ℕ → ℕ
header_at xs i = slice_index (unpack header_widths (word4 xs)) i

abbrev pub step_at : List ℕ → ℕ → ℕ
step_at xs i = slice_index (unpack step_widths (word2 xs)) i

abbrev pub arrow_at : List ℕ → ℕ → ℕ
arrow_at xs i = slice_index (unpack arrow_widths (word2 xs)) i

abbrev pub flow_of : ℕ → Flow
flow_of n = cond (n == 0) One All

abbrev pub kind_of : ℕ → Kind
kind_of n = cond (n == 0) Score Fee

abbrev pub name_length : List ℕ → ℕ
name_length xs = step_at xs 6

-- the step whose record begins with the 16 bits
abbrev pub step_of : ℕ → Step
step_of n = record {
  savepoint = (slice_index (unpack step_widths n) 0 == 1);
  counterpart = (slice_index (unpack step_widths n) 1 == 1);
  private = (slice_index (unpack step_widths n) 2 == 1);
  entry = flow_of (slice_index (unpack step_widths n) 3);
  exit = flow_of (slice_index (unpack step_widths n) 4);
  kind = kind_of (slice_index (unpack step_widths n) 5);
}

abbrev pub read_step : List ℕ → Named
read_step xs = record { step = step_of (word2 xs); name = take (name_length xs) (drop 2 xs) }

abbrev pub read_arrow : List ℕ → Arrow
read_arrow xs = record { from = arrow_at xs 0 + 1; to = arrow_at xs 1 + 1 }

-- the first comes before the second
abbrev pub before : Arrow → Arrow → Bool
before a b = nat_lt a.from b.from || (a.from == b.from && nat_lt a.to b.to)

-- which record comes next
pub data Expected : Type 0 where
  HeaderRecord : Expected
  StepRecord : Expected
  ArrowRecord : Expected
  NoRecord : Expected

-- where the reader stands: whether the header is read, how many steps there are by it, how many steps and arrows are
-- still to come, and the last arrow that was read, or `no_arrow` before the first
abbrev pub is_begun : Cursor → Bool
is_begun c = is_some c.progress

abbrev pub step_count : Cursor → ℕ
step_count c = option_map_or (λ p. p.steps) c.progress 0

abbrev pub steps_to_come : Cursor → ℕ
steps_to_come c = option_map_or (λ p. p.steps_left) c.progress 0

abbrev pub arrows_to_come : Cursor → ℕ
arrows_to_come c = option_map_or (λ p. p.arrows_left) c.progress 0

abbrev pub arrow_or_none : Option Arrow → Arrow
arrow_or_none o = unwrap_or o no_arrow

abbrev pub last_arrow : Cursor → Arrow
last_arrow c = option_map_or (λ p. arrow_or_none p.last) c.progress no_arrow

abbrev pub expected : Cursor → Expected
expected c =
    cond (is_begun c)
    (cond (nat_lt 0 (steps_to_come c)) StepRecord (cond (nat_lt 0 (arrows_to_come c)) ArrowRecord NoRecord))
    HeaderRecord

-- a fault of the reader at the record's first byte
abbrev pub wrong : Bool → Cause → Cursor → Option Fault
wrong b cause c = bad b cause Reader c.place

-- the checks of a record, first to last: whether it is all there; its form number and spare bits; its values
abbrev pub checks : Expected → List ℕ → Cursor → List (Option Fault)
checks HeaderRecord xs c =
    wrong (nat_lt (length xs) 4) WrongLength c
    ∷ wrong (not (header_at xs 0 == 1) || nat_lt 0 (header_at xs 3)) WrongForm c
    ∷ wrong (header_at xs 1 == 0 || (nat_lt 64 (header_at xs 1) || nat_lt 512 (header_at xs 2))) WrongValue c
    ∷ []
checks StepRecord xs c =
    wrong (nat_lt (length xs) 2 || nat_lt (length xs) (2 + name_length xs)) WrongLength c
    ∷ wrong (nat_lt 0 (step_at xs 7)) WrongForm c
    ∷ wrong (nat_lt 1 (step_at xs 5) || name_length xs == 0) WrongValue c
    ∷ []
checks ArrowRecord xs c =
    wrong (nat_lt (length xs) 2) WrongLength c
    ∷ wrong (nat_lt 0 (arrow_at xs 2)) WrongForm c
    ∷ wrong
    (nat_lt (step_count c) (read_arrow xs).from || (nat_lt (step_count c) (read_arrow xs).to
    || ((read_arrow xs).to == 1 || not (before (last_arrow c) (read_arrow xs)))))
    WrongValue c
    ∷ []
checks NoRecord xs c = wrong (nat_lt 0 (length xs)) WrongLength c ∷ []

-- how many bytes the record takes
abbrev pub size : Expected → List ℕ → ℕ
size HeaderRecord xs = 4
size StepRecord xs = 2 + name_length xs
size ArrowRecord xs = 2
size NoRecord xs = 0

-- what it says
abbrev pub says : Expected → List ℕ → Cursor → Option Record
says HeaderRecord xs c = Some (header (header_at xs 1) (header_at xs 2))
says StepRecord xs c = Some (step (read_step xs) (c.place + 2))
says ArrowRecord xs c = Some (arrow (read_arrow xs))
says NoRecord xs c = None

-- with one step fewer to come, and with one arrow fewer
abbrev pub step_done : Progress → Progress
step_done p = record { steps = p.steps; steps_left = p.steps_left - 1; arrows_left = p.arrows_left; last = p.last }

abbrev pub arrow_done : Arrow → Progress → Progress
arrow_done a p = record { steps = p.steps; steps_left = p.steps_left; arrows_left = p.arrows_left - 1; last = Some a }

-- after a header of n steps and m arrows
abbrev pub header_done : ℕ → ℕ → Progress
header_done n m = record { steps = n; steps_left = n; arrows_left = m; last = None }

-- where the reader stands after it
abbrev pub moved : Expected → List ℕ → Cursor → Cursor
moved HeaderRecord xs c = record { place = c.place + 4; progress = Some (header_done (header_at xs 1) (header_at xs 2)) }
moved StepRecord xs c = record { place = c.place + (2 + name_length xs); progress = option_map step_done c.progress }
moved ArrowRecord xs c = record { place = c.place + 2; progress = option_map (arrow_done (read_arrow xs)) c.progress }
moved NoRecord xs c = c

-- one record read: what it says, the bytes after it, where the reader stands then
pub record Got : Type 0 where
  pub said : Option Record
  pub rest : List ℕ
  pub cursor : Cursor

abbrev pub got : Expected → List ℕ → Cursor → Got
got e xs c = record { said = says e xs c; rest = drop (size e xs) xs; cursor = moved e xs c }

-- the first check that stands, else the record
abbrev pub next_of : Expected → List ℕ → Cursor → Result Got Fault
next_of e xs c = answer (first_fault (checks e xs c)) (got e xs c)

abbrev pub next : List ℕ → Cursor → Result Got Fault
next xs c = next_of (expected c) xs c

-- where the reader begins
abbrev pub start : Cursor
start = record { place = 0; progress = None }

-- what was read so far, with one record more
abbrev pub with_record : Plan → Record → Plan
with_record p (header n m) = p
with_record p (step s place) = record { steps = p.steps ++ s ∷ []; arrows = p.arrows }
with_record p (arrow a) = record { steps = p.steps; arrows = p.arrows ++ a ∷ [] }

abbrev pub no_plan : Plan
no_plan = record { steps = []; arrows = [] }

-- the lowest step that is not fine
pub record FirstUnfit (zs : List Arrow) (n k : ℕ) : Type 0 where
  pub step_of : Within n k
  pub below_fine : (j : ℕ) → 1 ≤ j → j < k → Fine zs n j
  pub not_fine : Fine zs n k → ⊥

-- the records that are left are read one after another, where the reader stands at c and has read p:
-- to the end, or to the first record at fault
pub data Scans : List ℕ → Cursor → Plan → Result Plan Fault → Type 0 where
  declined : {xs : List ℕ} {c : Cursor} {p : Plan} {f : Fault} → next xs c ≡ Err f → Scans xs c p (Err f)
  more : {xs : List ℕ} {c : Cursor} {p : Plan} {r : Result Plan Fault} {i : Record} {ys : List ℕ} {d : Cursor}
      → next xs c ≡ Ok (record { said = Some i; rest = ys; cursor = d })
      → Scans ys d (with_record p i) r → Scans xs c p r
  ended : {xs : List ℕ} {c : Cursor} {p : Plan} {ys : List ℕ} {d : Cursor}
      → next xs c ≡ Ok (record { said = None; rest = ys; cursor = d }) → Scans xs c p (Ok p)

abbrev pub Scan : List ℕ → Result Plan Fault → Type 0
Scan xs r = Scans xs start no_plan r

-- the answer for any bytes: a fault of a record, if there is one; else of the lowest step that has too many arrows or is not
-- reached; else the process
pub data Answer : List ℕ → Result Plan Fault → Type 0 where
  faulty : {xs : List ℕ} {f : Fault} → Scan xs (Err f) → Answer xs (Err f)
  unfit : {xs : List ℕ} {p : Plan} {k : ℕ} → Scan xs (Ok p) → FirstUnfit p.arrows (length p.steps) k
      → Answer xs (Err (record { cause = WrongStep; layer = Reader; place = k }))
  accepted : {xs : List ℕ} {p : Plan} → Scan xs (Ok p)
      → ((k : ℕ) → Within (length p.steps) k → Fine p.arrows (length p.steps) k)
      → Answer xs (Ok p)
