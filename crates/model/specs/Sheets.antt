-- What holds of every sheet, and what an abort does. Assumes nothing.
use Rattle.std.specs.Prelude.{◌≡◌, ℕ, zero, suc, ◌+◌, ◌<◌, ◌≤◌, true, false, cond, List, [], Some, None, Decides, Option, ◌≢◌, nat_eq}
use Rattle.values.specs.declared.Entry.{Entry}
use Rattle.values.specs.declared.HostState.{HostState}
use Rattle.values.specs.declared.HostState.TheVariants.{Unknown, Open, Standing, Void, Reversed}
use Rattle.values.specs.declared.Mode.{Mode}
use Rattle.values.specs.declared.Mode.TheVariants.{Partial}
use Rattle.values.specs.declared.Phase.TheVariants.{Forward}
use Rattle.values.specs.declared.RowState.{RowState}
use Rattle.values.specs.declared.RowState.TheVariants.{Absent, Running, Committed, Dropped, Due, Undone, PassedOver}
use Rattle.host.specs.Keys.{key_of, number_of, is_of_sheet}
use Rattle.host.specs.Known.{Known, KnownRow, known_row}
use Rattle.host.specs.View.{View}
use Rattle.model.specs.Search.{has}
use Rattle.model.specs.Chart.{Chart}
use Rattle.model.specs.Rows.{live, idle}
use Rattle.model.specs.Rollback.{After, after, backward, strikes}
use Rattle.model.specs.Sheet.{Sheet, aborted, in_graph}
use Rattle.model.specs.Relations.{Backward, StruckSet}

-- predecessors have lower numbers
abbrev pub Lower : (ℕ → List ℕ) → Type 0
Lower preds = (v w : ℕ) → has w (preds v) ≡ true → w < v

pub record Orderly (s : Sheet) : Type 0 where
  -- the rows are those with the numbers 1 to the count
  pub inside : (k : ℕ) → (s.rows.state k ≢ Absent) → (1 ≤ k) × (k ≤ s.rows.count)
  pub present : (k : ℕ) → 1 ≤ k → k ≤ s.rows.count → s.rows.state k ≢ Absent
  -- only rows have predecessors, and these have lower numbers
  pub rows_only : (k : ℕ) → s.rows.count < k → s.rows.preds k ≡ []
  pub lower : Lower s.rows.preds
  -- a live row has only committed predecessors
  pub committed : (v w : ℕ) → live (s.rows.state v) ≡ true → has w (s.rows.preds v) ≡ true → s.rows.state w ≡ Committed
  -- in the forward phase no row is due
  pub none_due : s.phase ≡ Forward → (k : ℕ) → s.rows.state k ≢ Due
  -- no row is undone while a due row is after it
  pub in_order : (u v : ℕ) → After s.rows.preds u v → s.rows.state u ≡ Undone → s.rows.state v ≢ Due
  -- each due row was made due by the last rollback, and no row was struck by one to come
  pub due_now : (k : ℕ) → s.rows.state k ≡ Due → s.rolled k ≡ s.rollback
  pub past : (k : ℕ) → s.rolled k ≤ s.rollback
  -- at most 256 rows, and no more rollbacks than rows
  pub few_rows : s.rows.count ≤ 256
  pub few_rollbacks : s.rollback ≤ s.rows.count

-- how many of the rows 1 to n are not live
abbrev pub gone : (ℕ → RowState) → ℕ → ℕ
gone st zero = 0
gone st (suc n) = gone st n + cond (live (st (suc n))) 0 1

-- What every call keeps: an orderly sheet, each of whose rollbacks took a live row. Calls do not keep the first alone: a
-- sheet with rollback 1 whose only row runs is orderly, and an abort leaves it with two rollbacks and one row
pub record Kept (s : Sheet) : Type 0 where
  pub orderly : Orderly s
  pub spent : s.rollback ≤ gone s.rows.state s.rows.count

-- the computed 'after' is the relation
abbrev pub AfterIsAfter : Sheet → Type 0
AfterIsAfter s = (u v : ℕ) → Decides (after s.rows (nat_eq u) v) (After s.rows.preds u v)

-- the computed backward part and struck set of a running row are the relations
pub record StruckIsStruck (c : Chart) (s : Sheet) : Type 0 where
  pub part : (f u : ℕ) → s.rows.state f ≡ Running → Decides (backward c s.rows f u) (Backward c s.rows f u)
  pub set : (f : ℕ) → s.rows.state f ≡ Running
      → StruckSet c s.rows f (strikes c s.rows (Partial f))

-- what becomes of each row in an abort that is accepted
pub record AbortFalls (c : Chart) (s : Sheet) (m : Mode) : Type 0 where
  -- a struck row was committed; it becomes passed over exactly if it is idle, and else due
  pub struck : (k : ℕ) → strikes c s.rows m k ≡ true → s.rows.state k ≡ Committed
  pub passed : (k : ℕ) → strikes c s.rows m k ≡ true
      → Decides (idle c s.rows k) ((aborted c s m).rows.state k ≡ PassedOver)
  pub due : (k : ℕ) → strikes c s.rows m k ≡ true → idle c s.rows k ≡ false → (aborted c s m).rows.state k ≡ Due
  -- a running row is dropped, and every other row stays as it is
  pub dropped : (k : ℕ) → s.rows.state k ≡ Running → (aborted c s m).rows.state k ≡ Dropped
  pub others : (k : ℕ) → strikes c s.rows m k ≡ false → (s.rows.state k ≢ Running)
      → (aborted c s m).rows.state k ≡ s.rows.state k
  -- the rows of the compensating graph are those that are due now
  pub graph : (k : ℕ) → Decides (in_graph (aborted c s m) k) ((aborted c s m).rows.state k ≡ Due)

-- ── the host ──

-- the state at the host that goes with a row's
abbrev pub host_state_of : RowState → HostState
host_state_of Absent = Unknown
host_state_of Running = Open
host_state_of Committed = Standing
host_state_of Dropped = Void
host_state_of Due = Standing
host_state_of Undone = Reversed
host_state_of PassedOver = Standing

-- a row's entry; none where there is no such row
abbrev pub entry_of : RowState → Entry → Option Entry
entry_of Absent e = None
entry_of Running e = Some e
entry_of Committed e = Some e
entry_of Dropped e = Some e
entry_of Due e = Some e
entry_of Undone e = Some e
entry_of PassedOver e = Some e

-- the host knows exactly the sheet's rows, in the states that go with theirs, with their entries; a number that has no
-- row, also 0 and any above 256, is unknown to it
pub record HostFollows (s : Sheet) (v : View) : Type 0 where
  pub states : (k : ℕ) → v.state (key_of k) ≡ host_state_of (s.rows.state k)
  pub entries : (k : ℕ) → v.entry (key_of k) ≡ entry_of (s.rows.state k) (s.rows.entry k)

-- row k of a sheet as a host knows it
abbrev pub row_known : Sheet → ℕ → Option KnownRow
row_known s k = known_row (host_state_of (s.rows.state k)) (entry_of (s.rows.state k) (s.rows.entry k))

-- under the keys of its rows a sheet's rows, and under all other keys what was known before
abbrev pub with_rows_known : Sheet → Known → Known
with_rows_known s before key = cond (is_of_sheet s.serial key) (row_known s (number_of key)) (before key)
