-- The law over every run. Assumes nothing.
use Rattle.std.specs.Prelude.{◌≡◌, ℕ, ◌≤◌, true, List, [], ◌∷◌, ◌++◌, map, ◌≢◌}
use Rattle.values.specs.declared.Answer.TheVariants.{Done}
use Rattle.values.specs.declared.Entry.{Entry}
use Rattle.values.specs.declared.RowState.TheVariants.{Due}
use Rattle.values.specs.declared.TicketNumber.{TicketNumber}
use Rattle.host.specs.View.{View, Fresh, Sound}
use Rattle.model.specs.Chart.{Chart, step_at}
use Rattle.model.specs.Rows.{Rows}
use Rattle.model.specs.Rollback.{After}
use Rattle.model.specs.Calls.{lawful}
use Rattle.model.specs.Run.{World, Lent, Event, start, undo, finish, does, History, Leads, opening}
use Rattle.model.specs.Book.{Book, book_of, undos_of, times}
use Rattle.model.specs.Sheets.{HostFollows}

-- ── other runs, in which private entries differ ──

-- two events that are the same, or start a private step with one lawful entry or with another
pub data Alike (c : Chart) : Event → Event → Type 0 where
  same : {e : Event} → Alike c e e
  swapped : {k : ℕ} {fs : List ℕ} {a b : Entry} → (step_at c k).private ≡ true
      → lawful (step_at c k) a ≡ true → lawful (step_at c k) b ≡ true → Alike c (start k fs a) (start k fs b)

pub data AllAlike (c : Chart) : List Event → List Event → Type 0 where
  none : AllAlike c [] []
  more : {e f : Event} {es fs : List Event} → Alike c e f → AllAlike c es fs → AllAlike c (e ∷ es) (f ∷ fs)

abbrev pub events_of : History → List Event
events_of h = map (λ x. x.0) h

-- ── the law ──

-- a rollback is finished: each row that the reference book turned undone was undone exactly once, and no other, in
-- whatever order; and the rows are the book's lines
pub record Finished (rows : Rows) (undos : List ℕ) (b : Book) : Type 0 where
  pub rearranged : (k : ℕ) → times k undos ≡ times k b.turned
  pub once : (k : ℕ) → times k undos ≤ 1
  pub alike : rows ≡ b.lines

-- what holds of an event that comes after the history h, which leads from `first` to w
pub record EventLaw (c : Chart) (first : World) (h : History) (w : World) (e : Event) : Type 0 where
  -- where it is an accepted undo, no row after the undone one is due just before
  pub no_undo_before_a_due_row_after_it : (t : TicketNumber) (u : ℕ) → e ≡ undo t u → (does c w e).1 ≡ Done
      → (v : ℕ) → After w.sheet.rows.preds u v → w.sheet.rows.state v ≢ Due
  -- where it is an accepted finish, the undos since the last abort are those of the reference book
  pub finish_is_the_book : (t : TicketNumber) → e ≡ finish t → (does c w e).1 ≡ Done
      → Finished (does c w e).0.sheet.rows (undos_of h) (book_of c h)
  -- afterwards the host knows exactly the sheet's rows
  pub host_follows : HostFollows (does c w e).0.sheet (does c w e).0.host
  -- every other run that differs only in lawful entries of private starts gives the same answer and the same bytes
  pub private_entries_change_no_answer : {g : History} {v : World} {f : Event} → Leads c first g v
      → AllAlike c (events_of h) (events_of g) → Alike c e f
      → ((does c v f).1 ≡ (does c w e).1) × ((does c v f).0.lent ≡ (does c w e).0.lent)

-- a history that leads from `first` to a world, with the law at each of its events
pub data LawfulHistory (c : Chart) (first : World) : History → World → Type 0 where
  nothing : HostFollows first.sheet first.host → LawfulHistory c first [] first
  one_more : {h : History} {w : World} → LawfulHistory c first h w → (e : Event) → EventLaw c first h w e
      → LawfulHistory c first (h ++ (e, (does c w e).1) ∷ []) (does c w e).0

-- the law over every run: from a blank sheet of any process, with any serial, at any fresh host, shut or open and with any
-- room, and in any lent memory
abbrev pub LawOverEveryRun : Type 0
LawOverEveryRun =
    (c : Chart) (serial : ℕ) (v : View) (l : Lent) → Fresh v → Sound v → (h : History) (w : World)
    → Leads c (opening serial v l) h w → LawfulHistory c (opening serial v l) h w

-- a world that calls lead to
pub record Reached (c : Chart) (w : World) : Type 0 where
  pub serial : ℕ
  pub view : View
  pub lent : Lent
  pub fresh : Fresh view
  pub sound : Sound view
  pub history : History
  pub leads : Leads c (opening serial view lent) history w
