-- A competition as a list of events: what each answers, and what it leaves. Assumes nothing.
use Rattle.std.specs.Prelude.{ℕ, ◌+◌, Bool, cond, List, [], ◌∷◌, ◌++◌, length, take, drop, replicate, Some, None, Option}
use Rattle.values.specs.Checks.{after}
use Rattle.values.specs.declared.Answer.{Answer}
use Rattle.values.specs.declared.Answer.TheVariants.{Row, Done, Ticket, Listed, Declined}
use Rattle.values.specs.declared.Entry.{Entry}
use Rattle.values.specs.declared.Fault.{Fault}
use Rattle.values.specs.declared.HostState.TheVariants.{Standing, Reversed}
use Rattle.values.specs.declared.Mode.{Mode}
use Rattle.values.specs.declared.Phase.TheVariants.{Forward, Undoing, Parked}
use Rattle.values.specs.declared.RowArrow.{RowArrow}
use Rattle.values.specs.declared.RowState.TheVariants.{Committed, Undone}
use Rattle.values.specs.declared.TicketNumber.{TicketNumber}
use Rattle.process.specs.Accepted.{enough}
use Rattle.host.specs.Keys.{key_of}
use Rattle.host.specs.View.{View, begun, moved, shut_as}
use Rattle.model.specs.Chart.{Chart, step_at}
use Rattle.model.specs.Rows.{marked, added}
use Rattle.model.specs.Rollback.{restart_points}
use Rattle.model.specs.Sheet.{Sheet, blank, with_rows, with_phase, aborted, ticket_of, graph_arrows}
use Rattle.model.specs.Calls.{lawful, start_fault, end_fault, abort_fault, all_dropped, undo_fault}
use Rattle.model.specs.Calls.{finish_fault, park_fault, resume_fault, listing_fault, reply_fault}
use Rattle.model.specs.Report.{reply_of}

-- The memory that the caller lends: a scratch column, a line of so many numbers, which are free, two tables for a
-- listing, and a buffer for replies
pub record Lent : Type 0 where
  pub column : List ℕ
  pub line : ℕ
  pub arrows : List RowArrow
  pub restarts : List ℕ
  pub buffer : List ℕ

-- a sheet, what its host shows, and the lent memory
pub record World : Type 0 where
  pub sheet : Sheet
  pub host : View
  pub lent : Lent

-- The nine calls, memory of other lengths and contents that is lent from now on, and what happens to the host between
-- calls: it is now shut, or open
pub data Event : Type 0 where
  start : ℕ → List ℕ → Entry → Event
  end : ℕ → Event
  abort : Mode → Event
  undo : TicketNumber → ℕ → Event
  finish : TicketNumber → Event
  park : TicketNumber → Event
  resume : Event
  listing : Event
  reply : ℕ → Event
  lend : Lent → Event
  control : Bool → Event

-- ── what calls leave in lent memory ──

-- 257 zeros, and then the old rest
abbrev pub cleared : List ℕ → List ℕ
cleared column = replicate 257 0 ++ drop 257 column

-- a call that wants column and line leaves the column clear, but as found where either is too short
abbrev pub column_after : List ℕ → ℕ → List ℕ
column_after column line = cond (enough (length column) line) (cleared column) column

-- a table with its first elements written
abbrev pub over : {X : Type 0} → List X → List X → List X
over xs table = xs ++ drop (length xs) table

-- bytes written at a place of a buffer
abbrev pub written_at : ℕ → List ℕ → List ℕ → List ℕ
written_at place bytes buffer = take place buffer ++ (bytes ++ drop (place + length bytes) buffer)

abbrev pub scratched : Lent → Lent
scratched l = record {
  column = column_after l.column l.line;
  line = l.line;
  arrows = l.arrows;
  restarts = l.restarts;
  buffer = l.buffer;
}

abbrev pub listed : Chart → Sheet → Lent → Lent
listed c s l = record {
  column = column_after l.column l.line;
  line = l.line;
  arrows = over (graph_arrows s) l.arrows;
  restarts = over (restart_points c s.rows s.mode) l.restarts;
  buffer = l.buffer;
}

abbrev pub replied : Chart → Sheet → ℕ → Lent → Lent
replied c s place l = record {
  column = l.column;
  line = l.line;
  arrows = l.arrows;
  restarts = l.restarts;
  buffer = written_at place (reply_of c s) l.buffer;
}

-- ── one event ──

abbrev pub world : Sheet → View → Lent → World
world s v l = record { sheet = s; host = v; lent = l }

-- what the caller gets
abbrev pub said : Option Fault → Answer → Answer
said None a = a
said (Some f) a = Declined f

-- the first fault that stands and the world as it was, or else the new world and the answer
abbrev pub decide : Option Fault → World → World → Answer → World × Answer
decide f old new a = (after f old new, said f a)

-- the same for a call that uses the column
abbrev pub scratching : Option Fault → World → Sheet → View → Answer → World × Answer
scratching f w s v a =
    decide f (world w.sheet w.host (scratched w.lent)) (world s v (scratched w.lent)) a

abbrev pub listing_fault_of : Chart → World → Option Fault
listing_fault_of c w =
    let l = w.lent in
    let s = w.sheet in
    listing_fault s (length l.column) l.line (length l.arrows) (length l.restarts)
    (length (graph_arrows s)) (length (restart_points c s.rows s.mode))

abbrev pub does : Chart → World → Event → World × Answer
does c w (start k fs e) =
    let s = w.sheet in
    decide (start_fault c s w.host k fs (lawful (step_at c k) e) e.kind) w
    (world (with_rows s (added s.rows k fs e)) (begun w.host (key_of (s.rows.count + 1)) e) w.lent)
    (Row (s.rows.count + 1))
does c w (end k) =
    let s = w.sheet in
    decide (end_fault s w.host k) w
    (world (with_rows s (marked s.rows k Committed)) (moved Standing w.host (key_of k)) w.lent) Done
does c w (abort m) =
    let s = w.sheet in
    scratching (abort_fault s w.host m (length w.lent.column) w.lent.line) w
    (aborted c s m) (all_dropped s.rows w.host) (Ticket (ticket_of (aborted c s m)))
does c w (undo t k) =
    let s = w.sheet in
    scratching (undo_fault s w.host t k (length w.lent.column) w.lent.line) w
    (with_rows s (marked s.rows k Undone)) (moved Reversed w.host (key_of k)) Done
does c w (finish t) =
    decide (finish_fault w.sheet t) w (world (with_phase w.sheet Forward) w.host w.lent) Done
does c w (park t) =
    decide (park_fault w.sheet t) w (world (with_phase w.sheet Parked) w.host w.lent) Done
does c w resume =
    decide (resume_fault w.sheet) w (world (with_phase w.sheet Undoing) w.host w.lent) (Ticket (ticket_of w.sheet))
does c w listing =
    decide (listing_fault_of c w) (world w.sheet w.host (scratched w.lent))
    (world w.sheet w.host (listed c w.sheet w.lent))
    (Listed (length (graph_arrows w.sheet)) (length (restart_points c w.sheet.rows w.sheet.mode)))
does c w (reply place) =
    decide (reply_fault place (length w.lent.buffer)) w
    (world w.sheet w.host (replied c w.sheet place w.lent)) Done
does c w (lend l) = (world w.sheet w.host l, Done)
does c w (control b) = (world w.sheet (shut_as b w.host) w.lent, Done)

-- ── many events ──

-- the world at the end of a list of events, and the answers in order
abbrev pub runs : Chart → World → List Event → World × List Answer
runs c w [] = (w, [])
runs c w (e ∷ es) =
    let (w', a) = does c w e in
    let (v, rest) = runs c w' es in
    (v, a ∷ rest)

-- the events so far, each with the answer that it got
abbrev pub History : Type 0
History = List (Event × Answer)

-- a history leads from a world to another: each answer is the one that the definitions name
pub data Leads (c : Chart) (first : World) : History → World → Type 0 where
  nothing : Leads c first [] first
  one_more : {h : History} {w : World} → Leads c first h w → (e : Event)
      → Leads c first (h ++ (e, (does c w e).1) ∷ []) (does c w e).0

-- a blank sheet at a host that shows v
abbrev pub opening : ℕ → View → Lent → World
opening serial v l = world (blank serial) v l
