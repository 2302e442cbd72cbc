-- What the lines of calls say, by their words. Assumes nothing.
use Rattle.std.specs.Prelude.{ℕ, ◌+◌, cond, List, [], ◌∷◌, take, drop, Some, None, Ok, Err, Option, Result, vec_items, codes, ◌==◌, ℤ, pos, neg_ℤ, slice_index, position}
use Rattle.std.specs.List.{slice_split}
use Rattle.std.specs.Str.{bytes_eq}
use Rattle.values.specs.declared.Entry.{Entry}
use Rattle.values.specs.declared.Kind.{Kind}
use Rattle.values.specs.declared.Kind.TheVariants.{Score, Fee}
use Rattle.values.specs.declared.Mode.{Mode}
use Rattle.values.specs.declared.Mode.TheVariants.{Complete, Partial}
use Rattle.values.specs.declared.TicketNumber.{TicketNumber}
use Rattle.sheet.specs.declared.events.Event.{Event}
use Rattle.sheet.specs.declared.events.Event.TheVariants as event
use Rattle.sheet.specs.declared.events.Sizes.{Sizes}
use Rattle.club.specs.Commands.{Command, command_for, turn_of}
use Rattle.club.specs.declared.commands.Book.TheVariants.{Ledger, Scores}
use Rattle.club.specs.declared.commands.Turn.{Turn}
use Rattle.club.specs.declared.commands.Turn.TheVariants as turn
use Rattle.journal.specs.declared.Wrong.{Wrong}
use Rattle.journal.specs.declared.Wrong.TheVariants.{TooFewWords, NotATicket, NotAKind, NotAMode, NotAHost}
use Rattle.journal.specs.declared.events.Line.{Line}
use Rattle.journal.specs.declared.calls.CallWord.{CallWord}
use Rattle.journal.specs.declared.calls.CallWord.TheVariants as word
use Rattle.journal.specs.Text.{and_then, only, no_words, two, four, five, number}

-- a call, other lent memory, or a command for the hosts
pub data Call : Type 0 where
  start : ℕ → List ℕ → Entry → Call
  end : ℕ → Call
  abort : Mode → Call
  undo : TicketNumber → ℕ → Call
  finish : TicketNumber → Call
  park : TicketNumber → Call
  resume : Call
  listing : Call
  reply : ℕ → Call
  lend : Sizes → Call
  control : Command → Call

-- the same of the code's event
abbrev pub call_of : Event Command → Call
call_of (event.Start step predecessors entry) = start step (vec_items predecessors) entry
call_of (event.End row) = end row
call_of (event.Abort mode) = abort mode
call_of (event.Undo ticket row) = undo ticket row
call_of (event.Finish ticket) = finish ticket
call_of (event.Park ticket) = park ticket
call_of event.Resume = resume
call_of event.Listing = listing
call_of (event.Reply place) = reply place
call_of (event.Lend sizes) = lend sizes
call_of (event.Control command) = control command

-- the same of a line that was read, with its number
abbrev pub line_read : Line → ℕ × Call
line_read l = (l.number, call_of l.event)

-- ── words ──

-- the two numbers that a ticket shows, before its first slash and after it
abbrev pub ticket_at : Option ℕ → List ℕ → Result TicketNumber Wrong
ticket_at None w = Err NotATicket
ticket_at (Some i) w =
    and_then (number 65535 (take i w)) (λ s. and_then (number 65535 (drop (i + 1) w)) (λ r. Ok (record { serial = s; rollback = r })))

abbrev pub ticket : List ℕ → Result TicketNumber Wrong
ticket w = ticket_at (position (λ b. b == 47) w) w

-- the parts of a word between its commas
abbrev pub parts : List ℕ → List (List ℕ)
parts w = slice_split (λ b. b == 44) w

-- the numbers that words say, from left to right
abbrev pub numbers : List (List ℕ) → Result (List ℕ) Wrong
numbers [] = Ok []
numbers (w ∷ ws) = and_then (number 65535 w) (λ n. and_then (numbers ws) (λ ns. Ok (n ∷ ns)))

-- the rows that a word lists: a minus sign lists none
abbrev pub rows : List ℕ → Result (List ℕ) Wrong
rows w = cond (bytes_eq w (codes "-")) (Ok []) (numbers (parts w))

abbrev pub kind : List ℕ → Result Kind Wrong
kind w = cond (bytes_eq w (codes "score")) (Ok Score) (cond (bytes_eq w (codes "fee")) (Ok Fee) (Err NotAKind))

-- a signed number of 32 bits
abbrev pub signed : List ℕ → Result ℤ Wrong
signed w =
    cond (slice_index w 0 == 45) (and_then (number 2147483648 (drop 1 w)) (λ n. Ok (neg_ℤ (pos n))))
    (and_then (number 2147483647 w) (λ n. Ok (pos n)))

-- the number of an entry, which a minus sign alone makes empty
abbrev pub amount : List ℕ → Result (Option ℤ) Wrong
amount w = cond (bytes_eq w (codes "-")) (Ok None) (and_then (signed w) (λ z. Ok (Some z)))

-- a command for the named host
abbrev pub turned : Turn → List ℕ → Result Command Wrong
turned t w =
    cond (bytes_eq w (codes "ledger")) (Ok (command_for t Ledger)) (cond (bytes_eq w (codes "scores")) (Ok (command_for t Scores)) (Err NotAHost))

-- ── a line's words after the first ──

abbrev pub started : List (List ℕ) → Result Call Wrong
started ws =
    and_then (four ws) (λ p. and_then (number 65535 p.0) (λ step. and_then (rows p.1) (λ predecessors. and_then (kind p.2) (λ k.
    and_then (amount p.3) (λ n. Ok (start step predecessors (record { kind = k; number = n })))))))

-- one number, and one ticket
abbrev pub only_number : ℕ → List (List ℕ) → Result ℕ Wrong
only_number limit ws = and_then (only ws) (number limit)

abbrev pub only_ticket : List (List ℕ) → Result TicketNumber Wrong
only_ticket ws = and_then (only ws) ticket

-- the first word says whether a row follows
abbrev pub mode_named : List ℕ → List (List ℕ) → Result Mode Wrong
mode_named w ws =
    cond (bytes_eq w (codes "complete")) (and_then (no_words ws) (λ _. Ok Complete))
    (cond (bytes_eq w (codes "partial")) (and_then (only_number 65535 ws) (λ row. Ok (Partial row))) (Err NotAMode))

abbrev pub mode : List (List ℕ) → Result Mode Wrong
mode [] = Err TooFewWords
mode (w ∷ ws) = mode_named w ws

abbrev pub undone : List (List ℕ) → Result Call Wrong
undone ws = and_then (two ws) (λ p. and_then (ticket p.0) (λ t. and_then (number 65535 p.1) (λ row. Ok (undo t row))))

abbrev pub only_turned : Turn → List (List ℕ) → Result Command Wrong
only_turned t ws = and_then (only ws) (turned t)

abbrev pub sizes : List (List ℕ) → Result Sizes Wrong
sizes ws =
    and_then (five ws) (λ p. and_then (number 1000000 p.0) (λ a. and_then (number 1000000 p.1) (λ b. and_then (number 1000000 p.2) (λ c.
    and_then (number 1000000 p.3) (λ d. and_then (number 1000000 p.4) (λ e.
    Ok (record { column = a; line = b; arrows = c; restarts = d; buffer = e })))))))

-- the first word of a call's line
abbrev pub call_word : List ℕ → Option CallWord
call_word w =
    cond (bytes_eq w (codes "start")) (Some word.Start)
    (cond (bytes_eq w (codes "end")) (Some word.End)
    (cond (bytes_eq w (codes "abort")) (Some word.Abort)
    (cond (bytes_eq w (codes "undo")) (Some word.Undo)
    (cond (bytes_eq w (codes "finish")) (Some word.Finish)
    (cond (bytes_eq w (codes "park")) (Some word.Park)
    (cond (bytes_eq w (codes "resume")) (Some word.Resume)
    (cond (bytes_eq w (codes "listing")) (Some word.Listing)
    (cond (bytes_eq w (codes "reply")) (Some word.Reply)
    (cond (bytes_eq w (codes "shut")) (Some word.Shut)
    (cond (bytes_eq w (codes "open")) (Some word.Open)
    (cond (bytes_eq w (codes "memory")) (Some word.Memory) None)))))))))))

-- what a line with this first word says, by its other words
abbrev pub called : CallWord → List (List ℕ) → Result Call Wrong
called word.Start ws = started ws
called word.End ws = and_then (only_number 65535 ws) (λ row. Ok (end row))
called word.Abort ws = and_then (mode ws) (λ m. Ok (abort m))
called word.Undo ws = undone ws
called word.Finish ws = and_then (only_ticket ws) (λ t. Ok (finish t))
called word.Park ws = and_then (only_ticket ws) (λ t. Ok (park t))
called word.Resume ws = and_then (no_words ws) (λ _. Ok resume)
called word.Listing ws = and_then (no_words ws) (λ _. Ok listing)
called word.Reply ws = and_then (only_number 4294967295 ws) (λ place. Ok (reply place))
called word.Shut ws = and_then (only_turned turn.Shut ws) (λ c. Ok (control c))
called word.Open ws = and_then (only_turned turn.Open ws) (λ c. Ok (control c))
called word.Memory ws = and_then (sizes ws) (λ z. Ok (lend z))

-- the first word of the line of a command, and so of each line of a call
abbrev pub turn_text : Turn → List ℕ
turn_text turn.Open = codes "open"
turn_text turn.Shut = codes "shut"

abbrev pub call_text : Call → List ℕ
call_text (start step predecessors entry) = codes "start"
call_text (end row) = codes "end"
call_text (abort mode) = codes "abort"
call_text (undo ticket row) = codes "undo"
call_text (finish ticket) = codes "finish"
call_text (park ticket) = codes "park"
call_text resume = codes "resume"
call_text listing = codes "listing"
call_text (reply place) = codes "reply"
call_text (lend sizes) = codes "memory"
call_text (control command) = turn_text (turn_of command)
