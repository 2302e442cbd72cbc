-- A journal's calls played from its settings: what is printed of each, and what is left in the end. It is a function of the
-- journal alone. Assumes nothing.
use Rattle.std.specs.Prelude.{ℕ, ◌+◌, ◌<◌, ◌≤◌, ◌^◌, Bool, true, false, cond, List, [], ◌++◌, take, drop, fold, codes}
use Rattle.std.specs.List.{zip}
use Rattle.values.specs.declared.Answer.{Answer}
use Rattle.values.specs.declared.Answer.TheVariants.{Row, Done, Ticket, Listed, Declined}
use Rattle.model.specs.Book.{accepted}
use Rattle.model.specs.Chart.{Chart}
use Rattle.model.specs.Run as run
use Rattle.sheet.specs.Lent.{zeros}
use Rattle.sheet.specs.declared.events.Event.{Event}
use Rattle.sheet.specs.declared.events.Sizes.{Sizes}
use Rattle.sheet.specs.declared.events.Taken.{Taken}
use Rattle.club.specs.Commands.{Command}
use Rattle.journal.specs.Calls.{Call, start, end, abort, undo, finish, park, resume, listing, reply, lend, control, call_of, call_text}
use Rattle.club.specs.Hosts.{Switches, all_on, commanded, are_shut, opening_hosts}
use Rattle.playing.specs.Spelled.{row_text, ticket_text, listed_text, hex_text, declined_text, text_line}
use Rattle.playing.specs.declared.summary.CallCounts.{CallCounts}

-- a call on the sheet, other memory, or a command for the hosts
pub data Part : Type 0 where
  called : Part
  lent : Part
  commands : Command → Part

abbrev pub part_of : Call → Part
part_of (start step predecessors entry) = called
part_of (end row) = called
part_of (abort mode) = called
part_of (undo ticket row) = called
part_of (finish ticket) = called
part_of (park ticket) = called
part_of resume = called
part_of listing = called
part_of (reply place) = called
part_of (lend sizes) = lent
part_of (control command) = commands command

-- how the switches stand after it
abbrev pub steered : Part → Switches → Switches
steered called s = s
steered lent s = s
steered (commands command) s = commanded command s

-- the model's event, where the hosts are shut after it or not
abbrev pub event_of : Bool → Call → run.Event
event_of shut (start step predecessors entry) = run.start step predecessors entry
event_of shut (end row) = run.end row
event_of shut (abort mode) = run.abort mode
event_of shut (undo ticket row) = run.undo ticket row
event_of shut (finish ticket) = run.finish ticket
event_of shut (park ticket) = run.park ticket
event_of shut resume = run.resume
event_of shut listing = run.listing
event_of shut (reply place) = run.reply place
event_of shut (lend sizes) = run.lend (zeros sizes)
event_of shut (control command) = run.control shut

-- the numbers of calls with one more, if it is one
abbrev pub counted : Part → Bool → CallCounts → CallCounts
counted called accepted n = record { all = n.all + 1; accepted = n.accepted + cond accepted 1 0; declined = n.declined + cond accepted 0 1 }
counted lent accepted n = n
counted (commands command) accepted n = n

-- no calls yet
abbrev pub no_calls : CallCounts
no_calls = record { all = 0; accepted = 0; declined = 0 }

-- the numbers of calls with one event more, by what was told of it
abbrev pub counted_event : CallCounts → Event Command × Taken → CallCounts
counted_event n (e, t) = counted (part_of (call_of e)) (accepted t.answer) n

-- the numbers of the calls among events, as far as it was told of them
abbrev pub counts_along : List (Event Command) → List Taken → CallCounts
counts_along es ts = fold counted_event no_calls (zip es ts)

abbrev pub is_called : Part → Bool
is_called called = true
is_called lent = false
is_called (commands command) = false

-- with so many calls more the numbers still fit 64 bits
pub record Fits (more : ℕ) (n : CallCounts) : Type 0 where
  pub all : n.all + more < 2 ^ 64
  pub accepted : n.accepted ≤ n.all
  pub declined : n.declined ≤ n.all

-- what is printed where nothing more is answered: of a reply its 32 bytes
abbrev pub done_text : Call → run.Lent → List ℕ
done_text (start step predecessors entry) l = codes "done"
done_text (end row) l = codes "done"
done_text (abort mode) l = codes "done"
done_text (undo ticket row) l = codes "done"
done_text (finish ticket) l = codes "done"
done_text (park ticket) l = codes "done"
done_text resume l = codes "done"
done_text listing l = codes "done"
done_text (reply place) l = hex_text (take 32 (drop place l.buffer))
done_text (lend sizes) l = codes "done"
done_text (control command) l = codes "done"

-- what is printed of an answer, with what the call wrote into lent memory
abbrev pub told_text : Call → Answer → run.Lent → List ℕ
told_text call (Row row) l = row_text row
told_text call Done l = done_text call l
told_text call (Ticket t) l = ticket_text t
told_text call (Listed n m) l = listed_text (take n l.arrows) (take m l.restarts)
told_text call (Declined f) l = declined_text f

-- the line that is printed of it; of other memory none is
abbrev pub told_line : Part → ℕ → List ℕ → List ℕ → List ℕ
told_line called n word text = text_line n word text
told_line lent n word text = []
told_line (commands command) n word text = text_line n word text

-- how far a journal was played: the world, how the switches stand, what was printed, and how many calls there were
pub record Played : Type 0 where
  pub world : run.World
  pub switches : Switches
  pub printed : List ℕ
  pub calls : CallCounts

-- the call of line n played
abbrev pub play_one : Chart → Played → ℕ × Call → Played
play_one c p (n, call) =
    let switches = steered (part_of call) p.switches in
    let (world, answer) = run.does c p.world (event_of (are_shut switches) call) in
    record {
      world = world;
      switches = switches;
      printed = p.printed ++ told_line (part_of call) n (call_text call) (told_text call answer world.lent);
      calls = counted (part_of call) (accepted answer) p.calls;
    }

-- one after another
abbrev pub play : Chart → Played → List (ℕ × Call) → Played
play c p ls = fold (play_one c) p ls

-- the memory before a journal's first line on it
abbrev pub first_sizes : Sizes
first_sizes = record { column = 257; line = 256; arrows = 32640; restarts = 257; buffer = 32 }

-- a blank sheet with this serial, at new hosts, in that memory
abbrev pub first_world : ℕ → ℕ → ℕ → run.World
first_world serial scores ledger = run.opening serial (opening_hosts scores ledger) (zeros first_sizes)

-- before the first call, after what was printed before
abbrev pub unplayed : ℕ → ℕ → ℕ → List ℕ → Played
unplayed serial scores ledger before = record {
  world = first_world serial scores ledger;
  switches = all_on;
  printed = before;
  calls = no_calls;
}
