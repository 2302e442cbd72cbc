-- Eight worked examples, computed from the definitions. Assumes nothing.
use Rattle.std.specs.Prelude.{◌≡◌, ℕ, ◌+◌, true, false, List, [], ◌∷◌, map, take, replicate, ℤ, pos, negsuc, Some, None, codes, Option}
use Rattle.values.specs.declared.Answer.{Answer}
use Rattle.values.specs.declared.Answer.TheVariants.{Done, Declined}
use Rattle.values.specs.declared.Cause.TheVariants.{DueAfter}
use Rattle.values.specs.declared.Entry.{Entry}
use Rattle.values.specs.declared.Flow.TheVariants.{One, All}
use Rattle.values.specs.declared.Kind.TheVariants.{Score, Fee}
use Rattle.values.specs.declared.Layer.TheVariants.{Sheet as OfSheet}
use Rattle.values.specs.declared.Mode.TheVariants.{Partial}
use Rattle.values.specs.declared.RowArrow.{RowArrow}
use Rattle.values.specs.declared.RowState.TheVariants.{Due}
use Rattle.values.specs.declared.TicketNumber.{TicketNumber}
use Rattle.process.specs.Stored.{Plan, stored}
use Rattle.process.specs.declared.parts.Step.{Step}
use Rattle.process.specs.declared.parts.Arrow.{Arrow}
use Rattle.host.specs.View.{View}
use Rattle.values.specs.declared.HostState.TheVariants.{Unknown}
use Rattle.model.specs.Search.{all_below}
use Rattle.model.specs.Chart.{Chart}
use Rattle.model.specs.Rows.{in_state}
use Rattle.model.specs.Rollback.{strikes, restart_points}
use Rattle.model.specs.Sheet.{graph_arrows}
use Rattle.model.specs.Run.{Lent, Event, start, end, abort, undo, finish, reply, does, runs, opening}

-- ── processes ──

abbrev pub arrow : ℕ → ℕ → Arrow
arrow j k = record { from = j; to = k }

-- a public step of scores with a counterpart, of which entry and exit take one branch
abbrev pub plain : Step
plain = record { savepoint = false; counterpart = true; private = false; entry = One; exit = One; kind = Score }

abbrev pub saved : Step
saved = record { savepoint = true; counterpart = true; private = false; entry = One; exit = One; kind = Score }

abbrev pub without_counterpart : Step
without_counterpart = record { savepoint = false; counterpart = false; private = false; entry = One; exit = One; kind = Score }

abbrev pub forking : Step
forking = record { savepoint = false; counterpart = true; private = false; entry = One; exit = All; kind = Score }

abbrev pub entering : Step
entering = record { savepoint = true; counterpart = true; private = false; entry = One; exit = All; kind = Fee }

abbrev pub secret : Step
secret = record { savepoint = false; counterpart = true; private = true; entry = One; exit = One; kind = Score }

abbrev pub publishing : Step
publishing = record { savepoint = false; counterpart = false; private = false; entry = All; exit = One; kind = Score }

-- a competition: a fee and a card side by side, both published, and a check
abbrev pub competition : Plan
competition = record {
  steps = record { step = entering; name = codes "Enter" }
      ∷ record { step = plain; name = codes "Fee" }
      ∷ record { step = secret; name = codes "Card" }
      ∷ record { step = publishing; name = codes "Publish" }
      ∷ record { step = plain; name = codes "Check" } ∷ [];
  arrows = arrow 1 2 ∷ arrow 1 3 ∷ arrow 2 4 ∷ arrow 3 4 ∷ arrow 4 5 ∷ [];
}

abbrev pub chart_of : Plan → Chart
chart_of p = (map (λ s. s.step) p.steps, p.arrows)

-- five steps, each followed by the next; a row of the third cannot be compensated
abbrev pub chain : Chart
chain = (saved ∷ plain ∷ without_counterpart ∷ plain ∷ plain ∷ [], arrow 1 2 ∷ arrow 2 3 ∷ arrow 3 4 ∷ arrow 4 5 ∷ [])

-- a step that forks, with a savepoint on one branch
abbrev pub fork : Chart
fork = (saved ∷ forking ∷ plain ∷ saved ∷ plain ∷ [], arrow 1 2 ∷ arrow 2 3 ∷ arrow 2 4 ∷ arrow 3 5 ∷ [])

-- ── calls ──

abbrev pub score : Option ℤ → Entry
score n = record { kind = Score; number = n }

abbrev pub full : Entry
full = score (Some (negsuc 11))

abbrev pub fee : Entry
fee = record { kind = Fee; number = Some (pos 2500) }

-- a row for each step, of which the last is left running; the card's entry is given, and each other has a number
abbrev pub competing : Entry → List Event
competing card =
    start 1 [] fee ∷ end 1 ∷ start 2 (1 ∷ []) full ∷ start 3 (1 ∷ []) card ∷ end 3 ∷ end 2
    ∷ start 4 (2 ∷ 3 ∷ []) full ∷ end 4 ∷ start 5 (4 ∷ []) full ∷ []

abbrev pub chained : List Event
chained =
    start 1 [] full ∷ end 1 ∷ start 2 (1 ∷ []) full ∷ end 2 ∷ start 3 (2 ∷ []) full ∷ end 3
    ∷ start 4 (3 ∷ []) full ∷ end 4 ∷ start 5 (4 ∷ []) full ∷ []

abbrev pub forked : List Event
forked =
    start 1 [] full ∷ end 1 ∷ start 2 (1 ∷ []) full ∷ end 2 ∷ start 3 (2 ∷ []) full ∷ end 3
    ∷ start 4 (2 ∷ []) full ∷ end 4 ∷ start 5 (3 ∷ []) full ∷ []

abbrev pub ticket : TicketNumber
ticket = record { serial = 9; rollback = 1 }

abbrev pub undone_and_told : List Event
undone_and_told = undo ticket 2 ∷ undo ticket 3 ∷ finish ticket ∷ reply 0 ∷ []

-- ── what is shown ──

-- a process, the calls before the abort, the failing row, and the calls after it
pub record Case : Type 0 where
  pub process : Chart
  pub before : List Event
  pub failing : ℕ
  pub next : List Event

-- what the abort struck and made due, the listing's arrows and restart points, the answers after it, and the first
-- bytes of the buffer
pub record Outcome : Type 0 where
  pub struck : List ℕ
  pub due : List ℕ
  pub arrows : List RowArrow
  pub points : List ℕ
  pub answers : List Answer
  pub told : List ℕ

abbrev pub open_host : View
open_host = record { shut = false; room = λ _. 100; state = λ _. Unknown; entry = λ _. None }

abbrev pub memory : Lent
memory = record { column = replicate 257 0; line = 256; arrows = []; restarts = []; buffer = replicate 32 0 }

abbrev pub outcome : Case → Outcome
outcome x =
    let c = x.process in
    let w = (runs c (opening 9 open_host memory) x.before).0 in
    let v = (does c w (abort (Partial x.failing))).0 in
    let end_of = runs c v x.next in
    record {
      struck = all_below (w.sheet.rows.count + 1) (strikes c w.sheet.rows (Partial x.failing));
      due = all_below (v.sheet.rows.count + 1) (in_state v.sheet.rows Due);
      arrows = graph_arrows v.sheet;
      points = restart_points c v.sheet.rows v.sheet.mode;
      answers = end_of.1;
      told = end_of.0.lent.buffer;
    }

-- an example: the first bytes of a stored process, or a rollback
pub data Example : Type 0 where
  stores : Plan → Example
  rolls_back : Case → Example

pub data Shown : Type 0 where
  first_bytes : List ℕ → Shown
  came_to : Outcome → Shown

abbrev pub shows : Example → Shown
shows (stores p) = first_bytes (take 6 (stored p))
shows (rolls_back x) = came_to (outcome x)

abbrev pub no_bytes : List ℕ
no_bytes = replicate 32 0

abbrev pub told_bytes : List ℕ
told_bytes = 0x01 ∷ 0x04 ∷ 0x00 ∷ 0x01 ∷ 0x57 ∷ 0xE6 ∷ replicate 26 0

abbrev pub competition_rolled_back : List Answer → List ℕ → Outcome
competition_rolled_back answers told =
    record { struck = 2 ∷ 3 ∷ 4 ∷ []; due = 2 ∷ 3 ∷ []; arrows = []; points = 1 ∷ []; answers = answers; told = told }

abbrev pub all_done : List Answer
all_done = Done ∷ Done ∷ Done ∷ Done ∷ []

abbrev pub row_arrow : ℕ → ℕ → RowArrow
row_arrow v u = record { from = v; to = u }

pub record Line : Type 0 where
  pub example : Example
  pub expected : Shown

abbrev pub table : List Line
table =
    -- the header and the first step of the competition
    record {
      example = stores competition;
      expected = first_bytes (0x01 ∷ 0x0A ∷ 0x02 ∷ 0x80 ∷ 0xCA ∷ 0x50 ∷ []);
    }
    -- its last step fails: back to the savepoint
    ∷ record {
      example = rolls_back (record { process = chart_of competition; before = competing full; failing = 5; next = [] });
      expected = came_to (competition_rolled_back [] no_bytes);
    }
    -- the same rollback carried on: two undos, finish, and a reply
    ∷ record {
      example = rolls_back
          (record { process = chart_of competition; before = competing full; failing = 5; next = undone_and_told });
      expected = came_to (competition_rolled_back all_done told_bytes);
    }
    -- an empty private row is due as a full one is
    ∷ record {
      example = rolls_back
          (record { process = chart_of competition; before = competing (score None); failing = 5; next = undone_and_told });
      expected = came_to (competition_rolled_back all_done told_bytes);
    }
    -- a passed-over row between two due ones keeps their order
    ∷ record {
      example = rolls_back (record { process = chain; before = chained; failing = 5; next = undo ticket 2 ∷ [] });
      expected = came_to (record {
        struck = 2 ∷ 3 ∷ 4 ∷ [];
        due = 2 ∷ 4 ∷ [];
        arrows = row_arrow 4 2 ∷ [];
        points = 1 ∷ [];
        answers = Declined (record { cause = DueAfter; layer = OfSheet; place = 4 }) ∷ [];
        told = no_bytes;
      });
    }
    -- a savepoint is struck, as it is after a row of the backward part
    ∷ record {
      example = rolls_back (record { process = fork; before = forked; failing = 5; next = [] });
      expected = came_to (record {
        struck = 2 ∷ 3 ∷ 4 ∷ [];
        due = 2 ∷ 3 ∷ 4 ∷ [];
        arrows = row_arrow 3 2 ∷ row_arrow 4 2 ∷ [];
        points = 1 ∷ [];
        answers = [];
        told = no_bytes;
      });
    }
    -- no row lies between the failing one and a savepoint: the rollback has nothing to undo
    ∷ record {
      example = rolls_back (record {
        process = chain;
        before = start 1 [] full ∷ end 1 ∷ start 2 (1 ∷ []) full ∷ [];
        failing = 2;
        next = finish ticket ∷ [];
      });
      expected = came_to
          (record { struck = []; due = []; arrows = []; points = 1 ∷ []; answers = Done ∷ []; told = no_bytes });
    }
    -- the first step fails: back to the start
    ∷ record {
      example = rolls_back (record { process = chain; before = start 1 [] full ∷ []; failing = 1; next = [] });
      expected = came_to
          (record { struck = []; due = []; arrows = []; points = 0 ∷ []; answers = []; told = no_bytes });
    }
    ∷ []

-- each example shows what is expected
abbrev pub ExamplesShow : Type 0
ExamplesShow = map (λ x. shows x.example) table ≡ map (λ x. x.expected) table
