-- The hosts of the program, and how their switches stand. Assumes nothing.
use Rattle.std.specs.Prelude.{◌≡◌, ℕ, ℤ, Bool, true, false, not, ◌||◌, min}
use Rattle.values.specs.declared.Kind.TheVariants.{Score, Fee}
use Rattle.host.specs.Keys.{rows_most}
use Rattle.host.specs.View.{View, blank}
use Rattle.host.specs.Known.{Known, known_by, only, is_kind, Alone, Sorted}
use Rattle.host.specs.Views.{switched, joined, switch_view, pair_view, SwitchHolds, PairHolds}
use Rattle.host.specs.declared.pair.Pair.{Pair}
use Rattle.host.specs.declared.pair.PairCommand.TheVariants.{First, Second}
use Rattle.host.specs.declared.switch.Switch.{Switch}
use Rattle.host.specs.declared.switch.SwitchCommand.TheVariants.{On, Off, Below}
use Rattle.scorebook.specs.Book.{book_view}
use Rattle.scorebook.specs.declared.book.ScoreBook.{ScoreBook}
use Rattle.ledger.specs.Book.{ledger_view, rows_in}
use Rattle.ledger.specs.Fees.{standing_sum}
use Rattle.ledger.specs.declared.book.Ledger.{Ledger}
use Rattle.club.specs.Commands.{ForSwitch, Command}

-- the program's host: a ledger with a switch over it for fees, and for all other rows a score book with a switch over it
abbrev pub Hosts : Type 0
Hosts = Pair (Switch Ledger) (Switch ScoreBook)

abbrev pub hosts_view : Hosts → View
hosts_view h = pair_view (switch_view ledger_view) (switch_view book_view) h

abbrev pub hosts_hold : Hosts → Known → Type 0
hosts_hold h known = PairHolds (SwitchHolds (Alone ledger_view)) (SwitchHolds (Alone book_view)) h known

-- fees are in the ledger and everything else is in the score book
pub record InOrder (h : Hosts) : Type 0 where
  pub kind : h.kind ≡ Fee
  pub sorted : Sorted hosts_view hosts_hold h

-- the sum of the fees that stand among the rows that a host shows
abbrev pub fees_standing : View → ℤ
fees_standing v = standing_sum (only (is_kind Fee) (known_by v))

-- what new hosts show, whose tables have so many records and lines
abbrev pub opening_hosts : ℕ → ℕ → View
opening_hosts scores ledger =
    joined Fee (switched true (blank Fee (rows_in ledger))) (switched true (blank Score (min rows_most scores)))

-- whether the ledger's switch is on, and the score book's
pub record Switches : Type 0 where
  pub ledger : Bool
  pub scores : Bool

abbrev pub all_on : Switches
all_on = record { ledger = true; scores = true }

abbrev pub switches_of : Hosts → Switches
switches_of h = record { ledger = h.first.on; scores = h.second.on }

abbrev pub turned_by : ForSwitch → Bool → Bool
turned_by On on = true
turned_by Off on = false
turned_by (Below c) on = on

abbrev pub commanded : Command → Switches → Switches
commanded (First one) s = record { ledger = turned_by one s.ledger; scores = s.scores }
commanded (Second one) s = record { ledger = s.ledger; scores = turned_by one s.scores }

-- the hosts are shut while a switch is off
abbrev pub are_shut : Switches → Bool
are_shut s = not s.ledger || not s.scores
