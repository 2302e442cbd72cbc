-- What listing and reply answer, and what they leave of the memory that they are lent. Assumes nothing.
use Rattle.std.specs.Prelude.{◌≡◌, ℕ, List, length, Option, Result}
use Rattle.values.specs.Checks.{answer, after}
use Rattle.values.specs.declared.Fault.{Fault}
use Rattle.values.specs.declared.RowArrow.{RowArrow}
use Rattle.model.specs.Chart.{Chart}
use Rattle.model.specs.Sheet.{Sheet, graph_arrows}
use Rattle.model.specs.Rollback.{restart_points}
use Rattle.model.specs.Calls.{listing_fault, reply_fault}
use Rattle.model.specs.Report.{reply_of}
use Rattle.model.specs.Run.{over, written_at}

-- the restart points of a sheet's last abort
abbrev pub points_of : Chart → Sheet → List ℕ
points_of c s = restart_points c s.rows s.mode

-- the fault of a listing, in memory of these lengths
abbrev pub listing_fault_in : Chart → Sheet → ℕ → ℕ → ℕ → ℕ → Option Fault
listing_fault_in c s column line arrows restarts =
    listing_fault s column line arrows restarts (length (graph_arrows s)) (length (points_of c s))

-- a listing, in a column and a line of these lengths: the two tables begin with arrows and restart points, as many as it answers,
-- and stay behind these as they were; a declined listing leaves them alone
pub record Lists (c : Chart) (s : Sheet) (column line : ℕ) (arrows : List RowArrow) (points : List ℕ) (r : Result (ℕ × ℕ) Fault) (arrows' : List RowArrow) (points' : List ℕ) : Type 0 where
  pub answers : r ≡ answer (listing_fault_in c s column line (length arrows) (length points))
      (length (graph_arrows s), length (points_of c s))
  pub arrow_table : arrows' ≡ after (listing_fault_in c s column line (length arrows) (length points)) arrows
      (over (graph_arrows s) arrows)
  pub point_table : points' ≡ after (listing_fault_in c s column line (length arrows) (length points)) points
      (over (points_of c s) points)

-- a reply: its bytes stand from the place on, and what the buffer has elsewhere stays
pub record Replies (c : Chart) (s : Sheet) (place : ℕ) (buffer : List ℕ) (r : Result (Unit {0}) Fault) (buffer' : List ℕ) : Type 0 where
  pub answers : r ≡ answer (reply_fault place (length buffer)) tt
  pub bytes : buffer' ≡ after (reply_fault place (length buffer)) buffer (written_at place (reply_of c s) buffer)
