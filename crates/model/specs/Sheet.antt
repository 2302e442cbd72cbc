-- The sheet of one competition, and its compensating graph. Assumes nothing.
use Rattle.std.specs.Prelude.{ℕ, ◌+◌, Bool, cond, ◌&&◌, ◌||◌, List, [], map, ◌==◌}
use Rattle.values.specs.declared.Mode.{Mode}
use Rattle.values.specs.declared.Mode.TheVariants.{Complete}
use Rattle.values.specs.declared.Phase.{Phase}
use Rattle.values.specs.declared.Phase.TheVariants.{Forward, Undoing}
use Rattle.values.specs.declared.RowArrow.{RowArrow}
use Rattle.values.specs.declared.RowState.TheVariants.{Running, Due, Undone}
use Rattle.values.specs.declared.TicketNumber.{TicketNumber}
use Rattle.model.specs.Search.{each_below, all_below}
use Rattle.model.specs.Chart.{Chart}
use Rattle.model.specs.Rows.{Rows, no_rows, with_states, in_state}
use Rattle.model.specs.Rollback.{strikes, fallen_states, linked}

-- `rolled` has, by row, the number of the rollback that dropped or struck it, 0 if none did; `mode` is that of the
-- last abort
pub record Sheet : Type 0 where
  pub rows : Rows
  pub rolled : ℕ → ℕ
  pub phase : Phase
  pub rollback : ℕ
  pub serial : ℕ
  pub mode : Mode

abbrev pub blank : ℕ → Sheet
blank n = record { rows = no_rows; rolled = λ _. 0; phase = Forward; rollback = 0; serial = n; mode = Complete }

abbrev pub with_rows : Sheet → Rows → Sheet
with_rows s r = record {
  rows = r;
  rolled = s.rolled;
  phase = s.phase;
  rollback = s.rollback;
  serial = s.serial;
  mode = s.mode;
}

abbrev pub with_phase : Sheet → Phase → Sheet
with_phase s p = record {
  rows = s.rows;
  rolled = s.rolled;
  phase = p;
  rollback = s.rollback;
  serial = s.serial;
  mode = s.mode;
}

-- the sheet after an abort: rows have the states that `fallen_states` names, and one more rollback is under way
abbrev pub aborted : Chart → Sheet → Mode → Sheet
aborted c s m = record {
  rows = with_states s.rows (fallen_states c s.rows m);
  rolled = λ k. cond (in_state s.rows Running k || strikes c s.rows m k) (s.rollback + 1) (s.rolled k);
  phase = Undoing;
  rollback = s.rollback + 1;
  serial = s.serial;
  mode = m;
}

-- the ticket of the current rollback
abbrev pub ticket_of : Sheet → TicketNumber
ticket_of s = record { serial = s.serial; rollback = s.rollback }

-- a row of the compensating graph: the last abort made it due, and it is so still, or undone by now
abbrev pub in_graph : Sheet → ℕ → Bool
in_graph s v = s.rolled v == s.rollback && (in_state s.rows Due v || in_state s.rows Undone v)

-- the arrows from v: to each row of the graph that is linked to v
abbrev pub arrows_from : Sheet → ℕ → List RowArrow
arrows_from s v =
    map (λ u. record { from = v; to = u }) (all_below (s.rows.count + 1) (λ u. in_graph s u && linked s.rows u v))

-- all arrows of the compensating graph, sorted by the row that they come from and then by the other
abbrev pub graph_arrows : Sheet → List RowArrow
graph_arrows s = each_below (s.rows.count + 1) (λ v. cond (in_graph s v) (arrows_from s v) [])
