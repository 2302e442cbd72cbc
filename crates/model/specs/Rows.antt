-- Numbered rows: what a sheet has, and what the reference book has. Assumes nothing.
use Rattle.std.specs.Prelude.{ℕ, ◌+◌, Bool, not, ◌&&◌, ◌||◌, List, [], is_some, None, nat_le}
use Rattle.values.specs.Numbers.{same_state}
use Rattle.values.specs.declared.Entry.{Entry}
use Rattle.values.specs.declared.Kind.TheVariants.{Score}
use Rattle.values.specs.declared.RowState.{RowState}
use Rattle.values.specs.declared.RowState.TheVariants.{Absent, Running, Committed}
use Rattle.model.specs.Search.{any_below, at_put}
use Rattle.model.specs.Chart.{Chart, step_at}

-- Rows have the numbers 1 to `count`. Each column has what a row holds, by its number: its step, the rows that it
-- follows by one arrow, its entry and its state. A number that has no row is absent.
pub record Rows : Type 0 where
  pub count : ℕ
  pub step : ℕ → ℕ
  pub preds : ℕ → List ℕ
  pub entry : ℕ → Entry
  pub state : ℕ → RowState

abbrev pub no_entry : Entry
no_entry = record { kind = Score; number = None }

abbrev pub no_rows : Rows
no_rows = record { count = 0; step = λ _. 0; preds = λ _. []; entry = λ _. no_entry; state = λ _. Absent }

abbrev pub with_states : Rows → (ℕ → RowState) → Rows
with_states r st = record { count = r.count; step = r.step; preds = r.preds; entry = r.entry; state = st }

-- one row put into another state
abbrev pub marked : Rows → ℕ → RowState → Rows
marked r k st = with_states r (at_put r.state k st)

-- one row more, running
abbrev pub added : Rows → ℕ → List ℕ → Entry → Rows
added r k fs e = record {
  count = r.count + 1;
  step = at_put r.step (r.count + 1) k;
  preds = at_put r.preds (r.count + 1) fs;
  entry = at_put r.entry (r.count + 1) e;
  state = at_put r.state (r.count + 1) Running;
}

-- the number is a row's
abbrev pub is_row : Rows → ℕ → Bool
is_row r k = nat_le 1 k && nat_le k r.count

-- the row is in that state
abbrev pub in_state : Rows → RowState → ℕ → Bool
in_state r st k = same_state (r.state k) st

-- the states of a live row
abbrev pub live : RowState → Bool
live st = same_state st Running || same_state st Committed

abbrev pub any_live : Rows → Bool
any_live r = any_below (r.count + 1) (λ k. live (r.state k))

abbrev pub is_savepoint : Chart → Rows → ℕ → Bool
is_savepoint c r k = (step_at c (r.step k)).savepoint

-- an idle row leaves nothing to compensate: its step offers no way to, or it has an empty entry in a step that is public
abbrev pub idle : Chart → Rows → ℕ → Bool
idle c r k =
    not (step_at c (r.step k)).counterpart || (not (step_at c (r.step k)).private && not (is_some (r.entry k).number))
