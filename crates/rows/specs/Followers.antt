-- The sets that a table keeps beside its rows. Assumes nothing.
use Rattle.std.specs.Prelude.{◌≡◌, ℕ, ◌≤◌, List, length, vec_items, vec_len, vec_capacity}
use Rattle.std.proofs.Math.Bool.{Bool-set}
use Rattle.std.proofs.Math.Bridge.{le_prop}
use Rattle.std.proofs.Math.Nat.{ℕ_set}
use Rattle.model.specs.Search.{has}
use Rattle.rowset.specs.declared.RowSet.{RowSet}
use Rattle.rowset.specs.Members.{contains}
use Rattle.rows.specs.declared.row.Row.{Row}
use Rattle.rows.specs.declared.table.Sets.{Sets}
use Rattle.rows.specs.Columns.{preds_of}
use Rattle.rows.specs.Highest.{HasHighest}
use Rattle.rows.specs.States.{set_at, HaveStates}

-- the set of each row has the rows that follow it by one arrow, and no others
abbrev pub HaveFollowers : List RowSet → (ℕ → List ℕ) → Type 0
HaveFollowers sets preds = (k v : ℕ) → contains (set_at sets k) v ≡ has k (preds v)

-- the sets have what they are to have of the rows, and places for all that can be added
pub record Told (sets : Sets) (rows : List Row) : Type 0 where
  pub followers : HaveFollowers (vec_items sets.followers) (preds_of rows)
  pub level : vec_len sets.followers ≡ length rows
  pub places : 256 ≤ vec_capacity sets.followers
  pub states : HaveStates sets.states rows
  pub highest : HasHighest sets.highest rows

-- the same as a word that does not unfold by itself: a search for a proof would else go through it wherever a table stands
unfoldable pub Tell : Sets → List Row → Type 0
Tell sets rows = Told sets rows

pub Tell-prop : (sets : Sets) (rows : List Row) → IsProp (Tell sets rows)
unfolding Tell
Tell-prop sets rows a b i = record {
  followers = λ k v. Bool-set _ _ (a.followers k v) (b.followers k v) i;
  level = ℕ_set _ _ a.level b.level i;
  places = le_prop a.places b.places i;
  states = λ st k. Bool-set _ _ (a.states st k) (b.states st k) i;
  highest = λ k. Bool-set _ _ (a.highest k) (b.highest k) i;
}
