-- Rollback in the words of its rules: as relations over rows and arrows, apart from any way to compute them.
use Rattle.std.specs.Prelude.{◌≡◌, ℕ, Bool, true, false, ◌⊎◌}
use Rattle.values.specs.declared.RowState.TheVariants.{Committed, PassedOver}
use Rattle.model.specs.Search.{has}
use Rattle.model.specs.Chart.{Chart}
use Rattle.model.specs.Rows.{Rows, is_savepoint}
use Rattle.model.specs.Rollback.{After}

-- u is in the backward part of f: it is no savepoint, and a predecessor of f or of a row that is in the backward part
pub data Backward (c : Chart) (r : Rows) (f : ℕ) : ℕ → Type 0 where
  near : {u : ℕ} → has u (r.preds f) ≡ true → is_savepoint c r u ≡ false → Backward c r f u
  far : {x u : ℕ} → Backward c r f x → has u (r.preds x) ≡ true → is_savepoint c r u ≡ false → Backward c r f u

-- the set S, as a test on numbers, has the backward part of f, and no row of it has a committed row after it that is not in S
pub record Closed (c : Chart) (r : Rows) (f : ℕ) (S : ℕ → Bool) : Type 0 where
  pub has_part : (u : ℕ) → Backward c r f u → S u ≡ true
  pub has_later : (u v : ℕ) → S u ≡ true → After r.preds u v → r.state v ≡ Committed → S v ≡ true

-- S is the least such set
pub record StruckSet (c : Chart) (r : Rows) (f : ℕ) (S : ℕ → Bool) : Type 0 where
  pub closed : Closed c r f S
  pub least : (R : ℕ → Bool) → Closed c r f R → (u : ℕ) → S u ≡ true → R u ≡ true

-- a path leads from u to v: one arrow, or more arrows that meet in passed-over rows
pub data Through (r : Rows) (u : ℕ) : ℕ → Type 0 where
  direct : {v : ℕ} → has u (r.preds v) ≡ true → Through r u v
  over : {x v : ℕ} → Through r u x → r.state x ≡ PassedOver → has x (r.preds v) ≡ true → Through r u v

-- x is the failing row f, or in its backward part
abbrev pub Behind : Chart → Rows → ℕ → ℕ → Type 0
Behind c r f x = (x ≡ f) ⊎ Backward c r f x

-- the way back from f ended before w: a committed savepoint that precedes f or a row of its backward part
pub record Stopped (c : Chart) (r : Rows) (f w : ℕ) : Type 0 where
  pub savepoint : is_savepoint c r w ≡ true
  pub committed : r.state w ≡ Committed
  pub follower : ℕ
  pub behind : Behind c r f follower
  pub arrow : has w (r.preds follower) ≡ true

-- the way back from f came to a row of the first step
pub record FromStart (c : Chart) (r : Rows) (f : ℕ) : Type 0 where
  pub row : ℕ
  pub behind : Behind c r f row
  pub first_step : r.step row ≡ 1
