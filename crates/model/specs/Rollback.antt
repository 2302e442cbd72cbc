-- Which rows a rollback takes back, in which order, and where the competition may go on. Assumes nothing.
use Rattle.std.specs.Prelude.{◌≡◌, ℕ, zero, suc, ◌+◌, Bool, true, false, cond, not, ◌&&◌, ◌||◌, List, [], ◌∷◌, ◌++◌, filter, ◌==◌, nat_eq}
use Rattle.values.specs.declared.Mode.{Mode}
use Rattle.values.specs.declared.Mode.TheVariants.{Complete, Partial}
use Rattle.values.specs.declared.RowState.{RowState}
use Rattle.values.specs.declared.RowState.TheVariants.{Absent, Running, Committed, Dropped, Due, Undone, PassedOver}
use Rattle.model.specs.Search.{any, has, any_below, all_below}
use Rattle.model.specs.Chart.{Chart}
use Rattle.model.specs.Rows.{Rows, in_state, is_savepoint, idle}

-- `preds v` are the rows with an arrow to v. Row v is after row u: one or more arrows lead from u to v
pub data After (preds : ℕ → List ℕ) (u : ℕ) : ℕ → Type 0 where
  next : {v : ℕ} → has u (preds v) ≡ true → After preds u v
  further : {w v : ℕ} → After preds u w → has w (preds v) ≡ true → After preds u v

-- one or more arrows, n at most, lead to v from a row that passes the test
abbrev pub within : (ℕ → List ℕ) → ℕ → (ℕ → Bool) → ℕ → Bool
within preds zero from v = false
within preds (suc n) from v = any (λ w. from w || within preds n from w) (preds v)

-- v is after a row that passes the test: predecessors have lower numbers, so no path has more arrows than there are rows
abbrev pub after : Rows → (ℕ → Bool) → ℕ → Bool
after r from v = within r.preds r.count from v

-- the predecessors of v that are no savepoints
abbrev pub uncut : Chart → Rows → ℕ → List ℕ
uncut c r v = filter (λ w. not (is_savepoint c r w)) (r.preds v)

-- u is in the backward part of the failing row f: it is reached from f by going back to predecessors none of which is a savepoint
abbrev pub backward : Chart → Rows → ℕ → ℕ → Bool
backward c r f u = within (uncut c r) r.count (nat_eq u) f

-- an abort strikes row u, which is then in the set to compensate. Only committed rows are struck: in a complete abort each, in a
-- partial one those of the backward part and those after a row of it
abbrev pub strikes : Chart → Rows → Mode → ℕ → Bool
strikes c r Complete u = in_state r Committed u
strikes c r (Partial f) u = in_state r Committed u && (backward c r f u || after r (backward c r f) u)

-- a row's state after an abort, by whether it was struck and whether it is idle
abbrev pub fallen : RowState → Bool → Bool → RowState
fallen Absent struck idle = Absent
fallen Running struck idle = Dropped
fallen Committed struck idle = cond struck (cond idle PassedOver Due) Committed
fallen Dropped struck idle = Dropped
fallen Due struck idle = Due
fallen Undone struck idle = Undone
fallen PassedOver struck idle = PassedOver

abbrev pub fallen_states : Chart → Rows → Mode → ℕ → RowState
fallen_states c r m k = fallen (r.state k) (strikes c r m k) (idle c r k)

-- the arrows into v, and those into passed-over rows
abbrev pub over_passed : Rows → ℕ → ℕ → List ℕ
over_passed r v x = cond (x == v || in_state r PassedOver x) (r.preds x) []

-- a path leads from u to v on which each row but these two is passed over
abbrev pub linked : Rows → ℕ → ℕ → Bool
linked r u v = within (over_passed r v) r.count (nat_eq u) v

-- the failing row, or a row of its backward part
abbrev pub behind : Chart → Rows → ℕ → ℕ → Bool
behind c r f x = x == f || backward c r f x

-- the way back from f ended before w, a savepoint, and w is committed
abbrev pub stopped : Chart → Rows → ℕ → ℕ → Bool
stopped c r f w =
    is_savepoint c r w && (in_state r Committed w && any_below (r.count + 1) (λ x. behind c r f x && has w (r.preds x)))

-- the way back from f came to the start
abbrev pub at_start : Chart → Rows → ℕ → Bool
at_start c r f = any_below (r.count + 1) (λ x. behind c r f x && r.step x == 1)

-- where the competition may go on, rising; 0 is the start
abbrev pub restart_points : Chart → Rows → Mode → List ℕ
restart_points c r Complete = 0 ∷ []
restart_points c r (Partial f) = cond (at_start c r f) (0 ∷ []) [] ++ all_below (r.count + 1) (stopped c r f)
