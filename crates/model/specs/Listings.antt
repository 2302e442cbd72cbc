-- What a listing holds. Assumes nothing.
use Rattle.std.specs.Prelude.{◌≡◌, ℕ, ◌<◌, true, ◌⊎◌, List, [], ◌∷◌, ◌≢◌}
use Rattle.values.specs.declared.Mode.{Mode}
use Rattle.values.specs.declared.Mode.TheVariants.{Complete, Partial}
use Rattle.values.specs.declared.Phase.TheVariants.{Forward}
use Rattle.values.specs.declared.RowArrow.{RowArrow}
use Rattle.model.specs.Search.{In}
use Rattle.model.specs.Chart.{Chart}
use Rattle.model.specs.Rows.{Rows}
use Rattle.model.specs.Rollback.{restart_points}
use Rattle.model.specs.Sheet.{Sheet, in_graph, graph_arrows}
use Rattle.model.specs.Run.{World, Event, does}
use Rattle.model.specs.Relations.{Through, Stopped, FromStart}

-- an arrow comes before another: by from, then by to
abbrev pub ArrowBefore : RowArrow → RowArrow → Type 0
ArrowBefore a b = (a.from < b.from) ⊎ ((a.from ≡ b.from) × (a.to < b.to))

-- each element comes before every later one, so that none stands twice
abbrev pub Ascends : {X : Type 0} → (X → X → Type 0) → List X → Type 0
Ascends R [] = Unit {0}
Ascends {X} R (x ∷ xs) = ((y : X) → In y xs → R x y) × Ascends R xs

-- an arrow of the graph: on the sheet its two rows are joined by a path from `to` to `from` of which all other rows are passed over
pub record IsArrow (s : Sheet) (a : RowArrow) : Type 0 where
  pub later : in_graph s a.from ≡ true
  pub earlier : in_graph s a.to ≡ true
  pub path : Through s.rows a.to a.from

-- a restart point: of a complete abort 0, the start; of a partial one 0 if the way back came there, and each committed savepoint
-- where it ended
abbrev pub IsRestart : Chart → Rows → Mode → ℕ → Type 0
IsRestart c r Complete p = p ≡ 0
IsRestart c r (Partial f) p = ((p ≡ 0) × FromStart c r f) ⊎ Stopped c r f p

-- the two lists of a listing: each has what it is to have and nothing else, sorted and without repetition
pub record ListingIs (c : Chart) (s : Sheet) : Type 0 where
  pub arrows_are : (a : RowArrow) → In a (graph_arrows s) → IsArrow s a
  pub arrows_all : (a : RowArrow) → IsArrow s a → In a (graph_arrows s)
  pub arrows_rise : Ascends ArrowBefore (graph_arrows s)
  pub points_are : (p : ℕ) → In p (restart_points c s.rows s.mode) → IsRestart c s.rows s.mode p
  pub points_all : (p : ℕ) → IsRestart c s.rows s.mode p → In p (restart_points c s.rows s.mode)
  pub points_rise : Ascends ◌<◌ (restart_points c s.rows s.mode)

-- no event changes the listing of a sheet that is undoing or parked; so it stays as it is until the rollback is finished
abbrev pub ListingStays : Chart → World → Event → Type 0
ListingStays c w e =
    (w.sheet.phase ≢ Forward)
    → (graph_arrows (does c w e).0.sheet ≡ graph_arrows w.sheet)
    × (restart_points c (does c w e).0.sheet.rows (does c w e).0.sheet.mode
    ≡ restart_points c w.sheet.rows w.sheet.mode)
