-- A sheet in another phase. Assumes nothing.
use Rattle.std.proofs.Common.{◌≡◌, ℕ, ◌≢◌}
use mathlib.Core.Logic.{∥∥₁_map}
use Rattle.values.specs.declared.Phase.{Phase}
use Rattle.values.specs.declared.Phase.TheVariants.{Forward}
use Rattle.values.specs.declared.RowState.TheVariants.{Due}
use Rattle.model.specs.Sheet.{Sheet, with_phase}
use Rattle.model.specs.Sheets.{Orderly, Kept}
use Rattle.model.proofs.Marks.{phase_orderly}

-- what a sheet keeps it keeps in another phase, where no row is due in the forward one
pub still_kept : (s : Sheet) (p : Phase) → ∥ Kept s ∥₁ → (Orderly s → p ≡ Forward → (k : ℕ) → s.rows.state k ≢ Due)
    → ∥ Kept (with_phase s p) ∥₁
still_kept s p kept free = ∥∥₁_map kept (λ h. record { orderly = phase_orderly s p h.orderly (free h.orderly); spent = h.spent })
