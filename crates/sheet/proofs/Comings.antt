-- A call that passes its own checks, and then asks the host. Assumes nothing.
use Rattle.std.proofs.Common.{◌≡◌, ℕ, false, cond, List, [], ◌∷◌, ◌++◌, Some, None, Ok, Err, Option, Result, refl, ◌∙◌, ap₂, arith}
use Rattle.values.specs.Checks.{first_fault, answer, after}
use Rattle.values.specs.declared.Fault.{Fault}
use Rattle.values.specs.Numbers.{same_state}
use Rattle.values.specs.declared.RowState.{RowState}
use Rattle.values.specs.declared.RowState.TheVariants.{Absent}
use Rattle.host.specs.View.{View}
use Rattle.model.specs.Rows.{Rows, in_state, marked}
use Rattle.model.specs.Sheet.{Sheet, with_rows}
use Rattle.rows.specs.declared.table.RowTable.{RowTable}
use Rattle.rows.specs.Tables.{rows_of, rolled_of}
use Rattle.sheet.specs.declared.sheets.Sheet.{Sheet as Code}
use Rattle.sheet.specs.Parts.{sheet_from}
use Rattle.sheet.specs.SheetOf.{sheet_of}
use Rattle.sheet.specs.Calls.{Comes}

-- checks that passed, and checks that declined
abbrev pub Passes : Option Fault → Type 0
Passes o = ◌≡◌ {A = Result (Unit {0}) Fault} (Ok tt) (answer o tt)

abbrev pub Fails : Option Fault → Fault → Type 0
Fails o f = ◌≡◌ {A = Result (Unit {0}) Fault} (Err f) (answer o tt)

pub none_stands : (o : Option Fault) → Passes o → o ≡ None
none_stands None h = refl
none_stands (Some f) h = cc

pub one_stands : (o : Option Fault) (f : Fault) → Fails o f → o ≡ Some f
one_stands None f h = cc
one_stands (Some g) f h = cc

first_own : (own asked : List (Option Fault)) (f : Fault) → first_fault own ≡ Some f → first_fault (own ++ asked) ≡ Some f
first_own [] asked f h = cc
first_own (None ∷ own) asked f h = first_own own asked f h
first_own (Some g ∷ own) asked f h = h

first_asked : (own asked : List (Option Fault)) → first_fault own ≡ None → first_fault (own ++ asked) ≡ first_fault asked
first_asked [] asked h = refl
first_asked (None ∷ own) asked h = first_asked own asked h
first_asked (Some g ∷ own) asked h = cc

pub none_declines : (own asked : List (Option Fault)) → Passes (first_fault own) → Passes (first_fault asked)
    → first_fault (own ++ asked) ≡ None
none_declines own asked h k = first_asked own asked (none_stands (first_fault own) h) ∙ none_stands (first_fault asked) k

module _ {X : Type 0} {x : X} {s new : Sheet} {v moved : View} where
  comes : (o : Option Fault) {r : Result X Fault} {s' : Sheet} {v' : View}
      → r ≡ answer o x → s' ≡ after o s new → v' ≡ after o v moved → Comes o x s new v moved r s' v'
  comes o p q t = record { answers = p; sheet = q; host = t }

  -- the sheet declines
  pub own_declines : (own asked : List (Option Fault)) {f : Fault} → Fails (first_fault own) f
      → {r : Result X Fault} {s' : Sheet} {v' : View} → r ≡ Err f → s' ≡ s → v' ≡ v
      → Comes (first_fault (own ++ asked)) x s new v moved r s' v'
  own_declines own asked {f} h =
      rw (first_own own asked f (one_stands (first_fault own) f h)) (comes (Some f))

  -- the host declines
  pub host_declines : (own asked : List (Option Fault)) {f : Fault} → Passes (first_fault own) → Fails (first_fault asked) f
      → {r : Result X Fault} {s' : Sheet} {v' : View} → r ≡ Err f → s' ≡ s → v' ≡ after (first_fault asked) v moved
      → Comes (first_fault (own ++ asked)) x s new v moved r s' v'
  host_declines own asked {f} h k =
      rw (first_asked own asked (none_stands (first_fault own) h), one_stands (first_fault asked) f k) (comes (Some f))

  -- a check before all others that passed
  pub passed_first : (o : Option Fault) (cs : List (Option Fault)) → Passes o → {r : Result X Fault} {s' : Sheet} {v' : View}
      → Comes (first_fault cs) x s new v moved r s' v' → Comes (first_fault (o ∷ cs)) x s new v moved r s' v'
  passed_first o cs h = rw (none_stands o h) (λ p. p)

  -- neither declines
  pub both_accept : (own asked : List (Option Fault)) → Passes (first_fault own) → Passes (first_fault asked)
      → {r : Result X Fault} {s' : Sheet} {v' : View} → r ≡ Ok x → s' ≡ new → v' ≡ after (first_fault asked) v moved
      → Comes (first_fault (own ++ asked)) x s new v moved r s' v'
  both_accept own asked h k =
      rw (first_asked own asked (none_stands (first_fault own) h), none_stands (first_fault asked) k) (comes None)

-- a sheet whose table has other rows
pub other_rows : (x : Code) (t : RowTable) (r : Rows) → rows_of t ≡ r → rolled_of t ≡ rolled_of x.table
    → sheet_from t x.phase x.rollback x.serial x.mode ≡ with_rows (sheet_of x) r
other_rows x t r e q =
    ap₂ (λ (y : Rows) (z : ℕ → ℕ). record { rows = y; rolled = z; phase = x.phase; rollback = x.rollback; serial = x.serial; mode = x.mode }) e q

-- a row that is there is put into another state
pub put_into : (r : Rows) (k : ℕ) (old new : RowState) → r.state k ≡ old → same_state old Absent ≡ false
    → cond (in_state r Absent k) r (marked r k new) ≡ marked r k new
put_into r k old new e h = grind arith
