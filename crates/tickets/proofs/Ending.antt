-- A rollback whose rows are all undone: it can be finished, and how it ends. Assumes nothing.
use Rattle.std.proofs.Common.{◌≡◌, ℕ, zero, suc, ◌+◌, ◌≤◌, Bool, true, false, cond, Some, None, Ok, Err, Option, Result, IfOk, IsOk, sym, refl, ap, ap₂, ◌∙◌, subst, inl, inr, arith}
use Rattle.std.proofs.lemmas.Bool.{cases_Bool, both_ways, false_from_ne_true}
use Rattle.std.specs.Option.{option_or}
use Rattle.values.specs.Checks.{answer}
use Rattle.values.specs.Numbers.{same_state}
use Rattle.values.specs.declared.Fault.{Fault}
use Rattle.values.specs.declared.Mode.TheVariants.{Complete}
use Rattle.values.specs.declared.Phase.TheVariants.{Forward}
use Rattle.values.specs.declared.RowState.{RowState}
use Rattle.values.specs.declared.RowState.TheVariants.{Absent, Running, Committed, Dropped, Due, Undone, PassedOver}
use Rattle.values.specs.declared.TicketNumber.{TicketNumber}
use Rattle.host.specs.Keys.{rows_most}
use Rattle.host.specs.View.{View}
use Rattle.model.specs.Calls.{finish_fault}
use Rattle.model.specs.Chart.{Chart}
use Rattle.model.specs.Rollback.{fallen}
use Rattle.model.specs.Rows.{in_state, live, idle}
use Rattle.model.specs.Search.{first_below}
use Rattle.model.specs.Sheet.{Sheet, aborted, with_phase}
use Rattle.model.proofs.Basics.{eq_same_state, same_state_eq}
use Rattle.rows.proofs.Columns.{known_within}
use Rattle.sheet.specs.SheetOf.{sheet_of}
use Rattle.sheet.specs.Tickets.{fault_only}
use Rattle.sheet.specs.declared.sheets.Sheet.{Sheet as Code}
use Rattle.sheet.specs.declared.ticket.Ticket.{Ticket}
use Rattle.sheet.proofs.Comings.{none_stands}
use Rattle.tickets.specs.Endings.{Holds, IsOver, Through}
use Rattle.tickets.specs.Rollbacks.{ComesTo, undone_down}
use Rattle.tickets.proofs.Downward.{Turned, turned}

-- ── all rows undone ──

-- a due row has a number from 1 to the most that there can be
due_within : (x : Code) (k : ℕ) → (sheet_of x).rows.state k ≡ Due → (1 ≤ k) × (k ≤ rows_most)
due_within x k due =
    let known : same_state ((sheet_of x).rows.state k) Absent ≡ false = ap (λ st. same_state st Absent) due in
    let within = known_within x.table.rows.items k known in
    let few = x.table.few in
    let full = x.table.rows.ok.0 in
    (omega (arith, within.0), omega (arith, within.1, few, full))

-- where no fault stopped the undos, the rollback is over once the sheet goes forward
pub over : (x : Code) (v : View) (t : TicketNumber) (column line : ℕ) {s' : Sheet} {v' : View}
    → ComesTo (undone_down rows_most (sheet_of x) v t column line) (Ok tt) s' v' → IsOver (sheet_of x) (with_phase s' Forward)
over x v t column line {s'} {v'} come = record {
  forward = refl;
  undone = undone;
  none_due = none_due;
  others = all.others;
}
  where
    all : Turned rows_most (sheet_of x) s'
    all = subst (Turned rows_most (sheet_of x)) (sym come.sheet)
        (turned t column line rows_most (sheet_of x) v (none_stands (undone_down rows_most (sheet_of x) v t column line).0 come.answers))

    undone : (k : ℕ) → (sheet_of x).rows.state k ≡ Due → s'.rows.state k ≡ Undone
    undone k due = let within = due_within x k due in all.undone k within.0 within.1 due

    none_due : (k : ℕ) → s'.rows.state k ≡ Due → ⊥
    none_due k due = elim (cases_Bool (in_state (sheet_of x).rows Due k)) [
      | inl was ↦ let now = undone k (same_state_eq ((sheet_of x).rows.state k) Due was) in grind (arith, now, due)
      | inr was ↦
          let not_due : (sheet_of x).rows.state k ≡ Due → ⊥ =
          λ is. both_ways (in_state (sheet_of x).rows Due k) was (eq_same_state _ Due is) in
          not_due (sym (all.others k not_due) ∙ due)
    ]

-- ── finish ──

no_first : (n : ℕ) (p : ℕ → Bool) → ((k : ℕ) → p k ≡ false) → first_below n p ≡ None
no_first zero p none = refl
no_first (suc n) p none = ap₂ option_or (no_first n p none) (ap (λ b. cond b (Some n) None) (none n))

-- where no row is due, the rollback's ticket finishes it
pub finishes : (t : Ticket) (s : Sheet) → Holds t s → ((k : ℕ) → s.rows.state k ≡ Due → ⊥) → finish_fault s t.number ≡ None
finishes t s h none_due =
    let none : (k : ℕ) → in_state s.rows Due k ≡ false =
    λ k. false_from_ne_true (in_state s.rows Due k) (λ is. none_due k (same_state_eq _ Due is)) in
    let still = no_first (s.rows.count + 1) (in_state s.rows Due) none in
    grind (arith, h.number, h.under_way, still)

-- and the call is accepted
pub finished : (f : Option Fault) (r : Result (Unit {0}) (Ticket × Fault)) → f ≡ None → fault_only r ≡ answer f tt → IsOk r
finished f (Ok u) none told = refl
finished f (Err e) none told = let clash = told ∙ ap (λ f. answer f tt) none in cc

-- ── the live rows ──

-- a row that a complete abort lets fall, and that is undone if it was due, is not live
fallen_row : (st st' : RowState) (idle : Bool) → (fallen st (same_state st Committed) idle ≡ Due → st' ≡ Undone)
    → ((fallen st (same_state st Committed) idle ≡ Due → ⊥) → st' ≡ fallen st (same_state st Committed) idle) → live st' ≡ false
fallen_row Absent st' i due other = ap live (other (λ e. grind arith))
fallen_row Running st' i due other = ap live (other (λ e. grind arith))
fallen_row Committed st' true due other = ap live (other (λ e. grind arith))
fallen_row Committed st' false due other = ap live (due refl)
fallen_row Dropped st' i due other = ap live (other (λ e. grind arith))
fallen_row Due st' i due other = ap live (due refl)
fallen_row Undone st' i due other = ap live (other (λ e. grind arith))
fallen_row PassedOver st' i due other = ap live (other (λ e. grind arith))

pub none_live : (c : Chart) (s begun s' : Sheet) (r : Result (Unit {0}) Fault) → begun ≡ aborted c s Complete → Through begun r s'
    → IfOk r (λ u. (k : ℕ) → live (s'.rows.state k) ≡ false)
none_live c s begun s' (Ok u) is h =
    let over = subst (λ b. IsOver b s') is h in
    λ k. fallen_row (s.rows.state k) (s'.rows.state k) (idle c s.rows k) (over.undone k) (over.others k)
none_live c s begun s' (Err f) is h = tt
