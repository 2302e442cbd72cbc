-- Whole rollbacks, by the model's calls: what they answer, what they leave of sheet and host, and what the host is asked. Assumes nothing.
use Rattle.std.specs.Prelude.{◌≡◌, ℕ, zero, suc, Bool, false, cond, not, List, [], ◌++◌, Some, None, Option, Result, ◌==◌}
use Rattle.values.specs.Checks.{answer, after}
use Rattle.values.specs.Numbers.{cause_number}
use Rattle.values.specs.declared.Cause.TheVariants.{NoSuch}
use Rattle.values.specs.declared.Fault.{Fault}
use Rattle.values.specs.declared.HostState.TheVariants.{Reversed}
use Rattle.values.specs.declared.Mode.TheVariants.{Complete}
use Rattle.values.specs.declared.Phase.{Phase}
use Rattle.values.specs.declared.Phase.TheVariants.{Forward, Undoing, Parked}
use Rattle.values.specs.declared.RowState.TheVariants.{Undone}
use Rattle.values.specs.declared.TicketNumber.{TicketNumber}
use Rattle.host.specs.Keys.{key_of, rows_most}
use Rattle.host.specs.View.{View, moved}
use Rattle.host.specs.declared.calls.Call.{Call}
use Rattle.model.specs.Calls.{abort_fault, all_dropped, undo_fault, resume_fault}
use Rattle.model.specs.Chart.{Chart}
use Rattle.model.specs.Rows.{marked}
use Rattle.model.specs.Sheet.{Sheet, aborted, ticket_of, with_phase, with_rows}
use Rattle.sheet.specs.Asked.{abort_asks, undo_asks, unless}

-- what calls come to: the fault that stopped them, if one did, and then the sheet and what the host shows
abbrev pub CameTo : Type 0
CameTo = Option Fault × Sheet × View

-- they answered so, and left this
pub record ComesTo (o : CameTo) (r : Result (Unit {0}) Fault) (s' : Sheet) (v' : View) : Type 0 where
  pub answers : r ≡ answer o.0 tt
  pub sheet : s' ≡ o.1
  pub host : v' ≡ o.2

-- ── rows undone one after another, in memory whose column and line have these lengths ──

-- one row: its undo may have a fault, and changes nothing then
abbrev pub undone : Sheet → View → TicketNumber → ℕ → ℕ → ℕ → CameTo
undone s v t k column line =
    let f = undo_fault s v t k column line in
    (f, after f s (with_rows s (marked s.rows k Undone)), after f v (moved Reversed v (key_of k)))

-- the fault that a row is not due stops nothing: such a row is passed over; every other fault stops the undos
abbrev pub stops : Option Fault → Bool
stops None = false
stops (Some f) = not (cause_number f.cause == cause_number NoSuch)

-- rows n down to 1 in turn, as far as no fault stops them
unfoldable pub undone_down : ℕ → Sheet → View → TicketNumber → ℕ → ℕ → CameTo
undone_down zero s v t column line = (None, s, v)
undone_down (suc n) s v t column line =
    let o = undone s v t (suc n) column line in
    cond (stops o.0) o (undone_down n o.1 o.2 t column line)

-- what the host is asked meanwhile: to undo each due row as far as no fault stops them; it is asked too for the undo that it declines
unfoldable pub undone_down_asks : ℕ → Sheet → View → TicketNumber → ℕ → ℕ → List Call
undone_down_asks zero s v t column line = []
undone_down_asks (suc n) s v t column line =
    let o = undone s v t (suc n) column line in
    undo_asks s t (suc n) column line ++ cond (stops o.0) [] (undone_down_asks n o.1 o.2 t column line)

-- ── a rollback that is under way carried through with its ticket ──

-- it is finished where no fault stopped the undos, and else parked
abbrev pub end_phase : Option Fault → Phase
end_phase None = Forward
end_phase (Some f) = Parked

-- all rows that there can be, from the highest down, and then the end
abbrev pub carried : Sheet → View → ℕ → ℕ → CameTo
carried s v column line =
    let (f, s', v') = undone_down rows_most s v (ticket_of s) column line in
    (f, with_phase s' (end_phase f), v')

abbrev pub carried_asks : Sheet → View → ℕ → ℕ → List Call
carried_asks s v column line = undone_down_asks rows_most s v (ticket_of s) column line

-- ── whole rollbacks ──

-- a complete abort, carried through; where it is declined, that is the fault, and nothing changes
abbrev pub rolled_back : Chart → Sheet → View → ℕ → ℕ → CameTo
rolled_back c s v column line =
    let f = abort_fault s v Complete column line in
    after f (f, s, v) (carried (aborted c s Complete) (all_dropped s.rows v) column line)

-- the running rows are dropped, and then the due rows undone
abbrev pub rolled_back_asks : Chart → Sheet → View → ℕ → ℕ → List Call
rolled_back_asks c s v column line =
    abort_asks s v Complete column line
    ++ unless (abort_fault s v Complete column line) (carried_asks (aborted c s Complete) (all_dropped s.rows v) column line)

-- a parked rollback taken up again, and carried through; where resume is declined, that is the fault, and nothing changes
abbrev pub carried_on : Sheet → View → ℕ → ℕ → CameTo
carried_on s v column line =
    let f = resume_fault s in
    after f (f, s, v) (carried (with_phase s Undoing) v column line)

abbrev pub carried_on_asks : Sheet → View → ℕ → ℕ → List Call
carried_on_asks s v column line = unless (resume_fault s) (carried_asks (with_phase s Undoing) v column line)
