-- An open host declines or accepts a call: for those who write a host. Assumes nothing.
use Rattle.std.proofs.Common.{◌≡◌, false, true, ◌&&◌, Some, None, Option, Ok, Err, Result, refl, sym, ap, ◌∙◌, arith}
use Rattle.std.proofs.lemmas.Bool.Decides.{nat_tests}
use Rattle.values.specs.Checks.{first_fault, answer, after}
use Rattle.values.specs.Numbers.{same_host_state}
use Rattle.values.specs.declared.Cause.{Cause}
use Rattle.values.specs.declared.Cause.TheVariants.{OtherState, NoRoom}
use Rattle.values.specs.declared.Entry.{Entry}
use Rattle.values.specs.declared.Fault.{Fault}
use Rattle.values.specs.declared.HostState.{HostState}
use Rattle.values.specs.declared.Kind.{Kind}
use Rattle.values.specs.declared.Layer.TheVariants.{Host}
use Rattle.host.specs.Keys.{RowKey, is_row, place_of}
use Rattle.host.specs.View.{View, Begins, Moves, is_unknown, move_checks, begin_checks, moved, begun}

-- checks that answer no fault find none
pub passes : (f : Option Fault) (r : Result (Unit {0}) Fault) → r ≡ answer f tt → r ≡ Ok tt → f ≡ None
passes None r a h = refl
passes (Some x) r a h = grind arith

abbrev pub fault_at : Cause → RowKey → Fault
fault_at cause row = record { cause = cause; layer = Host; place = place_of row }

module _ (v : View) (row : RowKey) (opened : v.shut ≡ false) where
  -- a move of a row in another state
  pub move_declined : (from : HostState) → (is_row row && same_host_state (v.state row) from) ≡ false
      → first_fault (move_checks from v row) ≡ Some (fault_at OtherState row)
  move_declined from h = grind (arith, h)

  pub move_passes : (from : HostState) → (is_row row && same_host_state (v.state row) from) ≡ true
      → first_fault (move_checks from v row) ≡ None
  move_passes from h = grind (arith, h)

  -- a begin of what is no row, or a known one
  pub begin_declined : (k : Kind) → (is_row row && is_unknown (v.state row)) ≡ false
      → first_fault (begin_checks v row k) ≡ Some (fault_at OtherState row)
  begin_declined k h = grind (arith, h)

  -- a begin without room
  pub begin_full : (k : Kind) → (is_row row && is_unknown (v.state row)) ≡ true → v.room k ≡ 0
      → first_fault (begin_checks v row k) ≡ Some (fault_at NoRoom row)
  begin_full k h r = grind (arith, nat_tests, h)

  pub begin_passes : (k : Kind) → (is_row row && is_unknown (v.state row)) ≡ true → (v.room k ≡ 0 → ⊥)
      → first_fault (begin_checks v row k) ≡ None
  begin_passes k h r = grind (arith, nat_tests, h)

module _ (from to : HostState) (v w : View) (row : RowKey) (r : Result (Unit {0}) Fault) where
  -- a move that is declined changes nothing
  pub declined_moves : (x : Fault) → first_fault (move_checks from v row) ≡ Some x → r ≡ Err x → w ≡ v → Moves from to v row r w
  declined_moves x f e s = record {
    answers = e ∙ sym (ap (λ o. answer o tt) f);
    shows = s ∙ sym (ap (λ o. after o v (moved to v row)) f);
  }

  -- a row is moved
  pub accepted_moves : first_fault (move_checks from v row) ≡ None → r ≡ Ok tt → w ≡ moved to v row → Moves from to v row r w
  accepted_moves f e s = record {
    answers = e ∙ sym (ap (λ o. answer o tt) f);
    shows = s ∙ sym (ap (λ o. after o v (moved to v row)) f);
  }

module _ (v w : View) (row : RowKey) (e : Entry) (r : Result (Unit {0}) Fault) where
  -- a begin that is declined changes nothing
  pub declined_begins : (x : Fault) → first_fault (begin_checks v row e.kind) ≡ Some x → r ≡ Err x → w ≡ v → Begins v row e r w
  declined_begins x f p s = record {
    answers = p ∙ sym (ap (λ o. answer o tt) f);
    shows = s ∙ sym (ap (λ o. after o v (begun v row e)) f);
  }

  -- a row is begun
  pub accepted_begins : first_fault (begin_checks v row e.kind) ≡ None → r ≡ Ok tt → w ≡ begun v row e → Begins v row e r w
  accepted_begins f p s = record {
    answers = p ∙ sym (ap (λ o. answer o tt) f);
    shows = s ∙ sym (ap (λ o. after o v (begun v row e)) f);
  }
