-- A call on one of a pair's hosts is that call on the pair. Assumes nothing.
use Rattle.std.proofs.Common.{◌≡◌, true, false, ◌||◌, not, None, Result, refl, arith}
use Rattle.std.proofs.lemmas.Bool.Decides.{nat_tests}
use Rattle.values.specs.Checks.{first_fault}
use Rattle.values.specs.declared.Entry.{Entry}
use Rattle.values.specs.declared.Kind.{Kind}
use Rattle.values.specs.declared.HostState.{HostState}
use Rattle.values.specs.declared.HostState.TheVariants.{Open, Standing, Void, Reversed}
use Rattle.values.specs.declared.Fault.{Fault}
use Rattle.host.specs.Keys.{RowKey}
use Rattle.host.specs.View.{View, is_unknown, move_checks, begin_checks, moved, begun}
use Rattle.host.specs.Views.{joined, for_first}
use Rattle.host.specs.Calls.{fault_of, done, Performs}
use Rattle.host.specs.declared.calls.Call.{Call}
use Rattle.host.specs.declared.calls.Call.TheVariants.{Begin, Commit, Drop, Undo}
use Rattle.host.proofs.Ext.{view_ext, part_makes}

module _ (kind : Kind) (a b : View) (open_pair : (a.shut || b.shut) ≡ false) where
  -- a row that the first host knows is moved there
  module _ (row : RowKey) (known : not (is_unknown (a.state row)) ≡ true) where
    first_moves : (from : HostState) → first_fault (move_checks from a row) ≡ first_fault (move_checks from (joined kind a b) row)
    first_moves from = grind (arith, nat_tests)

    first_moved : (to : HostState) → is_unknown to ≡ false → joined kind (moved to a row) b ≡ moved to (joined kind a b) row
    first_moved to t =
        view_ext (joined kind (moved to a row) b) (moved to (joined kind a b) row)
        refl (λ _. refl) (λ n. grind (arith, nat_tests)) (λ n. grind (arith, nat_tests))

  -- a row that the first host does not know is moved at the second
  module _ (row : RowKey) (unknown : not (is_unknown (a.state row)) ≡ false) where
    second_moves : (from : HostState) → first_fault (move_checks from b row) ≡ first_fault (move_checks from (joined kind a b) row)
    second_moves from = grind (arith, nat_tests)

    second_moved : (to : HostState) → joined kind a (moved to b row) ≡ moved to (joined kind a b) row
    second_moved to =
        view_ext (joined kind a (moved to b row)) (moved to (joined kind a b) row)
        refl (λ _. refl) (λ n. grind (arith, nat_tests)) (λ _. refl)

  -- a row is begun at the host that the call is for
  module _ (row : RowKey) (e : Entry) where
    first_begins : for_first kind a b (Begin row e) ≡ true
        → first_fault (begin_checks a row e.kind) ≡ first_fault (begin_checks (joined kind a b) row e.kind)
    first_begins k = grind (arith, nat_tests)

    first_begun : for_first kind a b (Begin row e) ≡ true → first_fault (begin_checks (joined kind a b) row e.kind) ≡ None
        → joined kind (begun a row e) b ≡ begun (joined kind a b) row e
    first_begun k h =
        view_ext (joined kind (begun a row e) b) (begun (joined kind a b) row e)
        refl (λ n. grind (arith, nat_tests)) (λ n. grind (arith, nat_tests)) (λ n. grind (arith, nat_tests))

    second_begins : for_first kind a b (Begin row e) ≡ false
        → first_fault (begin_checks b row e.kind) ≡ first_fault (begin_checks (joined kind a b) row e.kind)
    second_begins k = grind (arith, nat_tests)

    second_begun : for_first kind a b (Begin row e) ≡ false → first_fault (begin_checks (joined kind a b) row e.kind) ≡ None
        → joined kind a (begun b row e) ≡ begun (joined kind a b) row e
    second_begun k h =
        view_ext (joined kind a (begun b row e)) (begun (joined kind a b) row e)
        refl (λ n. grind (arith, nat_tests)) (λ n. grind (arith, nat_tests)) (λ n. grind (arith, nat_tests))

  first_faults : (c : Call) → for_first kind a b c ≡ true → fault_of a c ≡ fault_of (joined kind a b) c
  first_faults (Begin row e) k = first_begins row e k
  first_faults (Commit row) k = first_moves row k Open
  first_faults (Drop row) k = first_moves row k Open
  first_faults (Undo row) k = first_moves row k Standing

  first_done : (c : Call) → for_first kind a b c ≡ true → fault_of (joined kind a b) c ≡ None
      → joined kind (done a c) b ≡ done (joined kind a b) c
  first_done (Begin row e) k h = first_begun row e k h
  first_done (Commit row) k h = first_moved row k Standing refl
  first_done (Drop row) k h = first_moved row k Void refl
  first_done (Undo row) k h = first_moved row k Reversed refl

  second_faults : (c : Call) → for_first kind a b c ≡ false → fault_of b c ≡ fault_of (joined kind a b) c
  second_faults (Begin row e) k = second_begins row e k
  second_faults (Commit row) k = second_moves row k Open
  second_faults (Drop row) k = second_moves row k Open
  second_faults (Undo row) k = second_moves row k Standing

  second_done : (c : Call) → for_first kind a b c ≡ false → fault_of (joined kind a b) c ≡ None
      → joined kind a (done b c) ≡ done (joined kind a b) c
  second_done (Begin row e) k h = second_begun row e k h
  second_done (Commit row) k h = second_moved row k Standing
  second_done (Drop row) k h = second_moved row k Void
  second_done (Undo row) k h = second_moved row k Reversed

  module _ (c : Call) (r : Result (Unit {0}) Fault) (w : View) where
    pub makes_first : for_first kind a b c ≡ true → Performs a c r w → Performs (joined kind a b) c r (joined kind w b)
    makes_first k m = part_makes (λ v. joined kind v b) a (joined kind a b) c refl (first_faults c k) (first_done c k) r w m

    pub makes_second : for_first kind a b c ≡ false → Performs b c r w → Performs (joined kind a b) c r (joined kind a w)
    makes_second k m = part_makes (joined kind a) b (joined kind a b) c refl (second_faults c k) (second_done c k) r w m
