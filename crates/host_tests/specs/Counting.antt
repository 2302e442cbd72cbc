-- A host that counts the calls that it declines. Assumes nothing.
use Rattle.std.specs.Prelude.{◌≡◌, ◌+◌, ◌-◌, ◌^◌, ◌≤◌, min, Result, IfOk, OnErr}
use Rattle.std.proofs.Common.{arith}
use Rattle.values.specs.declared.Fault.{Fault}
use Rattle.host.specs.Known.{Known}
use Rattle.host.specs.View.{View}
use Rattle.host.specs.declared.calls.Call.{Call}
use Rattle.host_tests.specs.declared.counting.Counting.{Counting}

abbrev pub counting_view : {X : Type 0} → (X → View) → Counting X → View
counting_view view n = view n.inner

abbrev pub CountingHolds : {X : Type 0} → (X → Known → Type 0) → Counting X → Known → Type 0
CountingHolds holds n known = holds n.inner known

-- an accepted call leaves the count, and a declined one raises it by one, as far as 32 bits go
pub record CountingMakes {X : Type 0} (makes : X → Call → Result (Unit {0}) Fault → X → Type 0) (n : Counting X) (c : Call) (r : Result (Unit {0}) Fault) (m : Counting X) : Type 0 where
  pub inner : makes n.inner c r m.inner
  pub accepted : IfOk r (λ _. m.declined ≡ n.declined)
  pub declined : OnErr r (m.declined ≡ min (n.declined + 1) (2 ^ 32 - 1))

pub record CountingGoes {X : Type 0} (goes : X → X → Type 0) (n m : Counting X) : Type 0 where
  pub inner : goes n.inner m.inner
  pub declined : n.declined ≤ m.declined

-- a command that is obeyed leaves the count
abbrev pub CountingLeaves : {X C : Type 0} → (X → C → X → Type 0) → Counting X → C → Counting X → Type 0
CountingLeaves leaves n c m = leaves n.inner c m.inner × (m.declined ≡ n.declined)

module _ {X : Type 0} {goes : X → X → Type 0} where
  pub counting_stays : ((x : X) → goes x x) → (n : Counting X) → CountingGoes goes n n
  counting_stays stays n = record { inner = stays n.inner; declined = omega arith }

  pub counting_goes_on : ((x y z : X) → goes x y → goes y z → goes x z) → (k m n : Counting X)
      → CountingGoes goes k m → CountingGoes goes m n → CountingGoes goes k n
  counting_goes_on on k m n p q = record { inner = on k.inner m.inner n.inner p.inner q.inner; declined = omega (arith, p.declined, q.declined) }
