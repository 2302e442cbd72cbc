-- Views that show the same are the same, and calls on a view that is a part of another. Assumes nothing.
use Rattle.std.proofs.Common.{◌≡◌, Some, None, Option, Result, sym, ap, ◌∙◌}
use Rattle.values.specs.Checks.{answer, after}
use Rattle.values.specs.declared.Kind.{Kind}
use Rattle.values.specs.declared.Fault.{Fault}
use Rattle.host.specs.Keys.{RowKey}
use Rattle.host.specs.View.{View}
use Rattle.host.specs.Calls.{fault_of, done, Performs}
use Rattle.host.specs.declared.calls.Call.{Call}

-- two views are equal if each of the four observations is
pub view_ext : (v w : View) → v.shut ≡ w.shut → ((k : Kind) → v.room k ≡ w.room k)
    → ((n : RowKey) → v.state n ≡ w.state n) → ((n : RowKey) → v.entry n ≡ w.entry n) → v ≡ w
view_ext v w p q r s = λ i. record { shut = p i; room = λ k. q k i; state = λ n. r n i; entry = λ n. s n i }

-- what a view is part of changes exactly if the view does
after_in : (part : View → View) (f g : Option Fault) (v u : View) (w x : View) → f ≡ g → part v ≡ u → (g ≡ None → part w ≡ x)
    → part (after f v w) ≡ after g u x
after_in part None g v u w x p q h = h (sym p) ∙ ap (λ o. after o u x) p
after_in part (Some f) g v u w x p q h = q ∙ ap (λ o. after o u x) p

-- a call on a part is the same call on the whole, if both decline it alike and do the same where they accept it
pub part_makes : (part : View → View) (v u : View) (c : Call) → part v ≡ u → fault_of v c ≡ fault_of u c
    → (fault_of u c ≡ None → part (done v c) ≡ done u c) → (r : Result (Unit {0}) Fault) (w : View)
    → Performs v c r w → Performs u c r (part w)
part_makes part v u c q p h r w m = record {
  answers = m.answers ∙ ap (λ f. answer f tt) p;
  shows = ap part m.shows ∙ after_in part (fault_of v c) (fault_of u c) v u (done v c) (done u c) p q h;
}
