-- A pair whose rows are where they belong: what its two hosts show then, and that no call changes it. Assumes nothing.
use Rattle.std.proofs.Common.{◌≡◌, Bool, true, false, cond, not, ◌||◌, is_some, Some, None, Option, refl, subst, sym, arith}
use Rattle.std.proofs.lemmas.Bool.Decides.{nat_tests}
use mathlib.Core.Path.{fun_ext}
use Rattle.values.specs.Numbers.{same_kind}
use Rattle.values.specs.Checks.{first_fault, after}
use Rattle.values.specs.declared.Entry.{Entry}
use Rattle.values.specs.declared.Fault.{Fault}
use Rattle.values.specs.declared.Kind.{Kind}
use Rattle.values.specs.declared.HostState.{HostState}
use Rattle.values.specs.declared.HostState.TheVariants.{Standing, Void, Reversed}
use Rattle.host.specs.Keys.{RowKey}
use Rattle.host.specs.View.{View, Sound, Fresh, is_unknown, moved, begun, begin_checks}
use Rattle.host.specs.Known.{Known, KnownRow, known_row, known_by, if_wanted, only, is_kind, is_other, Sorted}
use Rattle.host.specs.Known.{HoldsNothingFresh}
use Rattle.host.specs.Laws.{unknown_row}
use Rattle.host.specs.Views.{joined, for_first}
use Rattle.host.specs.Calls.{fault_of, done, after_call}
use Rattle.host.specs.declared.calls.Call.{Call}
use Rattle.host.specs.declared.calls.Call.TheVariants.{Begin, Commit, Drop, Undo}

-- a host that knows no row has each where it belongs
pub sorted_fresh : {X : Type 0} (view : X → View) (holds : X → Known → Type 0) → ((x : X) → Sound (view x)) → HoldsNothingFresh view holds
    → (x : X) → Fresh (view x) → Sorted view holds x
sorted_fresh view holds sound empty x fresh =
    subst (holds x) (sym (fun_ext λ row. unknown_row (view x) (sound x) fresh row)) (empty x fresh)

-- an entry, if there is one, is of a kind, or of another
abbrev of_kind : Kind → Option Entry → Bool
of_kind kind None = true
of_kind kind (Some e) = same_kind e.kind kind

abbrev of_others : Kind → Option Entry → Bool
of_others kind None = true
of_others kind (Some e) = not (same_kind e.kind kind)

-- two hosts of which the first knows rows of one kind alone, the second rows of all others, and no row is known to both
pub record Parted (kind : Kind) (a b : View) : Type 0 where
  pub first : (row : RowKey) → of_kind kind (a.entry row) ≡ true
  pub second : (row : RowKey) → of_others kind (b.entry row) ≡ true
  pub apart : (row : RowKey) → (is_unknown (a.state row) || is_unknown (b.state row)) ≡ true

-- ── by what they know ──

kind_known : (kind : Kind) (s : HostState) (d : Option Entry) (r : Option KnownRow) → known_row s d ≡ if_wanted (is_kind kind) r
    → of_kind kind d ≡ true
kind_known kind s d r h = grind (arith, nat_tests)

others_known : (kind : Kind) (s : HostState) (d : Option Entry) (r : Option KnownRow) → known_row s d ≡ if_wanted (is_other kind) r
    → of_others kind d ≡ true
others_known kind s d r h = grind (arith, nat_tests)

apart_known : (kind : Kind) (s t : HostState) (d e : Option Entry) (r : Option KnownRow)
    → is_some d ≡ not (is_unknown s) → is_some e ≡ not (is_unknown t)
    → known_row s d ≡ if_wanted (is_kind kind) r → known_row t e ≡ if_wanted (is_other kind) r
    → (is_unknown s || is_unknown t) ≡ true
apart_known kind s t d e r p q f g = grind (arith, nat_tests)

pub parted : (kind : Kind) (a b : View) (known : Known) → Sound a → Sound b → known_by a ≡ only (is_kind kind) known
    → known_by b ≡ only (is_other kind) known → Parted kind a b
parted kind a b known s t first second = record {
  first = λ row. kind_known kind _ _ (known row) (λ i. first i row);
  second = λ row. others_known kind _ _ (known row) (λ i. second i row);
  apart = λ row. apart_known kind _ _ _ _ (known row) (s.entries row) (t.entries row) (λ i. first i row) (λ i. second i row);
}

first_row : (kind : Kind) (s t : HostState) (d e : Option Entry) → is_some d ≡ not (is_unknown s) → is_some e ≡ not (is_unknown t)
    → of_kind kind d ≡ true → of_others kind e ≡ true → (is_unknown s || is_unknown t) ≡ true
    → known_row s d ≡ if_wanted (is_kind kind) (known_row (cond (is_unknown s) t s) (cond (is_unknown s) e d))
first_row kind s t d e p q f g o = grind (arith, nat_tests)

second_row : (kind : Kind) (s t : HostState) (d e : Option Entry) → is_some d ≡ not (is_unknown s) → is_some e ≡ not (is_unknown t)
    → of_kind kind d ≡ true → of_others kind e ≡ true → (is_unknown s || is_unknown t) ≡ true
    → known_row t e ≡ if_wanted (is_other kind) (known_row (cond (is_unknown s) t s) (cond (is_unknown s) e d))
second_row kind s t d e p q f g o = grind (arith, nat_tests)

module _ (kind : Kind) (a b : View) (s : Sound a) (t : Sound b) (p : Parted kind a b) where
  pub first_known : known_by a ≡ only (is_kind kind) (known_by (joined kind a b))
  first_known = fun_ext λ row. first_row kind _ _ _ _ (s.entries row) (t.entries row) (p.first row) (p.second row) (p.apart row)

  pub second_known : known_by b ≡ only (is_other kind) (known_by (joined kind a b))
  second_known = fun_ext λ row. second_row kind _ _ _ _ (s.entries row) (t.entries row) (p.first row) (p.second row) (p.apart row)

-- ── a call on the host that it is for ──

module _ (kind : Kind) (a b : View) (p : Parted kind a b) where
  first_moved : (to : HostState) (row : RowKey) → not (is_unknown (a.state row)) ≡ true → Parted kind (moved to a row) b
  first_moved to row k = record {
    first = p.first;
    second = p.second;
    apart = λ n. let o = p.apart n in grind (arith, nat_tests);
  }

  second_moved : (to : HostState) (row : RowKey) → not (is_unknown (a.state row)) ≡ false → Parted kind a (moved to b row)
  second_moved to row k = record {
    first = p.first;
    second = p.second;
    apart = λ n. let o = p.apart n in grind (arith, nat_tests);
  }

  first_begun : (row : RowKey) (e : Entry) → for_first kind a b (Begin row e) ≡ true → first_fault (begin_checks a row e.kind) ≡ None
      → Parted kind (begun a row e) b
  first_begun row e k h = record {
    first = λ n. let f = p.first n in grind (arith, nat_tests);
    second = p.second;
    apart = λ n. let o = p.apart n in grind (arith, nat_tests);
  }

  second_begun : (row : RowKey) (e : Entry) → for_first kind a b (Begin row e) ≡ false → first_fault (begin_checks b row e.kind) ≡ None
      → Parted kind a (begun b row e)
  second_begun row e k h = record {
    first = p.first;
    second = λ n. let f = p.second n in grind (arith, nat_tests);
    apart = λ n. let o = p.apart n in grind (arith, nat_tests);
  }

  first_done : (c : Call) → for_first kind a b c ≡ true → fault_of a c ≡ None → Parted kind (done a c) b
  first_done (Begin row e) k h = first_begun row e k h
  first_done (Commit row) k h = first_moved Standing row k
  first_done (Drop row) k h = first_moved Void row k
  first_done (Undo row) k h = first_moved Reversed row k

  second_done : (c : Call) → for_first kind a b c ≡ false → fault_of b c ≡ None → Parted kind a (done b c)
  second_done (Begin row e) k h = second_begun row e k h
  second_done (Commit row) k h = second_moved Standing row k
  second_done (Drop row) k h = second_moved Void row k
  second_done (Undo row) k h = second_moved Reversed row k

either : (P : View → Type 0) (f : Option Fault) (v w : View) → P v → (f ≡ None → P w) → P (after f v w)
either P None v w p h = h refl
either P (Some x) v w p h = p

pub parted_first : (kind : Kind) (a b : View) (c : Call) (w : View) → for_first kind a b c ≡ true → w ≡ after_call a c
    → Parted kind a b → Parted kind w b
parted_first kind a b c w k shows p =
    subst (λ v. Parted kind v b) (sym shows) (either (λ v. Parted kind v b) (fault_of a c) a (done a c) p (first_done kind a b p c k))

pub parted_second : (kind : Kind) (a b : View) (c : Call) (w : View) → for_first kind a b c ≡ false → w ≡ after_call b c
    → Parted kind a b → Parted kind a w
parted_second kind a b c w k shows p =
    subst (Parted kind a) (sym shows) (either (Parted kind a) (fault_of b c) b (done b c) p (second_done kind a b p c k))
