-- The lemmas that the laws of hosts cite: of a host without parts, of a switch, of a pair, and of a book. Assumes nothing.
use Rattle.std.specs.Prelude.{◌≡◌, ℕ, ◌-◌, ◌≤◌, cond, not, List, [], ◌∷◌, length, drop, is_some, None, Option, refl}
use Rattle.std.proofs.Common.{◌∙◌, sym, ap, subst, arith}
use Rattle.std.proofs.lemmas.Bool.Decides.{nat_tests}
use Rattle.std.proofs.lemmas.List.{drop-drop, length-take}
use Rattle.std.proofs.Math.Seq.{take-length}
use mathlib.Core.Path.{fun_ext}
use Rattle.values.specs.declared.Entry.{Entry}
use Rattle.values.specs.declared.HostState.{HostState}
use Rattle.values.specs.declared.Kind.{Kind}
use Rattle.host.specs.Keys.{RowKey}
use Rattle.host.specs.Table.{IsPrefix, RestFrom}
use Rattle.host.specs.View.{View, Sound, Fresh, is_unknown}
use Rattle.host.specs.Known.{Known, KnownRow, known_by, known_row, if_wanted, only, is_kind, is_other, Alone}
use Rattle.host.specs.Known.{HoldsWhatItShows, HoldsNothingFresh, StaysSorted, MovesNoRow}
use Rattle.host.specs.Views.{joined, switch_view, pair_view, SwitchHolds, PairHolds, SwitchGoes, PairGoes}
use Rattle.host.specs.Commands.{LeavesAll, SwitchLeaves, PairLeaves}
use Rattle.host.specs.declared.switch.Switch.{Switch}
use Rattle.host.specs.declared.switch.SwitchCommand.TheVariants.{On, Off, Below}
use Rattle.host.specs.declared.pair.Pair.{Pair}
use Rattle.host.specs.declared.pair.PairCommand.TheVariants.{First, Second}

-- ── a host without parts, which no command changes ──

-- a host that knows no row
pub unknown_row : (v : View) → Sound v → Fresh v → (row : RowKey) → known_row (v.state row) (v.entry row) ≡ None
unknown_row v s f row = let e = s.entries row in let u = f row in grind (arith, nat_tests)

module _ {X : Type 0} (view : X → View) where
  pub alone_whole : HoldsWhatItShows view (Alone view)
  alone_whole x known h = h

  pub alone_empty : ((x : X) → Sound (view x)) → HoldsNothingFresh view (Alone view)
  alone_empty sound x fresh = fun_ext λ row. unknown_row (view x) (sound x) fresh row

  pub alone_sorted : (goes : X → X → Type 0) → StaysSorted view (Alone view) goes
  alone_sorted goes x y g h = refl

pub nothing_moves : {X C : Type 0} (holds : X → Known → Type 0) → MovesNoRow {C = C} holds LeavesAll
nothing_moves holds x c y l known h = subst (λ z. holds z known) (sym l) h

-- ── none of the calls, and one after another ──

module _ {X : Type 0} {goes : X → X → Type 0} where
  pub switch_stays : ((x : X) → goes x x) → (s : Switch X) → SwitchGoes goes s s
  switch_stays stays s = record { on = refl; inner = stays s.inner; off = λ _. refl }

  pub switch_goes_on : ((x y z : X) → goes x y → goes y z → goes x z) → (s t u : Switch X)
      → SwitchGoes goes s t → SwitchGoes goes t u → SwitchGoes goes s u
  switch_goes_on goes_on s t u p q = record {
    on = q.on ∙ p.on;
    inner = goes_on s.inner t.inner u.inner p.inner q.inner;
    off = λ off. q.off (p.on ∙ off) ∙ p.off off;
  }

module _ {X Y : Type 0} {first_view : X → View} {first_holds : X → Known → Type 0} {first_goes : X → X → Type 0}
    {second_view : Y → View} {second_holds : Y → Known → Type 0} {second_goes : Y → Y → Type 0} where
  pub pair_stays : ((x : X) → first_goes x x) → ((y : Y) → second_goes y y) → (p : Pair X Y)
      → PairGoes first_view first_holds first_goes second_view second_holds second_goes p p
  pair_stays first second p = record { kind = refl; first = first p.first; second = second p.second; sorted = λ s. s }

  pub pair_goes_on : ((x y z : X) → first_goes x y → first_goes y z → first_goes x z)
      → ((x y z : Y) → second_goes x y → second_goes y z → second_goes x z) → (p q r : Pair X Y)
      → PairGoes first_view first_holds first_goes second_view second_holds second_goes p q → PairGoes first_view first_holds first_goes second_view second_holds second_goes q r
      → PairGoes first_view first_holds first_goes second_view second_holds second_goes p r
  pair_goes_on first second p q r a b = record {
    kind = b.kind ∙ a.kind;
    first = first p.first q.first r.first a.first b.first;
    second = second p.second q.second r.second a.second b.second;
    sorted = λ s. b.sorted (a.sorted s);
  }

-- ── a switch ──

module _ {X : Type 0} (view : X → View) (holds : X → Known → Type 0) where
  pub switch_whole : HoldsWhatItShows view holds → HoldsWhatItShows (switch_view view) (SwitchHolds holds)
  switch_whole whole s known h = whole s.inner known h

  pub switch_empty : HoldsNothingFresh view holds → HoldsNothingFresh (switch_view view) (SwitchHolds holds)
  switch_empty empty s fresh = empty s.inner fresh

  pub switch_sorted : {goes : X → X → Type 0} → StaysSorted view holds goes
      → StaysSorted (switch_view view) (SwitchHolds holds) (SwitchGoes goes)
  switch_sorted sorted s t g h = sorted s.inner t.inner g.inner h

module _ {X C : Type 0} (holds : X → Known → Type 0) (leaves : X → C → X → Type 0) where
  pub switch_moves_no_row : MovesNoRow holds leaves → MovesNoRow (SwitchHolds holds) (SwitchLeaves leaves)
  switch_moves_no_row moves s On t l known h = subst (λ x. holds x known) (sym l.1) h
  switch_moves_no_row moves s Off t l known h = subst (λ x. holds x known) (sym l.1) h
  switch_moves_no_row moves s (Below c) t l known h = moves s.inner c t.inner l.1 known h

-- ── a pair ──

-- a row of a pair, by what its hosts know
row_joined : (kind : Kind) (s t : HostState) (d e : Option Entry) (r : Option KnownRow) → is_some d ≡ not (is_unknown s)
    → known_row s d ≡ if_wanted (is_kind kind) r → known_row t e ≡ if_wanted (is_other kind) r
    → known_row (cond (is_unknown s) t s) (cond (is_unknown s) e d) ≡ r
row_joined kind s t d e r sound first second = grind (arith, nat_tests)

pub joined_whole : (kind : Kind) (a b : View) (known : Known) → Sound a → known_by a ≡ only (is_kind kind) known
    → known_by b ≡ only (is_other kind) known → known_by (joined kind a b) ≡ known
joined_whole kind a b known sound first second = fun_ext λ row.
    row_joined kind _ _ _ _ (known row) (sound.entries row) (λ i. first i row) (λ i. second i row)

pub fresh_first : (kind : Kind) (a b : View) → Fresh (joined kind a b) → Fresh a
fresh_first kind a b fresh row = let f = fresh row in grind (arith, nat_tests)

pub fresh_second : (kind : Kind) (a b : View) → Fresh (joined kind a b) → Fresh b
fresh_second kind a b fresh row = let f = fresh row in grind (arith, nat_tests)

module _ {X Y : Type 0} (first_view : X → View) (first_holds : X → Known → Type 0)
    (second_view : Y → View) (second_holds : Y → Known → Type 0) where
  pub pair_whole : ((x : X) → Sound (first_view x)) → HoldsWhatItShows first_view first_holds → HoldsWhatItShows second_view second_holds
      → HoldsWhatItShows (pair_view first_view second_view) (PairHolds first_holds second_holds)
  pair_whole sound first second p known h =
      joined_whole p.kind (first_view p.first) (second_view p.second) known (sound p.first) (first p.first _ h.0) (second p.second _ h.1)

  pub pair_empty : HoldsNothingFresh first_view first_holds → HoldsNothingFresh second_view second_holds
      → HoldsNothingFresh (pair_view first_view second_view) (PairHolds first_holds second_holds)
  pair_empty first second p fresh = (
    first p.first (fresh_first p.kind (first_view p.first) (second_view p.second) fresh),
    second p.second (fresh_second p.kind (first_view p.first) (second_view p.second) fresh),
  )

  pub pair_sorted : (first_goes : X → X → Type 0) (second_goes : Y → Y → Type 0)
      → StaysSorted (pair_view first_view second_view) (PairHolds first_holds second_holds)
      (PairGoes first_view first_holds first_goes second_view second_holds second_goes)
  pair_sorted first_goes second_goes p q goes = goes.sorted

module _ {X C Y D : Type 0} (first_holds : X → Known → Type 0) (first_leaves : X → C → X → Type 0)
    (second_holds : Y → Known → Type 0) (second_leaves : Y → D → Y → Type 0) where
  pub pair_moves_no_row : MovesNoRow first_holds first_leaves → MovesNoRow second_holds second_leaves
      → MovesNoRow (PairHolds first_holds second_holds) (PairLeaves first_leaves second_leaves)
  pair_moves_no_row first second p (First c) q left known h = (
    subst (λ k. first_holds q.first (only (is_kind k) known)) (sym left.0) (first p.first c q.first left.1 _ h.0),
    subst (λ k. second_holds q.second (only (is_other k) known)) (sym left.0)
        (subst (λ y. second_holds y (only (is_other p.kind) known)) (sym left.2) h.1),
  )
  pair_moves_no_row first second p (Second c) q left known h = (
    subst (λ k. first_holds q.first (only (is_kind k) known)) (sym left.0)
        (subst (λ x. first_holds x (only (is_kind p.kind) known)) (sym left.1) h.0),
    subst (λ k. second_holds q.second (only (is_other k) known)) (sym left.0) (second p.second c q.second left.2 _ h.1),
  )

-- ── the table of a book ──

-- items at their places, after none of the calls and after some and others
pub prefix_stays : {X : Type 0} (xs : List X) → IsPrefix xs xs
prefix_stays xs = take-length xs

pub prefix_goes_on : {X : Type 0} (xs ys zs : List X) → IsPrefix xs ys → IsPrefix ys zs → IsPrefix xs zs
prefix_goes_on [] ys zs p q = grind arith
prefix_goes_on (x ∷ xs) [] zs p q = grind arith
prefix_goes_on (x ∷ xs) (y ∷ ys) [] p q = grind arith
prefix_goes_on (x ∷ xs) (y ∷ ys) (z ∷ zs) p q = let ih = prefix_goes_on xs ys zs in grind arith

pub prefix_longer : {X : Type 0} (xs ys : List X) → IsPrefix xs ys → length xs ≤ length ys
prefix_longer xs ys p = let size = length-take (length xs) ys in let same = ap length p in omega (arith, size, same)

-- the rest of the table, from which as many items were taken
pub rest_stays : {X : Type 0} (n : ℕ) (rest : List X) → RestFrom n n rest rest
rest_stays n rest = let none : n - n ≡ 0 = omega arith in sym (ap (λ k. drop k rest) none)

pub rest_goes_on : {X : Type 0} (a b c : ℕ) (r s t : List X) → a ≤ b → b ≤ c → RestFrom a b r s → RestFrom b c s t → RestFrom a c r t
rest_goes_on a b c r s t p q u w = w ∙ ap (drop (c - b)) u ∙ drop-drop (c - b) (b - a) r ∙ ap (λ n. drop n r) (omega (arith, p, q))
