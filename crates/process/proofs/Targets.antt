-- A search over rising arrows for the least step that an arrow leads to. Assumes nothing.
use Rattle.std.proofs.Common.{◌≡◌, ℕ, zero, suc, ◌<◌, ◌≤◌, Bool, true, false, ◌&&◌, ◌||◌, ◌⊎◌, eqb, ltb, leb, List, [], ◌∷◌, length, get_or, cond, Some, None, Option, MatchOption, sym, refl, ap, ◌∙◌, subst, inl, inr, ⊎_elim, arith}
use Rattle.std.proofs.lemmas.Bool.{cases_lt, cases_eq, eq-eqb, ne_eqb}
use Rattle.std.proofs.lemmas.Bool.Decides.{nat_tests}
use Rattle.std.proofs.lemmas.List.{get_or_default}
use Rattle.std.specs.List.{HoldsAt}
use Rattle.std.specs.Bool.{then_some}
use Rattle.std.specs.Option.{option_map, IsSomeAnd}
use Rattle.std.proofs.lemmas.Map.Entries.{option_filter}
use Rattle.std.specs.List.Sorted.{IsPartitionedBy, IsPartitionPoint}
use Rattle.graph.specs.Reach.{Within, Least}
use Rattle.process.specs.declared.parts.Arrow.{Arrow}
use Rattle.process.specs.Stored.{no_arrow, All, Placed, Leads, Before, Rising}
use Rattle.process.specs.Shape.{Sorted, Inside}
use Rattle.process.proofs.Checks.{before_true, before_holds}

before_trans : (a b c : Arrow) → Before a b → Before b c → Before a c
before_trans a b c (inl p) (inl q) = inl (omega arith)
before_trans a b c (inl p) (inr q) = inl (omega (arith, q.0))
before_trans a b c (inr p) (inl q) = inl (omega (arith, p.0))
before_trans a b c (inr p) (inr q) = inr (p.0 ∙ q.0, omega (arith, p.1, q.1))

-- of rising arrows, each comes after `none`
after_none : (none : Arrow) (zs : List Arrow) → Rising none zs → (i : ℕ) → i < length zs → Before none (get_or zs i no_arrow)
after_none none [] r i l = absurd (omega arith)
after_none none (z ∷ zs) r zero l = r.0
after_none none (z ∷ zs) r (suc i) l = before_trans none z _ r.0 (after_none z zs r.1 i (omega arith))

-- and before every later one
pub rising_sorted : (none : Arrow) (zs : List Arrow) → Rising none zs → Sorted zs
rising_sorted none [] r i j h = absurd (omega (arith, h.1))
rising_sorted none (z ∷ zs) r zero zero h = absurd (omega (arith, h.0))
rising_sorted none (z ∷ zs) r zero (suc j) h = before_holds z _ (after_none z zs r.1 j (omega (arith, h.1)))
rising_sorted none (z ∷ zs) r (suc i) zero h = absurd (omega (arith, h.0))
rising_sorted none (z ∷ zs) r (suc i) (suc j) h = rising_sorted z zs r.1 i j (omega (arith, h.0), omega (arith, h.1))

-- arrows of n steps have both ends there
pub placed_inside : (n : ℕ) (zs : List Arrow) → All (Placed n) zs → Inside n zs
placed_inside n [] p i l = absurd (omega arith)
placed_inside n (z ∷ zs) p zero l = let q = p.0 in ((q.from_low, q.from_high), (omega (arith, q.to_low), q.to_high))
placed_inside n (z ∷ zs) p (suc i) l = placed_inside n zs p.1 i (omega arith)

-- the arrow comes no later than one from j to `after`
abbrev pub is_past : ℕ → ℕ → Arrow → Bool
is_past j after a = ltb a.from j || (eqb a.from j && leb a.to after)

past_says : (j after : ℕ) (a : Arrow) → is_past j after a ≡ true → (a.from < j) ⊎ ((a.from ≡ j) × (a.to ≤ after))
past_says j after a h =
    elim (cases_lt a.from j) [
      | inl less ↦ inl less
      | inr more ↦ inr (grind (arith, nat_tests), grind (arith, nat_tests))
    ]

past_if : (j after : ℕ) (a : Arrow) → (a.from < j) ⊎ ((a.from ≡ j) × (a.to ≤ after)) → is_past j after a ≡ true
past_if j after a (inl h) = grind (arith, nat_tests)
past_if j after a (inr h) = let p = h.0 in let q = h.1 in grind (arith, nat_tests)

past_low : (j after : ℕ) (a : Arrow) → is_past j after a ≡ false → j ≤ a.from
past_low j after a h = grind (arith, nat_tests)

past_not : (j after : ℕ) (a : Arrow) → a.from ≡ j → is_past j after a ≡ false → after < a.to
past_not j after a e h = grind (arith, nat_tests)

-- what comes before an arrow that is past is past too
past_down : (j after : ℕ) (a b : Arrow) → Before a b → is_past j after b ≡ true → is_past j after a ≡ true
past_down j after a b h p =
    past_if j after a (⊎_elim
    (λ l. ⊎_elim (λ less. inl (omega arith)) (λ same. elim (cases_lt a.from j) [ inl k ↦ inl k | inr k ↦ absurd (omega (arith, same.0)) ]) (past_says j after b p))
    (λ e. ⊎_elim (λ less. inl (omega (arith, e.0))) (λ same. inr (e.0 ∙ same.0, omega (arith, e.1, same.1))) (past_says j after b p))
    h)

eq_or_less : (i k : ℕ) → i ≤ k → (i ≡ k) ⊎ (i < k)
eq_or_less i k l = elim (cases_lt i k) [ inl h ↦ inr h | inr h ↦ inl (omega arith) ]

pub past_parts : (j after : ℕ) (zs : List Arrow) → Sorted zs → IsPartitionedBy (is_past j after) zs
past_parts j after zs sorted i k d le in_side p =
    ⊎_elim (λ e. subst (λ (m : ℕ). is_past j after (get_or zs m d) ≡ true) (sym e) p)
    (λ less.
    let at : (m : ℕ) → m < length zs → get_or zs m d ≡ get_or zs m no_arrow = λ m l. get_or_default zs m d no_arrow l in
    let inside : i < length zs = omega arith in
    subst (λ (a : Arrow). is_past j after a ≡ true) (sym (at i inside))
    (past_down j after _ _ (before_true _ _ (sorted i k (less, in_side)))
    (subst (λ (a : Arrow). is_past j after a ≡ true) (at k in_side) p)))
    (eq_or_less i k le)

then_kept : {X : Type 0} (b d : Bool) (x : X) → b ≡ d → then_some b x ≡ cond d (Some x) None
then_kept true d x e = ap (λ (y : Bool). cond y (Some x) None) e
then_kept false d x e = ap (λ (y : Bool). cond y (Some x) None) e

module _ (zs : List Arrow) (n j after : ℕ) (sorted : Sorted zs) (inside : Inside n zs) (i : ℕ)
    (point : IsPartitionPoint (λ a. is_past j after a ≡ true) (λ a. is_past j after a ≡ false) zs i) where
  -- an arrow that leads to a step above `after` is not past
  not_past : (k : ℕ) → after < k → (l : Leads zs n j k) → i ≤ l.place
  not_past k above l =
      elim (cases_lt l.place i) [
        | inl less ↦
            absurd (⊎_elim (λ h. omega (arith, l.from_is)) (λ h. omega (arith, l.to_is, h.1))
            (past_says j after (get_or zs l.place no_arrow) (point.0 l.place no_arrow (omega arith) less)))
        | inr h ↦ h
      ]

  -- there is none where no arrow follows
  pub none_left : length zs ≤ i → Least (Leads zs n j) after None
  none_left end k above l = let in_it = l.inside in let past = not_past k above l in omega arith

  -- it does not come before the next arrow
  no_sooner : i < length zs → (k : ℕ) → after < k → (l : Leads zs n j k)
      → (l.place ≡ i) ⊎ Before (get_or zs i no_arrow) (get_or zs l.place no_arrow)
  no_sooner in_side k above l =
      ⊎_elim (λ e. inl (sym e)) (λ less. inr (before_true _ _ (sorted i l.place (less, l.inside)))) (eq_or_less i l.place (not_past k above l))

  -- nor where the next arrow does not lead from j
  pub none_from : i < length zs → ((get_or zs i no_arrow).from ≡ j → ⊥) → Least (Leads zs n j) after None
  none_from in_side other k above l =
      ⊎_elim (λ e. other (ap (λ (p : ℕ). (get_or zs p no_arrow).from) (sym e) ∙ l.from_is))
      (λ b. ⊎_elim (λ less. let low = past_low j after _ (point.1 i no_arrow (omega arith) in_side) in omega (arith, l.from_is))
      (λ same. other (same.0 ∙ l.from_is)) b)
      (no_sooner in_side k above l)

  -- the next arrow from j is the least
  pub next_is : i < length zs → (get_or zs i no_arrow).from ≡ j → Least (Leads zs n j) after (Some (get_or zs i no_arrow).to)
  next_is in_side same =
      let a = get_or zs i no_arrow in
      let it : Leads zs n j a.to = record {
        place = i;
        inside = in_side;
        from_is = same;
        to_is = refl;
        from_step = subst (Within n) same (inside i in_side).0;
        to_step = (inside i in_side).1;
      } in (
        past_not j after a same (point.1 i no_arrow (omega arith) in_side),
        it,
        λ k above below l.
            ⊎_elim (λ e. let at : a.to ≡ k = ap (λ (p : ℕ). (get_or zs p no_arrow).to) (sym e) ∙ l.to_is in omega arith)
            (λ b. ⊎_elim (λ less. omega (arith, l.from_is)) (λ h. omega (arith, l.to_is, h.1)) b)
            (no_sooner in_side k above l),
      )

  -- what `get` gives at the place, kept where it leads from j, and its end
  pub next_by : {B : Type 0} (v : B → Arrow) (got kept : Option B) (r : Option ℕ)
      → MatchOption got (length zs ≤ i) (λ x. (i < length zs) × HoldsAt (λ y. v x ≡ y) zs i)
      → kept ≡ option_filter (λ x. eqb (v x).from j) got → r ≡ option_map (λ x. (v x).to) kept
      → Least (Leads zs n j) after r
  next_by v None kept r end k_is r_is =
      subst (Least (Leads zs n j) after) (sym (r_is ∙ ap (option_map (λ x. (v x).to)) k_is)) (none_left end)
  next_by v (Some x) kept r at k_is r_is =
      let a_is : v x ≡ get_or zs i no_arrow = at.1 no_arrow in
      elim (cases_eq (v x).from j) [
        | inl e ↦
            let k_some : kept ≡ Some x = k_is ∙ ap (λ (b : Bool). cond b (Some x) None) (eq-eqb (v x).from j e) in
            let r_some : r ≡ Some (get_or zs i no_arrow).to =
            r_is ∙ ap (option_map (λ x. (v x).to)) k_some ∙ ap (λ (a : Arrow). Some a.to) a_is in
            subst (Least (Leads zs n j) after) (sym r_some) (next_is at.0 (sym (ap (λ (a : Arrow). a.from) a_is) ∙ e))
        | inr ne ↦
            let k_none : kept ≡ None = k_is ∙ ap (λ (b : Bool). cond b (Some x) None) (ne_eqb (v x).from j ne) in
            subst (Least (Leads zs n j) after) (sym (r_is ∙ ap (option_map (λ x. (v x).to)) k_none))
            (none_from at.0 (λ e. ne (ap (λ (a : Arrow). a.from) a_is ∙ e)))
      ]

-- the clauses of `filter` and `map` of an Option, by what the closures compute
pub filtered_by : {X : Type 0} (p : X → Bool) (o r : Option X) {P : X → Bool → Type 0}
    → MatchOption o (r ≡ None) (λ x. (b : Bool) × P x b × (r ≡ then_some b x)) → ((x : X) (b : Bool) → P x b → b ≡ p x)
    → r ≡ option_filter p o
filtered_by p None r h f = h
filtered_by p (Some x) r h f = h.2 ∙ then_kept _ _ x (f x h.0 h.1)

pub mapped_by : {X U : Type 0} (g : X → U) (o : Option X) (r : Option U) {P : X → U → Type 0}
    → MatchOption o (r ≡ None) (λ x. IsSomeAnd r (P x)) → ((x : X) (u : U) → P x u → u ≡ g x) → r ≡ option_map g o
mapped_by g None r h f = h
mapped_by g (Some x) None h f = absurd h
mapped_by g (Some x) (Some u) h f = ap (λ y. Some y) (f x u h)
