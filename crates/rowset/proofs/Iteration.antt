-- The members of a set as a list, and what loops over them know. Assumes nothing.
use Rattle.std.proofs.Common.{◌≡◌, ℕ, zero, suc, ◌+◌, ◌-◌, ◌<◌, ◌≤◌, Bool, true, false, cond, ◌&&◌, not, eqb, List, [], ◌∷◌, ◌++◌, length, drop, get_or, Option, Some, None, sym, refl, ap, ◌∙◌, inl, inr, arith, length-append}
use Rattle.std.specs.Iterator.{Yields, YieldsFirst}
use Rattle.std.specs.List.{filter, find, range_with_len}
use Rattle.std.specs.Option.{option_map}
use Rattle.std.proofs.lemmas.Bool.{cases_Bool, cases_eq, cases_lt, and_parts, both_ways, false_from_ne_true}
use Rattle.std.proofs.lemmas.List.{append-nil}
use Rattle.graph.specs.Reach.{Least}
use Rattle.rowset.specs.declared.Iter.{Iter}
use Rattle.rowset.specs.declared.RowSet.{RowSet}
use Rattle.rowset.specs.Iteration.{greatest, members, members_above, rest}
use Rattle.rowset.specs.Members.{is_set, contains}
use Rattle.rowset.proofs.Bits.{none_past}

cons_parts : {x y : ℕ} {xs ys : List ℕ} → x ∷ xs ≡ y ∷ ys → (x ≡ y) × (xs ≡ ys)
cons_parts {x} e = (ap (λ l. get_or l 0 x) e, ap (drop 1) e)

-- ── the numbers of a range that pass a test ──

module _ (p : ℕ → Bool) where
  -- none does
  none_there : (a n : ℕ) → ((k : ℕ) → a ≤ k → k < a + n → p k ≡ false) → filter p (range_with_len a n) ≡ []
  none_there a zero none = refl
  none_there a (suc n) none =
      ap (λ b. cond b (a ∷ filter p (range_with_len (a + 1) n)) (filter p (range_with_len (a + 1) n))) (none a (omega arith) (omega arith))
      ∙ none_there (a + 1) n (λ k l u. none k (omega arith) (omega arith))

  -- t is the first that does
  first_there : (a n t m : ℕ) → a + n ≡ t + 1 + m → a ≤ t → p t ≡ true → ((k : ℕ) → a ≤ k → k < t → p k ≡ false)
      → filter p (range_with_len a n) ≡ t ∷ filter p (range_with_len (t + 1) m)
  first_there a zero t m e l is_in none = absurd (omega arith)
  first_there a (suc n) t m e l is_in none = elim (cases_eq a t) [
    | inl is ↦
        let same : n ≡ m = omega arith in
        ap (λ b. cond b (a ∷ filter p (range_with_len (a + 1) n)) (filter p (range_with_len (a + 1) n))) (ap p is ∙ is_in)
        ∙ ap (λ j. j ∷ filter p (range_with_len (j + 1) n)) is ∙ ap (λ j. t ∷ filter p (range_with_len (t + 1) j)) same
    | inr ne ↦
        ap (λ b. cond b (a ∷ filter p (range_with_len (a + 1) n)) (filter p (range_with_len (a + 1) n))) (none a (omega arith) (omega arith))
        ∙ first_there (a + 1) n t m (omega arith) (omega arith) is_in (λ k h u. none k (omega arith) u)
  ]

  -- the same the other way round
  first_of : (a n x : ℕ) (xs : List ℕ) → filter p (range_with_len (a + 1) n) ≡ x ∷ xs
      → Least (λ k. p k ≡ true) a (Some x) × ((m : ℕ) × (x + m ≡ a + n) × (filter p (range_with_len (x + 1) m) ≡ xs))
  first_of a zero x xs e = absurd (omega (arith, ap length e))
  first_of a (suc n) x xs e = elim (cases_Bool (p (a + 1))) [
    | inl is_in ↦
        let parts = cons_parts (ap (λ b. cond b ((a + 1) ∷ filter p (range_with_len (a + 1 + 1) n)) (filter p (range_with_len (a + 1 + 1) n))) (sym is_in) ∙ e) in
        let here : a + 1 ≡ x = parts.0 in (
          (omega (arith, here), ap p (sym here) ∙ is_in, (λ k l u. absurd (omega (arith, here)))),
          (n, omega (arith, here), ap (λ j. filter p (range_with_len (j + 1) n)) (sym here) ∙ parts.1),
        )
    | inr out ↦
        let (least, more) = first_of (a + 1) n x xs (ap (λ b. cond b ((a + 1) ∷ filter p (range_with_len (a + 1 + 1) n)) (filter p (range_with_len (a + 1 + 1) n))) (sym out) ∙ e) in (
          (
            omega (arith, least.0),
            least.1,
            (λ k l u is_in. elim (cases_eq k (a + 1)) [
              | inl is ↦ both_ways (p (a + 1)) out (ap p (sym is) ∙ is_in)
              | inr ne ↦ least.2 k (omega arith) u is_in
            ]),
          ),
          (more.0, omega (arith, more.1), more.2),
        )
  ]

  -- where there is none
  none_of : (a n : ℕ) → filter p (range_with_len (a + 1) n) ≡ [] → (k : ℕ) → a < k → k ≤ a + n → p k ≡ true → ⊥
  none_of a zero e k l u is_in = absurd (omega arith)
  none_of a (suc n) e k l u is_in = elim (cases_Bool (p (a + 1))) [
    | inl here ↦ absurd (omega (arith, ap length (sym e ∙ ap (λ b. cond b ((a + 1) ∷ filter p (range_with_len (a + 1 + 1) n)) (filter p (range_with_len (a + 1 + 1) n))) here)))
    | inr out ↦ elim (cases_eq k (a + 1)) [
      | inl is ↦ both_ways (p (a + 1)) out (ap p (sym is) ∙ is_in)
      | inr ne ↦
          none_of (a + 1) n (ap (λ b. cond b ((a + 1) ∷ filter p (range_with_len (a + 1 + 1) n)) (filter p (range_with_len (a + 1 + 1) n))) (sym out) ∙ e)
          k (omega arith) (omega arith) is_in
    ]
  ]

  few_there : (a n : ℕ) → length (filter p (range_with_len a n)) ≤ n
  few_there a zero = omega arith
  few_there a (suc n) = elim (cases_Bool (p a)) [
    | inl is_in ↦
        let one = ap (λ b. length (cond b (a ∷ filter p (range_with_len (a + 1) n)) (filter p (range_with_len (a + 1) n)))) is_in in
        omega (arith, one, few_there (a + 1) n)
    | inr out ↦
        let none = ap (λ b. length (cond b (a ∷ filter p (range_with_len (a + 1) n)) (filter p (range_with_len (a + 1) n)))) out in
        omega (arith, none, few_there (a + 1) n)
  ]

-- ── what `next` gives ──

-- no member is above the last bit
pub numbered : (set : RowSet) (k : ℕ) → contains set k ≡ true → k ≤ greatest set
numbered set k is_in = elim (cases_lt (greatest set) k) [
  | inl past ↦
      absurd (both_ways (is_set set.words (k - 1)) (none_past set.words (k - 1) (omega arith)) (and_parts (not (eqb k 0)) _ is_in).1)
  | inr within ↦ within
]

module _ (set : RowSet) {last : ℕ} where
  pub none_left : Least (λ k. contains set k ≡ true) last None → members_above set last ≡ []
  unfolding members_above
  none_left past =
      none_there (contains set) (last + 1) (greatest set - last) (λ k l u. false_from_ne_true (contains set k) (past k (omega arith)))

  pub first_left : {t : ℕ} → Least (λ k. contains set k ≡ true) last (Some t) → members_above set last ≡ t ∷ members_above set t
  unfolding members_above
  first_left {t} next =
      let above = next.0 in
      let within = numbered set t next.1 in
      first_there (contains set) (last + 1) (greatest set - last) t (greatest set - t) (omega arith) (omega arith) next.1
      (λ k l u. false_from_ne_true (contains set k) (next.2 k (omega arith) u))

-- ── a search among the members ──

-- the numbers that pass two tests
both_kept : (p f : ℕ → Bool) (xs : List ℕ) → filter f (filter p xs) ≡ filter (λ k. p k && f k) xs
both_kept p f [] = refl
both_kept p f (x ∷ xs) = let rest = both_kept p f xs in elim (cases_Bool (p x)) [
  | inl is ↦ grind arith
  | inr other ↦ grind arith
]

-- the first that is kept is the one found
first_kept : (f : ℕ → Bool) (xs : List ℕ) {t : ℕ} → Some t ≡ find f xs → (ys : List ℕ) × (filter f xs ≡ t ∷ ys)
first_kept f [] e = cc
first_kept f (x ∷ xs) {t} e = elim (cases_Bool (f x)) [
  | inl is ↦ (filter f xs, grind arith)
  | inr other ↦
      let later : Some t ≡ find f xs = grind arith in
      let (ys, rest) = first_kept f xs later in (ys, grind arith)
]

none_kept : (f : ℕ → Bool) (xs : List ℕ) → None ≡ find f xs → filter f xs ≡ []
none_kept f [] e = refl
none_kept f (x ∷ xs) e = elim (cases_Bool (f x)) [
  | inl is ↦ grind arith
  | inr other ↦ let rest = none_kept f xs (grind arith) in grind arith
]

-- the member that is found is the least that passes
pub found_least : (set : RowSet) (f : ℕ → Bool) (start : ℕ) (o : Option ℕ) → option_map (λ x. x) o ≡ find f (members_above set start)
    → Least (λ k. (contains set k && f k) ≡ true) start o
unfolding members_above
found_least set f start None e = λ k above is.
    let within = numbered set k (and_parts (contains set k) (f k) is).0 in
    none_of (λ k. contains set k && f k) start (greatest set - start)
    (sym (both_kept (contains set) f (range_with_len (start + 1) (greatest set - start))) ∙ none_kept f _ e) k above (omega arith) is
found_least set f start (Some t) e =
    let (ys, first) = first_kept f (members_above set start) e in
    (first_of (λ k. contains set k && f k) start (greatest set - start) t ys
    (sym (both_kept (contains set) f (range_with_len (start + 1) (greatest set - start))) ∙ first)).0

-- ── loops over the members ──

-- the last of the numbers so far
abbrev pub top : ℕ → List ℕ → ℕ
top a [] = a
top a (x ∷ xs) = top x xs

pub top_more : (a : ℕ) (xs : List ℕ) (x : ℕ) → top a (xs ++ (x ∷ [])) ≡ x
top_more a [] x = refl
top_more a (y ∷ xs) x = top_more y xs x

-- what an iterator gave, and what it has left
so_far : (s : Iter) (xs : List ℕ) (t : Iter) → Yields (YieldsFirst rest) s xs t → rest s ≡ xs ++ rest t
so_far s [] t e = ap rest e
so_far s (x ∷ xs) t (j, here, more) = here ∙ ap (λ ys. x ∷ ys) (so_far j xs t more)

next_after : (p : ℕ → Bool) (a n : ℕ) (xs : List ℕ) (x : ℕ) (ys : List ℕ) → filter p (range_with_len (a + 1) n) ≡ xs ++ (x ∷ ys)
    → Least (λ k. p k ≡ true) (top a xs) (Some x)
next_after p a n [] x ys e = (first_of p a n x ys e).0
next_after p a n (y ∷ xs) x ys e = let (least, more) = first_of p a n y (xs ++ (x ∷ ys)) e in next_after p y more.0 xs x ys more.2

none_after : (p : ℕ → Bool) (a n : ℕ) (xs : List ℕ) → filter p (range_with_len (a + 1) n) ≡ xs → (k : ℕ) → top a xs < k → k ≤ a + n
    → p k ≡ true → ⊥
none_after p a n [] e k l u = none_of p a n e k l u
none_after p a n (y ∷ xs) e k l u =
    let (least, more) = first_of p a n y xs e in none_after p y more.0 xs more.2 k l (omega (arith, more.1))

-- where a loop stands: what the iterator gave so far of the members above a number, and what it gives next
module _ {made it : Iter} (set : RowSet) (start : ℕ) (xs : List ℕ) (now : Iter) (into : it ≡ made)
    (all : rest made ≡ members_above set start) (gave : Yields (YieldsFirst rest) it xs now) where
  parts : members_above set start ≡ xs ++ rest now
  parts = sym all ∙ ap rest (sym into) ∙ so_far it xs now gave

  -- the next is the least member above the last
  pub next_from : {x : ℕ} {more : List ℕ} → rest now ≡ x ∷ more → Least (λ k. contains set k ≡ true) (top start xs) (Some x)
  unfolding members_above
  next_from {x} {more} next =
      next_after (contains set) start (greatest set - start) xs x more (parts ∙ ap (λ ys. xs ++ ys) next)

  -- all were given
  given_from : rest now ≡ [] → members_above set start ≡ xs
  given_from none = parts ∙ ap (λ ys. xs ++ ys) none ∙ append-nil xs

  -- no member is above the last
  pub no_next_from : rest now ≡ [] → Least (λ k. contains set k ≡ true) (top start xs) None
  unfolding members_above
  no_next_from none = λ k above is_in.
      let within = numbered set k is_in in
      none_after (contains set) start (greatest set - start) xs (given_from none) k above (omega arith) is_in

-- the same of all members
module _ {made it : Iter} (set : RowSet) (xs : List ℕ) (now : Iter) (into : it ≡ made) (all : rest made ≡ members set)
    (gave : Yields (YieldsFirst rest) it xs now) where
  pub next_member : {x : ℕ} {more : List ℕ} → rest now ≡ x ∷ more → Least (λ k. contains set k ≡ true) (top 0 xs) (Some x)
  next_member next = next_from set 0 xs now into all gave next

  pub given_all : rest now ≡ [] → members set ≡ xs
  given_all none = given_from set 0 xs now into all gave none

  pub no_next_member : rest now ≡ [] → Least (λ k. contains set k ≡ true) (top 0 xs) None
  no_next_member none = no_next_from set 0 xs now into all gave none

  -- there are fewer so far than numbers
  pub fewer : {x : ℕ} {more : List ℕ} → rest now ≡ x ∷ more → length xs < greatest set
  unfolding members_above
  fewer {x} {more} next =
      let size = ap length (parts set 0 xs now into all gave ∙ ap (λ ys. xs ++ ys) next) ∙ length-append xs (x ∷ more) in
      let few = few_there (contains set) 1 (greatest set - 0) in
      omega (arith, size, few)

  -- and fewer than members
  pub fewer_members : {x : ℕ} {more : List ℕ} → rest now ≡ x ∷ more → length xs < length (members set)
  fewer_members {x} {more} next =
      let size = ap length (parts set 0 xs now into all gave ∙ ap (λ ys. xs ++ ys) next) ∙ length-append xs (x ∷ more) in
      omega (arith, size)
