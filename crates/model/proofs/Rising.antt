-- What stands in a list that is made of others, and that the list rises. Assumes nothing.
use Rattle.std.proofs.Common.{◌≡◌, ℕ, zero, suc, ◌<◌, Bool, true, false, cond, List, [], ◌∷◌, ◌++◌, map, sym, refl, subst, inl, inr, arith}
use Rattle.model.specs.Search.{each_below, all_below, In, here, there}
use Rattle.model.specs.Listings.{Ascends}
use Rattle.model.proofs.Basics.{in_cases, each_below_out}

-- ── what stands in a list ──

pub if_out : {X : Type 0} (x : X) (b : Bool) (xs : List X) → In x (cond b xs []) → (b ≡ true) × In x xs
if_out x true xs m = (refl, m)
if_out x false xs m = elim m [ ]

pub if_in : {X : Type 0} (x : X) (b : Bool) (xs : List X) → b ≡ true → In x xs → In x (cond b xs [])
if_in x b xs e m = subst (λ t. In x (cond t xs [])) (sym e) m

pub only : {X : Type 0} (x y : X) → In x (y ∷ []) → x ≡ y
only x y here = refl
only x y (there m) = elim m [ ]

pub map_out : {X Y : Type 0} (f : X → Y) (y : Y) (xs : List X) → In y (map f xs) → (x : X) × In x xs × (y ≡ f x)
map_out f y [] m = elim m [ ]
map_out f y (x ∷ xs) here = (x, here, refl)
map_out f y (x ∷ xs) (there m) = let (z, k, e) = map_out f y xs m in (z, there k, e)

pub map_in : {X Y : Type 0} (f : X → Y) (x : X) (xs : List X) → In x xs → In (f x) (map f xs)
map_in f x [] m = elim m [ ]
map_in f x (y ∷ ys) here = here
map_in f x (y ∷ ys) (there m) = there (map_in f x ys m)

-- ── rising lists ──

module _ {X : Type 0} (R : X → X → Type 0) where
  pub ascends_append : (xs ys : List X) → Ascends R xs → Ascends R ys → ((x y : X) → In x xs → In y ys → R x y)
      → Ascends R (xs ++ ys)
  ascends_append [] ys a b h = b
  ascends_append (x ∷ xs) ys a b h = (
    (λ y m. elim (in_cases y xs ys m) [ inl k ↦ a.0 y k | inr k ↦ h x y here k ]),
    ascends_append xs ys a.1 b (λ u y k. h u y (there k)),
  )

  pub ascends_if : (b : Bool) (xs : List X) → Ascends R xs → Ascends R (cond b xs [])
  ascends_if true xs a = a
  ascends_if false xs a = tt

  pub ascends_map : {Y : Type 0} (S : Y → Y → Type 0) (f : Y → X) → ((x y : Y) → S x y → R (f x) (f y)) → (ys : List Y)
      → Ascends S ys → Ascends R (map f ys)
  ascends_map S f k [] a = tt
  ascends_map S f k (y ∷ ys) a = (
    (λ x m. let (z, j, e) = map_out f x ys m in subst (R (f y)) (sym e) (k y z (a.0 z j))),
    ascends_map S f k ys a.1,
  )

  pub ascends_each : (n : ℕ) (f : ℕ → List X) → ((k : ℕ) → Ascends R (f k))
      → ((j k : ℕ) (x y : X) → j < k → In x (f j) → In y (f k) → R x y) → Ascends R (each_below n f)
  ascends_each zero f a h = tt
  ascends_each (suc n) f a h =
      ascends_append (each_below n f) (f n) (ascends_each n f a h) (a n)
      (λ x y k m. let (j, l, q) = each_below_out n f x k in h j n x y l q m)

pub one_rises : (k : ℕ) → Ascends ◌<◌ (k ∷ [])
one_rises k = ((λ y m. elim m [ ]), tt)

pub all_below_rise : (n : ℕ) (p : ℕ → Bool) → Ascends ◌<◌ (all_below n p)
all_below_rise n p =
    ascends_each ◌<◌ n (λ k. cond (p k) (k ∷ []) [])
    (λ k. ascends_if ◌<◌ (p k) (k ∷ []) (one_rises k))
    (λ j k x y l m q.
    let a = only x j (if_out x (p j) (j ∷ []) m).1 in
    let b = only y k (if_out y (p k) (k ∷ []) q).1 in
    omega arith)
