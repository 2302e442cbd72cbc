-- Lists put into a table one after the other. Assumes nothing.
use Rattle.std.proofs.Common.{◌≡◌, ℕ, zero, suc, ◌+◌, ◌*◌, ◌<◌, ◌≤◌, Bool, true, false, cond, List, [], ◌∷◌, ◌++◌, length, Some, None, set, map, drop, refl, sym, subst, ap, ◌∙◌, ap₂, inl, inr, add-one, add-zero, zero-add, arith, length-append}
use Rattle.std.proofs.Math.Seq.{sets}
use Rattle.std.proofs.lemmas.Bool.{cases_eq}
use Rattle.std.proofs.lemmas.List.{append-nil, map-append}
use Rattle.std.proofs.lemmas.List.Edits.{sets-eq}
use Rattle.model.specs.Run.{over}
use Rattle.model.specs.Search.{each_below, all_below}
use Rattle.sheet.specs.Listings.{put_all, Puts, only_if}
use Rattle.graph.specs.Reach.{Least}
use Rattle.rowset.proofs.Loops.{to_next, to_end}

-- ── one list after another ──

put_append : {X : Type 0} (xs ys : List X) (at : ℕ) (t : List X) → put_all (xs ++ ys) at t ≡ put_all ys (at + length xs) (put_all xs at t)
put_append [] ys at t = ap (λ n. put_all ys n t) (sym (add-zero at))
put_append (x ∷ xs) ys at t =
    let place : at + 1 + length xs ≡ at + length (x ∷ xs) = omega arith in
    put_append xs ys (at + 1) (set t at x) ∙ ap (λ n. put_all ys n (put_all xs (at + 1) (set t at x))) place

module _ {X : Type 0} {a b c : ℕ} {t u v : List X} where
  pub puts_then : (xs ys : List X) → Puts xs a t b u → Puts ys b u c v → Puts (xs ++ ys) a t c v
  puts_then xs ys p q = record {
    place = omega (arith, p.place, q.place, length-append xs ys);
    written = q.written ∙ ap₂ (put_all ys) p.place p.written ∙ sym (put_append xs ys a t);
  }

  -- what one number more gives
  puts_each : (f : ℕ → List X) (n : ℕ) → Puts (each_below n f) a t b u → Puts (f n) b u c v
      → Puts (each_below (n + 1) f) a t c v
  puts_each f n p q = rw add-one (puts_then (each_below n f) (f n) p q)

puts_none : {X : Type 0} {a : ℕ} {t : List X} → Puts [] a t a t
puts_none {a = a} = record { place = sym (add-zero a); written = refl }

-- ── a list that the table has room for ──

put_sets : {X : Type 0} (xs : List X) (at : ℕ) (t : List X) → put_all xs at t ≡ sets t at xs
put_sets [] at t = refl
put_sets (x ∷ xs) at t = rw add-one (put_sets xs (suc at) (set t at x))

-- a list that is put from the first place on is counted
pub count_is : {X : Type 0} {xs t : List X} {n : ℕ} {u : List X} → Puts xs 0 t n u → n ≡ length xs
count_is {xs = xs} p = p.place ∙ zero-add (length xs)

pub puts_over : {X : Type 0} (xs t : List X) {n : ℕ} {u : List X} → length xs ≤ length t → Puts xs 0 t n u → u ≡ over xs t
puts_over xs t room p =
    p.written ∙ put_sets xs 0 t ∙ sets-eq xs t 0 (omega arith) ∙ ap (λ n. xs ++ drop n t) (zero-add (length xs))

-- ── what numbers give ──

length_each : {X : Type 0} (n m : ℕ) (f : ℕ → List X) → ((k : ℕ) → length (f k) ≤ m) → length (each_below n f) ≤ n * m
length_each zero m f few = omega arith
length_each (suc n) m f few = omega (arith, length-append (each_below n f) (f n), few n, length_each n m f few)

pub length_only_if : {X : Type 0} (b : Bool) (x : X) → length (only_if b x) ≤ 1
length_only_if true x = omega arith
length_only_if false x = omega arith

-- numbers that give nothing, from m on
pub each_lower : {X : Type 0} (f : ℕ → List X) (m n : ℕ) → m ≤ n → ((k : ℕ) → m ≤ k → k < n → f k ≡ [])
    → each_below n f ≡ each_below m f
each_lower f m zero l none = let same : zero ≡ m = omega arith in ap (λ k. each_below k f) same
each_lower f m (suc n) l none =
    elim (cases_eq m (suc n)) [
      | inl e ↦ ap (λ k. each_below k f) (sym e)
      | inr ne ↦
          let below = each_lower f m n (omega arith) (λ k h u. none k h (omega arith)) in
          ap₂ ◌++◌ below (none n (omega arith) (omega arith)) ∙ append-nil (each_below m f)
    ]

pub map_each : {X : Type 0} (g : ℕ → X) (p : ℕ → Bool) (n : ℕ) → map g (all_below n p) ≡ each_below n (λ k. only_if (p k) (g k))
map_each g p zero = refl
map_each {X} g p (suc n) = map-append g (all_below n p) _ ∙ ap₂ ◌++◌ (map_each g p n) (one (p n))
  where
    one : (b : Bool) → map g (only_if b n) ≡ only_if b (g n)
    one true = refl
    one false = refl

-- ── what the members of a set give ──

module _ {X : Type 0} (p : ℕ → Bool) (h : ℕ → List X) where
  -- what a number gives
  abbrev pub given : ℕ → List X
  given k = cond (p k) (h k) []

  given_none : (k : ℕ) → p k ≡ false → given k ≡ []
  given_none k out = ap (λ b. cond b (h k) []) out

  -- no more than each member does
  pub length_given : (m n : ℕ) → ((k : ℕ) → length (h k) ≤ m) → length (each_below n given) ≤ n * m
  length_given m n few = length_each n m given (λ k. at_most (p k) k)
    where
      at_most : (b : Bool) (k : ℕ) → length (cond b (h k) []) ≤ m
      at_most true k = few k
      at_most false k = omega arith

  still : (k : ℕ) → p k ≡ false → each_below (suc k) given ≡ each_below k given
  still k out = ap (λ xs. each_below k given ++ xs) (given_none k out) ∙ append-nil (each_below k given)

  module _ {a last b : ℕ} {t u : List X} (so_far : Puts (each_below (last + 1) given) a t b u) where
    -- with the next member
    pub puts_next : {c k : ℕ} {v : List X} → Least (λ j. p j ≡ true) last (Some k) → Puts (h k) b u c v
        → Puts (each_below (k + 1) given) a t c v
    puts_next {c} {k} {v} next one =
        puts_each given k
        (subst (λ xs. Puts xs a t b u) (sym (to_next (λ n. each_below n given) p still next)) so_far)
        (subst (λ m. Puts (cond m (h k) []) b u c v) (sym next.1) one)

    -- where there is none
    pub puts_end : (n : ℕ) → last < n → Least (λ j. p j ≡ true) last None → Puts (each_below n given) a t b u
    puts_end n inside past =
        subst (λ xs. Puts xs a t b u) (sym (to_end (λ n. each_below n given) p still n inside past)) so_far
