-- Lemmas on a search: what taking in points does, and that nobody waits only once all that is reached is marked.
use Rattle.std.proofs.Common.{◌≡◌, ℕ, zero, suc, ◌+◌, ◌<◌, ◌≤◌, true, false, cond, leb, ◌⊎◌, List, [], ◌∷◌, ◌++◌, length, set, sym, refl, ap, ◌∙◌, subst, inl, inr, ⊎_elim, arith}
use Rattle.std.proofs.lemmas.List.{length_push}
use Rattle.std.proofs.lemmas.Bool.{cases_eq, both_ways, and_parts, leb-true}
use Rattle.graph.proofs.Columns.{below_count, below_size, kept_set, marked_here, marked_other, marked_set, plain_set, plain_unmarked}
use Rattle.graph.specs.Column.{mark_count, covered, marked, Marked, Kept}
use Rattle.graph.specs.Reach.{Within, Start, Reached, start, step, Explored, roomy}
use Rattle.graph.specs.Search.{In, here, there, unmarked, Grown, Search}

-- who stood in line stands in it after a push
pub in_front : {k : ℕ} (xs ys : List ℕ) → In k xs → In k (xs ++ ys)
in_front [] ys h = elim h [ ]
in_front (x ∷ xs) ys here = here
in_front (x ∷ xs) ys (there h) = there (in_front xs ys h)

-- and so does the one that came last
pub in_last : (k : ℕ) (xs : List ℕ) → In k (xs ++ k ∷ [])
in_last k [] = here
in_last k (x ∷ xs) = there (in_last k xs)

-- and nobody else
pub in_push : {k : ℕ} (t : ℕ) (xs : List ℕ) → In k (xs ++ t ∷ []) → In k xs ⊎ (k ≡ t)
in_push t [] here = inr refl
in_push t [] (there h) = elim h [ ]
in_push t (x ∷ xs) here = inl here
in_push t (x ∷ xs) (there h) = ⊎_elim (λ i. inl (there i)) inr (in_push t xs h)

-- nobody stands in an empty line
pub in_none : {k : ℕ} → In k [] → ⊥
in_none h = elim h [ ]

-- a mark above the points does not count
pub unmarked_above : (n t : ℕ) (xs : List ℕ) → n < t → unmarked n (set xs t 1) ≡ unmarked n xs
unmarked_above zero t xs h = refl
unmarked_above (suc n) t xs h =
    let below : unmarked n (set xs t 1) ≡ unmarked n xs = unmarked_above n t xs (omega arith) in
    let here : marked (set xs t 1) (suc n) ≡ marked xs (suc n) = marked_other xs t (suc n) 1 (λ e. omega arith) in
    simp (below, here)

-- a new mark on a point leaves one less without
pub unmarked_set : (n t : ℕ) (xs : List ℕ) → Within n t → t < mark_count → t < length xs → marked xs t ≡ false →
    unmarked n (set xs t 1) + 1 ≡ unmarked n xs
unmarked_set zero t xs w low len z = absurd (omega arith)
unmarked_set (suc n) t xs w low len z =
    elim (cases_eq (suc n) t) [
      | inl e ↦
          let below : unmarked n (set xs t 1) ≡ unmarked n xs = unmarked_above n t xs (omega arith) in
          let yes : marked (set xs t 1) (suc n) ≡ true = ap (λ (k : ℕ). marked (set xs t 1) k) e ∙ marked_here xs t low len in
          let no : marked xs (suc n) ≡ false = ap (λ (k : ℕ). marked xs k) e ∙ z in
          simp (below, yes, no) (omega arith)
      | inr ne ↦
          let below : unmarked n (set xs t 1) + 1 ≡ unmarked n xs = unmarked_set n t xs (w.0, omega arith) low len z in
          let same : marked (set xs t 1) (suc n) ≡ marked xs (suc n) = marked_other xs t (suc n) 1 ne in
          simp same (omega arith)
    ]

-- no more points lack a mark than there are
pub unmarked_most : (n : ℕ) (xs : List ℕ) → unmarked n xs ≤ n
unmarked_most zero xs = omega arith
unmarked_most (suc n) xs =
    let below = unmarked_most n xs in
    elim (marked xs (suc n)) as (λ b. unmarked n xs + cond b 0 1 ≤ suc n) [ true ↦ omega arith | false ↦ omega arith ]

-- a point that is not marked finds a place in line
pub room_left : (n t places : ℕ) (xs ws : List ℕ) → Within n t → t < mark_count → t < length xs →
    length ws + unmarked n xs ≤ places → marked xs t ≡ false → length ws < places
room_left n t places xs ws w low len r z = let one = unmarked_set n t xs w low len z in omega arith

module _ (From : ℕ → Type 0) (n : ℕ) where
  -- the same at an equal column and an equal line
  pub grown_at : {xs ws ys vs zs us : List ℕ} → zs ≡ ys → us ≡ vs → Grown From n xs ws ys vs → Grown From n xs ws zs us
  grown_at {xs = xs} {ws = ws} {vs = vs} {zs = zs} e f g =
      let P : List ℕ → Type 0 = λ y. Grown From n xs ws y vs in
      let Q : List ℕ → Type 0 = λ v. Grown From n xs ws zs v in
      subst Q (sym f) (subst P (sym e) g)

  -- a point that is not marked is taken in
  pub grown_new : (t : ℕ) (xs ws : List ℕ) → Within n t → t < mark_count → t < length xs → From t → marked xs t ≡ false →
      Grown From n xs ws (set xs t 1) (ws ++ t ∷ [])
  grown_new t xs ws w low len f z = record {
    keeps = λ k m. marked_set xs t k low len m;
    news = λ k m. elim (cases_eq k t) [
      | inl e ↦ inr (let P : ℕ → Type 0 = λ j. From j × In j (ws ++ t ∷ []) in subst P (sym e) (f, in_last t ws))
      | inr ne ↦ inl (sym (marked_other xs t k 1 ne) ∙ m)
    ];
    stays = λ k i. in_front ws (t ∷ []) i;
    lines = λ k i. ⊎_elim inl
        (λ e. inr (let P : ℕ → Type 0 = Marked (set xs t 1) in subst P (sym e) (marked_here xs t low len))) (in_push t ws i);
    count = let one = unmarked_set n t xs w low len z in let long = length_push ws t in omega arith;
    plain = plain_set xs t low len;
    kept = kept_set xs t 1 low;
  }

module _ (Arrow : ℕ → ℕ → Type 0) (Starts : ℕ → Type 0) (n : ℕ) where
  -- the starts wait, and nothing else was marked
  pub search_begun : {xs₀ : List ℕ} (xs ws : List ℕ) → ((k : ℕ) → marked xs₀ k ≡ false) → Grown Starts n xs₀ [] xs ws →
      ((k : ℕ) → Starts k → Marked xs k) → Search Arrow Starts n xs ws
  search_begun {xs₀ = xs₀} xs ws clean p all = record {
    sound = λ k m. start (fresh k m).0;
    started = all;
    lined = λ k i. ⊎_elim (λ j. absurd (in_none j)) (λ m. m) (p.lines k i);
    closed = λ k m. inl (fresh k m).1;
    count = let most = unmarked_most n xs₀ in omega (arith, p.count);
    plain = p.plain (plain_unmarked xs₀ clean);
  }
    where
      fresh : (k : ℕ) → Marked xs k → Starts k × In k ws
      fresh k m = ⊎_elim (λ y. absurd (both_ways (marked xs₀ k) (clean k) y)) (λ f. f) (p.news k m)

  -- the first in line is gone through
  pub search_more : (p : ℕ) (xs ws ys vs : List ℕ) → Search Arrow Starts n xs (p ∷ ws) → Grown (Arrow p) n xs ws ys vs →
      ((q : ℕ) → Arrow p q → Marked ys q) → Search Arrow Starts n ys vs
  search_more p xs ws ys vs s g all = record {
    sound = λ k m. ⊎_elim (λ y. s.sound k y) (λ f. step (s.sound p (s.lined p here)) f.0) (g.news k m);
    started = λ k i. g.keeps k (s.started k i);
    lined = λ k i. ⊎_elim (λ j. g.keeps k (s.lined k (there j))) (λ m. m) (g.lines k i);
    closed = λ k m. ⊎_elim (λ y. ⊎_elim (λ i. first k i) (λ c. inr (λ q a. g.keeps q (c q a))) (s.closed k y))
        (λ f. inl f.1) (g.news k m);
    count = omega (arith, s.count, g.count);
    plain = g.plain s.plain;
  }
    where
      first : (k : ℕ) → In k (p ∷ ws) → In k vs ⊎ ((q : ℕ) → Arrow k q → Marked ys q)
      first _ here = inr all
      first k (there i) = inl (g.stays k i)

  -- nobody waits any more: all that is reached is marked
  pub search_done : {before : List ℕ} (xs : List ℕ) → Kept before xs → Search Arrow Starts n xs [] → Explored Arrow Starts before xs
  search_done xs kept s = record {
    sound = s.sound;
    whole = all;
    plain = s.plain;
    rest = kept.rest;
    size = kept.size;
  }
    where
      all : (k : ℕ) → Reached Arrow Starts k → Marked xs k
      all k (start i) = s.started k i
      all k (step {j = j} r a) = ⊎_elim (λ i. absurd (in_none i)) (λ c. c k a) (s.closed j (all j r))

-- the search as it begins with the numbers `starts`, where the graph's size and an empty queue are known by equations
pub search_from : (Arrow : ℕ → ℕ → Type 0) {xs₀ us : List ℕ} {m n : ℕ} (starts : List ℕ) {xs ws : List ℕ} → m ≡ n → us ≡ [] →
    ((k : ℕ) → marked xs₀ k ≡ false) → Grown (Start m starts) m xs₀ us xs ws → ((k : ℕ) → Start m starts k → Marked xs k) →
    Search Arrow (Start n starts) n xs ws
search_from Arrow {xs₀ = xs₀} {m = m} starts {xs = xs} {ws = ws} e f clean p all =
    let P : ℕ → Type 0 = λ i. Search Arrow (Start i starts) i xs ws in
    let Q : List ℕ → Type 0 = λ u. Grown (Start m starts) m xs₀ u xs ws in
    subst P e (search_begun Arrow (Start m starts) m xs ws clean (subst Q f p) all)

-- the search once the first in line is gone through, where the graph's size and the line are known by equations
pub search_next : (Arrow : ℕ → ℕ → Type 0) {Starts : ℕ → Type 0} {m n p : ℕ} {xs us ws ys vs : List ℕ} → m ≡ n → us ≡ p ∷ ws →
    Search Arrow Starts n xs us → Grown (Arrow p) m xs ws ys vs → ((q : ℕ) → Arrow p q → Marked ys q) → Search Arrow Starts n ys vs
search_next Arrow {Starts = Starts} {n = n} {p = p} {xs = xs} {ws = ws} {ys = ys} {vs = vs} e f s g all =
    let P : ℕ → Type 0 = λ i. Grown (Arrow p) i xs ws ys vs in
    let Q : List ℕ → Type 0 = Search Arrow Starts n xs in
    search_more Arrow Starts n p xs ws ys vs (subst Q f s) (subst P e g) all

-- what room there is
pub roomy_parts : (n places bytes : ℕ) → true ≡ roomy n places bytes → (n ≤ places) × (n < mark_count) × (n < bytes)
roomy_parts n places bytes h =
    let p = and_parts (leb n places) (covered bytes n) (sym h) in
    (leb-true n places p.0, below_count bytes n p.1, below_size bytes n p.1)
