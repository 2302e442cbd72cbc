-- Lemmas on rings: what one element more and one element less do to them.
use Rattle.std.proofs.Common.{◌≡◌, ℕ, suc, ◌+◌, ◌-◌, ◌<◌, ◌≤◌, ◌⊎◌, List, [], ◌∷◌, ◌++◌, length, get_or, take, drop, set, sym, refl, ap, ◌∙◌, inl, inr, arith}
use Rattle.std.proofs.lemmas.List.{take_more, drop_more, take-append-le, drop_at, same_lists, length-set, length-append, length-drop, length-take, get_or_append_left, get_or-append_right, get_or-drop, get_or-take, get_or-set_same, get_or-set_other}
use Rattle.std.proofs.lemmas.Bool.{cases_lt}
use Rattle.graph.specs.declared.queue.Queue.{Queue}
use Rattle.graph.specs.Ring.{ring, Spot}
use Rattle.graph.specs.Waiting.{waiting, places}

-- `count` elements from `head` on stand within `n` places
pub record Sound (n head count : ℕ) : Type 0 where
  pub fits : count ≤ n
  pub within : 0 < n → head < n

-- what stands at a place of the places written twice, in their first half
pub twice_low : {X : Type 0} (xs : List X) (i : ℕ) (d : X) → i < length xs → get_or (xs ++ xs) i d ≡ get_or xs i d
twice_low xs i d h = get_or_append_left xs xs d i h

-- and in their second half
pub twice_high : {X : Type 0} (xs : List X) (i j : ℕ) (d : X) → j + length xs ≡ i → get_or (xs ++ xs) i d ≡ get_or xs j d
twice_high xs i j d e =
    get_or-append_right xs xs (length xs) i d refl (omega arith) ∙ ap (λ (k : ℕ). get_or xs k d) (omega arith)

-- how long a ring is
pub length_ring : {X : Type 0} (xs : List X) (h c : ℕ) → Sound (length xs) h c → length (ring xs h c) ≡ c
length_ring xs h c s =
    simp (length-take, length-drop, length-append)
    (elim (cases_lt 0 (length xs)) [ inl p ↦ omega (arith, s.fits, s.within p) | inr z ↦ omega (arith, s.fits) ])

-- a write at the place after the last leaves the elements of the ring
pub kept_at : {X : Type 0} (xs : List X) (h c p k : ℕ) (x d : X) → Sound (length xs) h c → c < length xs →
    Spot (length xs) (h + c) p → k < c →
    get_or (set xs p x ++ set xs p x) (h + k) d ≡ get_or (xs ++ xs) (h + k) d
kept_at xs h c p k x d s lt sp kc =
    elim (cases_lt (h + k) (length xs)) [
      | inl low ↦ twice_low (set xs p x) (h + k) d (simp length-set low)
          ∙ get_or-set_other xs p (h + k) x d (elim sp.is [ inl e ↦ λ q. omega arith | inr e ↦ λ q. omega arith ])
          ∙ sym (twice_low xs (h + k) d low)
      | inr high ↦ twice_high (set xs p x) (h + k) (h + k - length xs) d (simp length-set (omega arith))
          ∙ get_or-set_other xs p (h + k - length xs) x d
          (elim sp.is [ inl e ↦ λ q. omega (arith, sp.inside) | inr e ↦ λ q. omega arith ])
          ∙ sym (twice_high xs (h + k) (h + k - length xs) d (omega arith))
    ]

-- and what is written there stands after the last
pub put_at : {X : Type 0} (xs : List X) (h c p : ℕ) (x d : X) → Spot (length xs) (h + c) p →
    get_or (set xs p x ++ set xs p x) (h + c) d ≡ x
put_at xs h c p x d sp =
    elim sp.is [
      | inl e ↦ ap (λ (k : ℕ). get_or (set xs p x ++ set xs p x) k d) (sym e)
          ∙ twice_low (set xs p x) p d (simp length-set sp.inside) ∙ get_or-set_same xs p x d sp.inside
      | inr e ↦ twice_high (set xs p x) (h + c) p d (simp length-set e) ∙ get_or-set_same xs p x d sp.inside
    ]

-- one element more
pub ring_push : {X : Type 0} (xs : List X) (h c p : ℕ) (x : X) → Sound (length xs) h c → c < length xs → Spot (length xs) (h + c) p →
    ring (set xs p x) h (c + 1) ≡ ring xs h c ++ x ∷ []
ring_push xs h c p x s lt sp =
    let s2 = set xs p x ++ set xs p x in
    let long : c < length (drop h s2) = simp (length-drop, length-append, length-set) (omega (arith, s.within (omega arith))) in
    let front : take c (drop h s2) ≡ take c (drop h (xs ++ xs)) =
    same_lists (take c (drop h s2)) (take c (drop h (xs ++ xs)))
    (simp (length-take, length-drop, length-append, length-set))
    (λ k d kl.
    let kc : k < c = omega (arith, length-take c (drop h s2)) in
    get_or-take c (drop h s2) k d kc ∙ get_or-drop h s2 k d
    ∙ kept_at xs h c p k x d s lt sp kc
    ∙ sym (get_or-take c (drop h (xs ++ xs)) k d kc ∙ get_or-drop h (xs ++ xs) k d)) in
    let last : get_or (drop h s2) c x ≡ x = get_or-drop h s2 c x ∙ put_at xs h c p x x sp in
    take_more (drop h s2) c x long ∙ (cc)

-- the first element goes
pub ring_pop : {X : Type 0} (xs : List X) (h c : ℕ) (d : X) → Sound (length xs) h c → 0 < c →
    ring xs h c ≡ get_or xs h d ∷ ring xs (h + 1) (c - 1)
ring_pop {X = X} xs h c d s pos =
    let ys = drop (h + 1) (xs ++ xs) in
    let hl : h < length xs = s.within (omega (arith, s.fits)) in
    let first : drop h (xs ++ xs) ≡ get_or xs h d ∷ ys =
    drop_more (xs ++ xs) h d (simp length-append (omega arith)) ∙ ap (λ (y : X). y ∷ ys) (twice_low xs h d hl) in
    let e : c ≡ suc (c - 1) = omega arith in
    ap (λ (zs : List X). take c zs) first ∙ ap (λ (k : ℕ). take k (get_or xs h d ∷ ys)) e

-- a ring that begins past the last place begins at the first
pub ring_round : {X : Type 0} (xs : List X) (h c : ℕ) → c ≤ length xs → h ≡ length xs →
    ring xs h c ≡ ring xs 0 c
ring_round {X = X} xs h c le e =
    ap (λ (zs : List X). take c zs) (drop_at xs xs h (sym e)) ∙ sym (take-append-le c xs xs le)

-- `r` is the place after `h`, of `n` places
pub record Next (n h r : ℕ) : Type 0 where
  pub is : ((r ≡ h + 1) × (h + 1 < n)) ⊎ ((r ≡ 0) × (n ≤ h + 1))

-- the first goes, and the ring begins at the next place
pub ring_next : {X : Type 0} (xs : List X) (h c r : ℕ) (d : X) → Sound (length xs) h c → 0 < c → Next (length xs) h r →
    ring xs h c ≡ get_or xs h d ∷ ring xs r (c - 1)
ring_next {X = X} xs h c r d s pos t =
    ring_pop xs h c d s pos ∙ ap (λ (zs : List X). get_or xs h d ∷ zs)
    (elim t.is [
      | inl e ↦ ap (λ (k : ℕ). ring xs k (c - 1)) (sym e.0)
      | inr e ↦
          let end : h + 1 ≡ length xs = omega (arith, s.within (omega (arith, s.fits))) in
          ring_round xs (h + 1) (c - 1) (omega (arith, s.fits)) end ∙ ap (λ (k : ℕ). ring xs k (c - 1)) (sym e.0)
    ])

pub ring_rest : {X : Type 0} (xs : List X) (h c r : ℕ) → Sound (length xs) h c → 0 < c → Next (length xs) h r →
    ring xs r (c - 1) ≡ drop 1 (ring xs h c)
ring_rest [] h c r s pos t = absurd (omega (arith, s.fits, pos))
ring_rest (x ∷ xs) h c r s pos t = sym (ap (drop 1) (ring_next (x ∷ xs) h c r x s pos t))

-- none waits, or the one at the head does before the others
pub ring_first : {X : Type 0} (xs : List X) (h c : ℕ) (d : X) → Sound (length xs) h c → 0 < c →
    ring xs h c ≡ get_or xs h d ∷ drop 1 (ring xs h c)
ring_first xs h c d s pos = ring_pop xs h c d s pos ∙ ap (λ zs. get_or xs h d ∷ drop 1 zs) (sym (ring_pop xs h c d s pos))

-- a queue stands within its places
pub sound : {X : Type 0} (q : Queue X) → Sound (places q) q.head q.count
sound q = record { fits = q.fits; within = q.within }

-- as many wait as the queue counts
pub length_waiting : {X : Type 0} (q : Queue X) → length (waiting q) ≡ q.count
length_waiting q = length_ring q.slots.now q.head q.count (sound q)
