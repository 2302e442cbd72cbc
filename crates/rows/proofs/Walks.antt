-- What a walk along a table's arrows marks, in the words of the model. Assumes nothing.
use Rattle.std.proofs.Common.{◌≡◌, ℕ, ◌≤◌, Bool, true, ◌||◌, eqb, ◌⊎◌, List, Decides, sym, inl, inr, ⊎_elim}
use Rattle.std.proofs.lemmas.Bool.{or_cases, or_left, or_right, eq-eqb}
use Rattle.std.proofs.lemmas.Bool.Decides.{same_from_decides, Decides-like}
use Rattle.graph.specs.Column.{marked}
use Rattle.graph.specs.Reach.{Within, Start, Reached, start, step, Explored}
use Rattle.model.specs.Rollback.{After, next, further, within}
use Rattle.model.specs.Search.{has}
use Rattle.model.specs.Sheets.{Lower}
use Rattle.model.proofs.Accepted.{has_place}
use Rattle.model.proofs.Reach.{sound, complete, sound_from, complete_from, joined}
use Rattle.rows.specs.Arrows.{Drawn, forth, back}
use Rattle.rows.proofs.Arrows.{Joins, draws}
use Rattle.rows.proofs.Lists.{any_found}

-- ── where a walk starts ──

pub start_has : (n : ℕ) (starts : List ℕ) {k : ℕ} → Start n starts k → has k starts ≡ true
start_has n starts {k} (w, (i, (inside, e))) = any_found (eqb k) starts i 0 inside (eq-eqb k _ (sym e))

pub has_start : (n : ℕ) (starts : List ℕ) {k : ℕ} → Within n k → has k starts ≡ true → Start n starts k
has_start n starts {k} w m = let (i, inside, e) = has_place k starts m in (w, (i, (inside, e)))

-- ── where it leads ──

module _ (n : ℕ) (preds : ℕ → List ℕ) (Starts : ℕ → Type 0) where
  -- along the arrows: to the rows after the starts
  forth_out : {k : ℕ} → Reached (Drawn n (forth preds)) Starts k → Starts k ⊎ ((u : ℕ) × Starts u × After preds u k)
  forth_out (start s) = inl s
  forth_out (step {j = j} r a) =
      ⊎_elim (λ s. inr (j, s, next a.drawn)) (λ w. inr (w.0, w.1, further w.2 a.drawn)) (forth_out r)

  forth_in : Joins n (forth preds) → {u k : ℕ} → Starts u → After preds u k → Reached (Drawn n (forth preds)) Starts k
  forth_in joins s (next m) = step (start s) (draws n (forth preds) joins m)
  forth_in joins s (further p m) = step (forth_in joins s p) (draws n (forth preds) joins m)

  -- against them: to the rows that the starts are after
  back_out : {k : ℕ} → Reached (Drawn n (back preds)) Starts k → Starts k ⊎ ((w : ℕ) × Starts w × After preds k w)
  back_out (start s) = inl s
  back_out (step {j = j} r a) =
      ⊎_elim (λ s. inr (j, s, next a.drawn)) (λ w. inr (w.0, w.1, joined preds (next a.drawn) w.2)) (back_out r)

  back_in : Joins n (back preds) → {k w : ℕ} → Reached (Drawn n (back preds)) Starts w → After preds k w
      → Reached (Drawn n (back preds)) Starts k
  back_in joins r (next m) = step r (draws n (back preds) joins m)
  back_in joins r (further p m) = back_in joins (step r (draws n (back preds) joins m)) p

-- ── what is marked then ──

-- u is one of the numbers, or one of them is after it
abbrev pub Before : (ℕ → List ℕ) → List ℕ → ℕ → Type 0
Before preds starts u = (has u starts ≡ true) ⊎ ((w : ℕ) × (has w starts ≡ true) × After preds u w)

pub back_marked : (n : ℕ) (preds : ℕ → List ℕ) → Joins n (back preds)
    → (starts : List ℕ) → ((w : ℕ) → has w starts ≡ true → Within n w)
    → {before : List ℕ} (xs : List ℕ) → Explored (Drawn n (back preds)) (Start n starts) before xs
    → (u : ℕ) → Decides (marked xs u) (Before preds starts u)
back_marked n preds joins starts rows xs e u = (
  (λ m. ⊎_elim (λ s. inl (start_has n starts s)) (λ w. inr (w.0, start_has n starts w.1, w.2))
      (back_out n preds (Start n starts) (e.sound u m))),
  (λ b. e.whole u (⊎_elim begin
      (λ w. back_in n preds (Start n starts) joins (begin w.1) w.2) b)),
)
  where
    begin : {w : ℕ} → has w starts ≡ true → Reached (Drawn n (back preds)) (Start n starts) w
    begin {w} m = start (has_start n starts (rows w m) m)

-- paths that end at f, by their last arrow
before_after : (preds : ℕ → List ℕ) {u f : ℕ} → Before preds (preds f) u → After preds u f
before_after preds (inl m) = next m
before_after preds (inr (w, m, p)) = further p m

after_before : (preds : ℕ → List ℕ) {u f : ℕ} → After preds u f → Before preds (preds f) u
after_before preds (next m) = inl m
after_before preds (further {w = w} p m) = inr (w, m, p)

-- the computed `within` is the relation, as far as n goes
pub within_is : (n : ℕ) (preds : ℕ → List ℕ) → Lower preds → (u f : ℕ) → ((w : ℕ) → has w (preds f) ≡ true → f ≤ n)
    → Decides (within preds n (eqb u) f) (After preds u f)
within_is n preds low u f top = (
  sound_from preds u n f,
  (λ p. complete_from preds low u n f (⊎_elim (top u) (λ b. top b.0 b.1) (after_before preds p)) p),
)

-- a walk against the arrows from the predecessors of f
pub back_within : (n : ℕ) (preds : ℕ → List ℕ) → Joins n (back preds) → Lower preds
    → (f : ℕ) {before : List ℕ} (xs : List ℕ) → Explored (Drawn n (back preds)) (Start n (preds f)) before xs
    → (u : ℕ) → marked xs u ≡ within preds n (eqb u) f
back_within n preds joins low f xs e u =
    same_from_decides (marked xs u) (within preds n (eqb u) f)
    (Decides-like (marked xs u) (before_after preds) (after_before preds)
    (back_marked n preds joins (preds f) (λ w m. (joins f w m).1) xs e u))
    (within_is n preds low u f (λ w m. (joins f w m).0.1))

-- ── along the arrows ──

module _ (n : ℕ) (preds : ℕ → List ℕ) (joins : Joins n (forth preds)) (low : Lower preds) (starts : List ℕ)
    {before : List ℕ} (xs : List ℕ) (e : Explored (Drawn n (forth preds)) (Start n starts) before xs) where
  -- a start, or after one
  pub forth_marked : (k : ℕ) → Decides (marked xs k) (Start n starts k ⊎ ((u : ℕ) × Start n starts u × After preds u k))
  forth_marked k = (
    (λ m. forth_out n preds (Start n starts) (e.sound k m)),
    (λ b. e.whole k (⊎_elim start (λ w. forth_in n preds (Start n starts) joins w.1 w.2) b)),
  )

  -- a walk from those that pass a test
  pub forth_within : (part : ℕ → Bool) → ((u : ℕ) → Decides (part u) (Start n starts u))
      → (k : ℕ) → marked xs k ≡ (part k || within preds n part k)
  forth_within part is k =
      same_from_decides (marked xs k) (part k || within preds n part k) (forth_marked k) (
        (λ t. ⊎_elim (λ a. inl ((is k).0 a))
            (λ b. let (u, a, p) = sound preds part n k b in inr (u, (is u).0 a, p))
            (or_cases (part k) (within preds n part k) t)),
        (λ b. ⊎_elim (λ s. or_left (part k) (within preds n part k) ((is k).1 s))
            (λ w. or_right (part k) (within preds n part k)
            (complete preds low part w.0 ((is w.0).1 w.1) n k (top w.2) w.2)) b),
      )
    where
      top : {u v : ℕ} → After preds u v → v ≤ n
      top {u} {v} (next m) = (joins u v m).1.1
      top {u} {v} (further {w = w} p m) = (joins w v m).1.1
