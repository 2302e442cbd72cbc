-- Lemmas on a traversal that takes in points.
use Rattle.std.proofs.Common.{◌≡◌, ℕ, ◌+◌, ◌<◌, ◌≤◌, false, ◌⊎◌, List, [], ◌∷◌, ◌++◌, length, set, sym, refl, ◌∙◌, subst, inl, inr, ⊎_elim, arith}
use Rattle.std.proofs.lemmas.Bool.{cond-false}
use Rattle.graph.specs.Column.{mark_count, marked, Marked}
use Rattle.graph.specs.Held.{held}
use Rattle.graph.specs.Reach.{Within}
use Rattle.graph.specs.Search.{unmarked, column_with, line_with, Grown}
use Rattle.graph.specs.Taking.{SameTraversal, TakesIn}
use Rattle.graph.specs.Waiting.{waiting, places}
use Rattle.graph.specs.declared.traversal.Traversal.{Traversal}
use Rattle.graph.proofs.Columns.{kept_then, marked_here}
use Rattle.graph.proofs.Searches.{room_left, grown_at, grown_new}

-- a point that is not marked finds a place in the queue
pub place_free : (s : Traversal) (t : ℕ) → Within s.points t → marked (held s.marks.now) t ≡ false →
    length (waiting s.queue.now) < places s.queue.now
place_free s t w z =
    room_left s.points t (places s.queue.now) (held s.marks.now) (waiting s.queue.now) w
    (omega (arith, w.1, s.few)) (omega (arith, w.1, s.wide)) s.room z

-- what taking in a point that is not marked does to the column and to the line
pub grown_taken : {ys vs : List ℕ} (s : Traversal) (t : ℕ) → Within s.points t → marked (held s.marks.now) t ≡ false →
    ys ≡ column_with (held s.marks.now) t → vs ≡ line_with (held s.marks.now) (waiting s.queue.now) t →
    Grown (λ k. k ≡ t) s.points (held s.marks.now) (waiting s.queue.now) ys vs
grown_taken s t w z e f =
    let xs = held s.marks.now in
    let ws = waiting s.queue.now in
    let low : t < mark_count = omega (arith, w.1, s.few) in
    let len : t < length xs = omega (arith, w.1, s.wide) in
    grown_at (λ k. k ≡ t) s.points
    (e ∙ cond-false (marked xs t) xs (set xs t 1) z)
    (f ∙ cond-false (marked xs t) ws (ws ++ t ∷ []) z)
    (grown_new (λ k. k ≡ t) s.points t xs ws w low len refl z)

-- the column is wide enough still
pub wide_taken : {ys : List ℕ} (s : Traversal) (t : ℕ) → Within s.points t → marked (held s.marks.now) t ≡ false →
    ys ≡ column_with (held s.marks.now) t → s.points < length ys
wide_taken s t w z e = let grown = grown_taken s t w z e refl in omega (arith, s.wide, grown.kept.size)

-- and there is room enough in the queue
pub room_taken : {ys vs : List ℕ} {p : ℕ} (s : Traversal) (t : ℕ) → Within s.points t → marked (held s.marks.now) t ≡ false →
    ys ≡ column_with (held s.marks.now) t → vs ≡ line_with (held s.marks.now) (waiting s.queue.now) t →
    p ≡ places s.queue.now → length vs + unmarked s.points ys ≤ p
room_taken s t w z e f q = let grown = grown_taken s t w z e f in omega (arith, s.room, grown.count, q)

-- a point that is not marked is taken in, where it is marked and waits last then
pub admitted : (s u : Traversal) (t : ℕ) → Within s.points t → marked (held s.marks.now) t ≡ false →
    held u.marks.now ≡ column_with (held s.marks.now) t →
    waiting u.queue.now ≡ line_with (held s.marks.now) (waiting s.queue.now) t → SameTraversal s u → TakesIn (λ k. k ≡ t) s u
admitted s u t w z e f same =
    let xs = held s.marks.now in
    let P : List ℕ → Type 0 = λ y. Marked y t in
    let here = marked_here xs t (omega (arith, w.1, s.few)) (omega (arith, w.1, s.wide)) in
    let done : Marked (held u.marks.now) t = subst P (sym (e ∙ cond-false (marked xs t) xs (set xs t 1) z)) here in
    let Q : ℕ → Type 0 = Marked (held u.marks.now) in
    record { grown = grown_taken s t w z e f; all = λ k h. subst Q (sym h) done; same = same }

-- points that have P are taken in, and then t: those that have R
pub takes_one : {P : ℕ → Type 0} (R : ℕ → Type 0) {r s u : Traversal} (t : ℕ) → ((k : ℕ) → P k → R k) → R t →
    ((k : ℕ) → R k → P k ⊎ (k ≡ t)) → TakesIn P r s → TakesIn (λ k. k ≡ t) s u → TakesIn R r u
takes_one R {s = s} {u = u} t wider one split p q =
    let G : ℕ → Type 0 = λ n. Grown (λ k. k ≡ t) n
    (held s.marks.now) (waiting s.queue.now) (held u.marks.now) (waiting u.queue.now) in
    let more = subst G p.same.points q.grown in
    record {
      grown = record {
        keeps = λ k m. more.keeps k (p.grown.keeps k m);
        news = λ k m. ⊎_elim
            (λ y. ⊎_elim inl (λ f. inr (wider k f.0, more.stays k f.1)) (p.grown.news k y))
            (λ f. inr (subst R (sym f.0) one, f.1))
            (more.news k m);
        stays = λ k i. more.stays k (p.grown.stays k i);
        lines = λ k i. ⊎_elim (λ j. ⊎_elim inl (λ m. inr (more.keeps k m)) (p.grown.lines k j)) inr (more.lines k i);
        count = more.count ∙ p.grown.count;
        plain = λ h. more.plain (p.grown.plain h);
        kept = kept_then p.grown.kept more.kept;
      };
      all = λ k h. ⊎_elim (λ y. more.keeps k (p.all k y)) (q.all k) (split k h);
      same = record {
        points = q.same.points ∙ p.same.points;
        places = q.same.places ∙ p.same.places;
        queue = q.same.queue ∙ p.same.queue;
        marks = q.same.marks ∙ p.same.marks;
        column = q.same.column ∙ p.same.column;
      };
    }
