-- A listing has each arrow and each restart point once, in rising order, and no more; while a rollback lasts it does not change.
-- Assumes nothing.
use Rattle.std.proofs.Common.{◌≡◌, ℕ, ◌+◌, ◌<◌, ◌≤◌, Bool, true, false, cond, ◌&&◌, ◌||◌, eqb, List, [], ◌∷◌, ◌++◌, map, None, Decides, sym, refl, ap, ◌∙◌, subst, ap₂, inl, inr, arith}
use mathlib.Core.Path.{fun_ext}
use borrow.Author.Tests.{clash}
use Rattle.std.proofs.lemmas.Bool.{or_cases, or_left, or_right, and_parts, and_from, eqb-true, eq-eqb}
use Rattle.std.proofs.lemmas.Bool.Decides.{Decides-like, Decides-and, Decides-or, Decides-eqb}
use Rattle.values.specs.Numbers.{same_state}
use Rattle.values.specs.declared.Mode.{Mode}
use Rattle.values.specs.declared.Mode.TheVariants.{Complete, Partial}
use Rattle.values.specs.declared.Phase.TheVariants.{Forward}
use Rattle.values.specs.declared.RowArrow.{RowArrow}
use Rattle.values.specs.declared.RowState.{RowState}
use Rattle.values.specs.declared.RowState.TheVariants.{Running, Committed, Due, Undone, PassedOver}
use Rattle.host.specs.View.{View}
use Rattle.model.specs.Search.{any_below, each_below, all_below, has, at_put, In, here}
use Rattle.model.specs.Chart.{Chart}
use Rattle.model.specs.Rows.{Rows, in_state, is_savepoint, marked}
use Rattle.model.specs.Rollback.{After, next, further, within, backward, over_passed, linked}
use Rattle.model.specs.Rollback.{behind, stopped, at_start, restart_points}
use Rattle.model.specs.Sheet.{Sheet, blank, with_rows, aborted, in_graph, arrows_from, graph_arrows}
use Rattle.model.specs.Calls.{phase_check, mode_check, abort_fault}
use Rattle.model.specs.Run.{World, Event, does, History, Leads, nothing, one_more}
use Rattle.model.specs.Relations.{Backward, near, far, Through, direct, over, Behind, Stopped, FromStart}
use Rattle.model.specs.Histories.{Reached}
use Rattle.model.specs.Listings.{ArrowBefore, Ascends, IsArrow, IsRestart, ListingIs, ListingStays}
use Rattle.model.specs.Sheets.{Lower, Orderly}
use Rattle.model.proofs.Basics.{passes, same_state_eq, eq_same_state, put_all, in_left, in_right, in_cases}
use Rattle.model.proofs.Basics.{any_below_in, any_below_out, each_below_in, each_below_out, all_below_in, all_below_out}
use Rattle.model.proofs.Accepted.{phase_passed, row_passed, start_forward, abort_forward, abort_mode, undo_due}
use Rattle.model.specs.Sheets.{Kept}
use Rattle.model.proofs.Kept.{kept_first, kept_leads}
use Rattle.model.proofs.Order.{numbered, follower_numbered}
use Rattle.model.proofs.Steps.{kept_by}
use Rattle.model.proofs.Reach.{sound_from, complete_from}
use Rattle.model.proofs.Struck.{backward_is}
use Rattle.model.proofs.Rising.{if_out, if_in, only, map_out, map_in, ascends_append, ascends_if, ascends_map}
use Rattle.model.proofs.Rising.{ascends_each, one_rises, all_below_rise}

-- ── arrows ──

module _ (r : Rows) (u v : ℕ) where
  -- paths into x may go on: x is v, or passed over
  abbrev on_way : ℕ → Bool
  on_way x = eqb x v || in_state r PassedOver x

  path_out : (w x : ℕ) → has w (over_passed r v x) ≡ true → (on_way x ≡ true) × (has w (r.preds x) ≡ true)
  path_out w x h = go (on_way x) refl h
    where
      go : (t : Bool) → on_way x ≡ t → has w (cond t (r.preds x) []) ≡ true
          → (on_way x ≡ true) × (has w (r.preds x) ≡ true)
      go true e m = (e, m)
      go false e m = absurd (clash m)

  path_in : (w x : ℕ) → on_way x ≡ true → has w (r.preds x) ≡ true → has w (over_passed r v x) ≡ true
  path_in w x e m = ap (λ t. has w (cond t (r.preds x) [])) e ∙ m

  is_on_way : {x : ℕ} → After (over_passed r v) u x → on_way x ≡ true
  is_on_way {x} (next m) = (path_out u x m).0
  is_on_way {x} (further {w = w} p m) = (path_out w x m).0

  -- numbers fall along a path back, so that v itself is not between
  to_through : Lower r.preds → (x : ℕ) → x ≤ v → After (over_passed r v) u x → Through r u x
  to_through low x l (next m) = direct (path_out u x m).1
  to_through low x l (further {w = w} p m) =
      let arrow = (path_out w x m).1 in
      let lt = low x w arrow in
      let passed : r.state w ≡ PassedOver =
      elim (or_cases (eqb w v) (in_state r PassedOver w) (is_on_way p)) [
        | inl e ↦ let same = eqb-true w v e in absurd (omega arith)
        | inr e ↦ same_state_eq _ _ e
      ] in
      over (to_through low w (omega arith) p) passed arrow

  from_through : {x : ℕ} → on_way x ≡ true → Through r u x → After (over_passed r v) u x
  from_through {x} e (direct m) = next (path_in u x e m)
  from_through {x} e (over {x = w} t h m) =
      further (from_through (or_right (eqb w v) (in_state r PassedOver w) (eq_same_state _ _ h)) t) (path_in w x e m)

-- a row at the end of a path has a predecessor
last_arrow : (r : Rows) {u v : ℕ} → Through r u v → (w : ℕ) × (has w (r.preds v) ≡ true)
last_arrow r {u} (direct m) = (u, m)
last_arrow r (over {x = x} t h m) = (x, m)

linked_is : (s : Sheet) → Orderly s → (u v : ℕ) → Decides (linked s.rows u v) (Through s.rows u v)
linked_is s o u v = (
  (λ h. to_through r u v o.lower v (omega arith) (sound_from (over_passed r v) u r.count v h)),
  (λ t. let (w, m) = last_arrow r t in
      complete_from (over_passed r v) low u r.count v (follower_numbered s o v w m)
      (from_through r u v (or_left (eqb v v) (in_state r PassedOver v) (eq-eqb v v refl)) t)),
)
  where
    r : Rows
    r = s.rows

    low : Lower (over_passed r v)
    low x w m = o.lower x w (path_out r u v w x m).1

module _ (s : Sheet) where
  abbrev bound : ℕ
  bound = s.rows.count + 1

  -- the graph's arrows from v
  abbrev arrows_at : ℕ → List RowArrow
  arrows_at v = cond (in_graph s v) (arrows_from s v) []

  -- an arrow of the graph from v ends at u
  abbrev ends : ℕ → ℕ → Bool
  ends v u = in_graph s u && linked s.rows u v

  arrow_out : (v : ℕ) (a : RowArrow) → In a (arrows_at v)
      → (in_graph s v ≡ true) × (a.from ≡ v) × (ends v a.to ≡ true)
  arrow_out v a m =
      let (g, k) = if_out a (in_graph s v) (arrows_from s v) m in
      let (u, j, e) = map_out _ a (all_below bound (ends v)) k in
      let (_, q) = all_below_out bound (ends v) u j in
      (g, ap (λ x. x.from) e, ap (λ x. ends v x.to) e ∙ q)

  arrow_in : (v u : ℕ) → in_graph s v ≡ true → u < bound → ends v u ≡ true
      → In (record { from = v; to = u }) (arrows_at v)
  arrow_in v u g l q =
      if_in (record { from = v; to = u }) (in_graph s v) (arrows_from s v) g
      (map_in (λ x. record { from = v; to = x }) u (all_below bound (ends v)) (all_below_in bound (ends v) u l q))

  arrows_rise : Ascends ArrowBefore (graph_arrows s)
  arrows_rise =
      ascends_each ArrowBefore bound arrows_at one_row
      (λ j k a b l m q.
      let e = (arrow_out j a m).1 in
      let f = (arrow_out k b q).1 in
      inl (omega arith))
    where
      one_row : (v : ℕ) → Ascends ArrowBefore (arrows_at v)
      one_row v =
          ascends_if ArrowBefore (in_graph s v) (arrows_from s v)
          (ascends_map ArrowBefore ◌<◌ (λ u. record { from = v; to = u }) (λ x y l. inr (refl, l))
          (all_below bound (ends v)) (all_below_rise bound (ends v)))

  module _ (o : Orderly s) where
    arrows_are : (a : RowArrow) → In a (graph_arrows s) → IsArrow s a
    arrows_are a m =
        let (v, _, k) = each_below_out bound arrows_at a m in
        let (g, e, q) = arrow_out v a k in
        let (h, t) = and_parts (in_graph s a.to) (linked s.rows a.to v) q in
        record {
          later = ap (in_graph s) e ∙ g;
          earlier = h;
          path = subst (Through s.rows a.to) (sym e) ((linked_is s o a.to v).0 t);
        }

    graph_row : (v : ℕ) → in_graph s v ≡ true → v < bound
    graph_row v h = let l = (o.inside v (λ absent. grind arith)).1 in omega arith

    arrows_all : (a : RowArrow) → IsArrow s a → In a (graph_arrows s)
    arrows_all a h =
        each_below_in bound arrows_at a.from a (graph_row a.from h.later)
        (arrow_in a.from a.to h.later (graph_row a.to h.earlier)
        (and_from (in_graph s a.to) (linked s.rows a.to a.from) h.earlier
        ((linked_is s o a.to a.from).1 h.path)))

-- ── restart points ──

-- the failing row of the last abort is one of the rows
pub record ModeKnown (s : Sheet) : Type 0 where
  pub failing : (f : ℕ) → s.mode ≡ Partial f → f ≤ s.rows.count

-- a search that can find only numbers below n
found_is : (n : ℕ) (p : ℕ → Bool) (P : ℕ → Type 0) → ((x : ℕ) → Decides (p x) (P x)) → ((x : ℕ) → P x → x < n)
    → Decides (any_below n p) ((x : ℕ) × P x)
found_is n p P each low = (
  (λ h. let (x, _, t) = any_below_out n p h in (x, (each x).0 t)),
  (λ h. any_below_in n p h.0 (low h.0 h.1) ((each h.0).1 h.1)),
)

itself : (t : Bool) → Decides t (t ≡ true)
itself t = (λ e. e, λ e. e)

module _ (c : Chart) (s : Sheet) (o : Orderly s) (f : ℕ) where
  abbrev r : Rows
  r = s.rows

  behind_is : (x : ℕ) → Decides (behind c r f x) (Behind c r f x)
  behind_is x = Decides-or (eqb x f) (backward c r f x) (Decides-eqb x f) (backward_is c s o f x)

  backward_lower : {u : ℕ} → Backward c r f u → u < f
  backward_lower (near {u = u} m q) = o.lower f u m
  backward_lower (far {x = x} {u = u} b m q) =
      let l = backward_lower b in
      let k = o.lower x u m in
      omega arith

  behind_row : f ≤ r.count → (x : ℕ) → Behind c r f x → x < r.count + 1
  behind_row l x (inl e) = omega arith
  behind_row l x (inr b) = let k = backward_lower b in omega arith

  at_start_is : f ≤ r.count → Decides (at_start c r f) (FromStart c r f)
  at_start_is l =
      Decides-like (at_start c r f)
      (λ h. record { row = h.0; behind = h.1.0; first_step = h.1.1 })
      (λ h. (h.row, (h.behind, h.first_step)))
      (found_is (r.count + 1) (λ x. behind c r f x && eqb (r.step x) 1) (λ x. Behind c r f x × (r.step x ≡ 1))
      (λ x. Decides-and _ _ (behind_is x) (Decides-eqb (r.step x) 1))
      (λ x h. behind_row l x h.0))

  follower_is : (w : ℕ)
      → Decides (any_below (r.count + 1) (λ x. behind c r f x && has w (r.preds x)))
      ((x : ℕ) × (Behind c r f x × (has w (r.preds x) ≡ true)))
  follower_is w =
      found_is (r.count + 1) _ (λ x. Behind c r f x × (has w (r.preds x) ≡ true))
      (λ x. Decides-and _ _ (behind_is x) (itself (has w (r.preds x))))
      (λ x h. let l = follower_numbered s o x w h.1 in omega arith)

  stopped_is : (w : ℕ) → Decides (stopped c r f w) (Stopped c r f w)
  stopped_is w =
      Decides-like (stopped c r f w)
      (λ h. record {
        savepoint = h.0;
        committed = same_state_eq _ _ h.1.0;
        follower = h.1.1.0;
        behind = h.1.1.1.0;
        arrow = h.1.1.1.1;
      })
      (λ h. (h.savepoint, (eq_same_state _ _ h.committed, (h.follower, (h.behind, h.arrow)))))
      (Decides-and _ _ (itself (is_savepoint c r w))
      (Decides-and _ _ (itself (in_state r Committed w)) (follower_is w)))

  -- the two parts of the list
  abbrev start_point : List ℕ
  start_point = cond (at_start c r f) (0 ∷ []) []

  abbrev savepoints : List ℕ
  savepoints = all_below (r.count + 1) (stopped c r f)

  start_out : f ≤ r.count → (p : ℕ) → In p start_point → (p ≡ 0) × FromStart c r f
  start_out l p m =
      let (t, k) = if_out p (at_start c r f) (0 ∷ []) m in
      (only p 0 k, (at_start_is l).0 t)

  start_in : f ≤ r.count → (p : ℕ) → (p ≡ 0) × FromStart c r f → In p start_point
  start_in l p h =
      if_in p (at_start c r f) (0 ∷ []) ((at_start_is l).1 h.1) (subst (λ x. In x (0 ∷ [])) (sym h.0) here)

  savepoint_out : (p : ℕ) → In p savepoints → Stopped c r f p
  savepoint_out p m = (stopped_is p).0 (all_below_out (r.count + 1) (stopped c r f) p m).1

  savepoint_in : (p : ℕ) → Stopped c r f p → In p savepoints
  savepoint_in p h =
      let l = (numbered s o p Committed refl h.committed).1 in
      all_below_in (r.count + 1) (stopped c r f) p (omega arith) ((stopped_is p).1 h)

  -- row 0 is none, so that no savepoint is the start
  parts_rise : Ascends ◌<◌ (start_point ++ savepoints)
  parts_rise =
      ascends_append ◌<◌ start_point savepoints (ascends_if ◌<◌ (at_start c r f) (0 ∷ []) (one_rises 0))
      (all_below_rise (r.count + 1) (stopped c r f))
      (λ x y h k.
      let zero = only x 0 (if_out x (at_start c r f) (0 ∷ []) h).1 in
      let one = (numbered s o y Committed refl (savepoint_out y k).committed).0 in
      omega arith)

module _ (c : Chart) (s : Sheet) (o : Orderly s) where
  points_are : (m : Mode) → ((f : ℕ) → m ≡ Partial f → f ≤ s.rows.count)
      → (p : ℕ) → In p (restart_points c s.rows m) → IsRestart c s.rows m p
  points_are Complete l p h = only p 0 h
  points_are (Partial f) l p h =
      elim (in_cases p (start_point c s o f) (savepoints c s o f) h) [
        | inl a ↦ inl (start_out c s o f (l f refl) p a)
        | inr b ↦ inr (savepoint_out c s o f p b)
      ]

  points_all : (m : Mode) → ((f : ℕ) → m ≡ Partial f → f ≤ s.rows.count)
      → (p : ℕ) → IsRestart c s.rows m p → In p (restart_points c s.rows m)
  points_all Complete l p h = subst (λ x. In x (0 ∷ [])) (sym h) here
  points_all (Partial f) l p (inl h) =
      in_left p (start_point c s o f) (savepoints c s o f) (start_in c s o f (l f refl) p h)
  points_all (Partial f) l p (inr h) =
      in_right p (start_point c s o f) (savepoints c s o f) (savepoint_in c s o f p h)

  points_rise : (m : Mode) → Ascends ◌<◌ (restart_points c s.rows m)
  points_rise Complete = one_rises 0
  points_rise (Partial f) = parts_rise c s o f

pub listing_is : (c : Chart) (s : Sheet) → Orderly s → ModeKnown s → ListingIs c s
listing_is c s o known = record {
  arrows_are = arrows_are s o;
  arrows_all = arrows_all s o;
  arrows_rise = arrows_rise s;
  points_are = points_are c s o s.mode known.failing;
  points_all = points_all c s o s.mode known.failing;
  points_rise = points_rise c s o s.mode;
}

-- ── in every sheet that calls lead to the failing row is known ──

pub mode_known_first : (serial : ℕ) → ModeKnown (blank serial)
mode_known_first serial = record { failing = λ f e. let z : ◌≡◌ {A = ℕ} 0 1 = cc in absurd (omega arith) }

-- the failing row of an accepted abort runs
aborted_known : (c : Chart) (s : Sheet) (v : View) (m : Mode) (column line : ℕ) → Orderly s
    → abort_fault s v m column line ≡ None → ModeKnown (aborted c s m)
aborted_known c s v m column line o h = record {
  failing = λ f e.
      let check = subst (λ x. mode_check s.rows x ≡ None) e (abort_mode s v m column line h) in
      (numbered s o f Running refl (row_passed s.rows Running f check)).1;
}

pub mode_known_does : (c : Chart) (w : World) (e : Event) → Orderly w.sheet → ModeKnown w.sheet
    → ModeKnown (does c w e).0.sheet
mode_known_does c w e o known = kept_by c (λ s _. ModeKnown s) w e known (record {
  on_start = λ k fs x h. record { failing = λ f m. let l = known.failing f m in omega arith };
  on_end = λ k h. record { failing = known.failing };
  on_abort = λ m column line h. aborted_known c w.sheet w.host m column line o h;
  on_undo = λ t k column line h. record { failing = known.failing };
  on_finish = λ t h. record { failing = known.failing };
  on_park = λ t h. record { failing = known.failing };
  on_resume = λ h. record { failing = known.failing };
  on_control = λ b. known;
})

pub mode_known_leads : (c : Chart) {first : World} → Kept first.sheet → ModeKnown first.sheet
    → {h : History} {w : World} → Leads c first h w → ModeKnown w.sheet
mode_known_leads c k known nothing = known
mode_known_leads c k known (one_more {w = w} l e) =
    mode_known_does c w e (kept_leads c k l).orderly (mode_known_leads c k known l)

pub mode_known_reached : (c : Chart) {w : World} → Reached c w → ModeKnown w.sheet
mode_known_reached c r = mode_known_leads c (kept_first r.serial) (mode_known_first r.serial) r.leads

-- ── while a rollback lasts ──

-- a test that takes due and undone alike does not see an undo
unseen : (test : RowState → Bool) → test Due ≡ test Undone → (states : ℕ → RowState) (k : ℕ) → states k ≡ Due
    → ◌≡◌ {A = ℕ → Bool} (λ j. test (at_put states k Undone j)) (λ j. test (states j))
unseen test e states k h =
    fun_ext (put_all (λ j x. test x ≡ test (states j)) states k Undone (λ _. refl) (sym e ∙ ap test (sym h)))

-- the rows of the graph, by which rows are due or undone
abbrev graph_by : Sheet → (ℕ → Bool) → ℕ → Bool
graph_by s mine v = eqb (s.rolled v) s.rollback && mine v

-- and its arrows, by which rows are passed over too
abbrev arrows_by : Sheet → (ℕ → Bool) → (ℕ → Bool) → List RowArrow
arrows_by s mine passed =
    each_below bound (λ v. cond (graph_by s mine v) (map (λ u. record { from = v; to = u }) (ends_of v)) [])
  where
    bound : ℕ
    bound = s.rows.count + 1

    ends_of : ℕ → List ℕ
    ends_of v =
        all_below bound (λ u. graph_by s mine u
        && within (λ x. cond (eqb x v || passed x) (s.rows.preds x) []) s.rows.count (eqb u) v)

-- the restart points, by which rows are committed
abbrev points_by : Chart → Rows → ℕ → (ℕ → Bool) → List ℕ
points_by c r f done =
    cond (at_start c r f) (0 ∷ []) []
    ++ all_below (r.count + 1)
    (λ w. is_savepoint c r w && (done w && any_below (r.count + 1) (λ x. behind c r f x && has w (r.preds x))))

points_stay : (c : Chart) (r : Rows) (k : ℕ) (m : Mode) → r.state k ≡ Due
    → restart_points c (marked r k Undone) m ≡ restart_points c r m
points_stay c r k Complete h = refl
points_stay c r k (Partial f) h = ap (points_by c r f) (unseen (λ x. same_state x Committed) refl r.state k h)

arrows_stay : (s : Sheet) (k : ℕ) → s.rows.state k ≡ Due
    → graph_arrows (with_rows s (marked s.rows k Undone)) ≡ graph_arrows s
arrows_stay s k h =
    ap₂ (arrows_by s) (unseen (λ x. same_state x Due || same_state x Undone) refl s.rows.state k h)
    (unseen (λ x. same_state x PassedOver) refl s.rows.state k h)

pub listing_stays : (c : Chart) (w : World) (e : Event) → ListingStays c w e
listing_stays c w e not_forward = kept_by c Same w e (refl, refl) (record {
  on_start = λ k fs x h. absurd (not_forward (start_forward c s w.host k fs _ x.kind h));
  on_end = λ k h. absurd (not_forward (phase_passed s Forward (passes (phase_check s Forward ∷ _) h).0));
  on_abort = λ m column line h. absurd (not_forward (abort_forward s w.host m column line h));
  on_undo = λ t k column line h.
      let due = undo_due s w.host t k column line h in
      (arrows_stay s k due, points_stay c s.rows k s.mode due);
  on_finish = λ t h. (refl, refl);
  on_park = λ t h. (refl, refl);
  on_resume = λ h. (refl, refl);
  on_control = λ b. (refl, refl);
})
  where
    s : Sheet
    s = w.sheet

    Same : Sheet → View → Type 0
    Same t _ =
        (graph_arrows t ≡ graph_arrows s)
        × (restart_points c t.rows t.mode ≡ restart_points c s.rows s.mode)
