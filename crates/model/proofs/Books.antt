-- At every moment the sheet's rows, with due read as undone, are the lines of the reference book; and at each accepted
-- finish the undos are those of the book. Assumes nothing.
use Rattle.std.proofs.Common.{◌≡◌, ℕ, zero, suc, ◌+◌, ◌≤◌, Bool, true, false, cond, not, ◌&&◌, ◌||◌, eqb, ltb, List, [], ◌∷◌, ◌++◌, length, Some, None, Option, sym, refl, ap, ◌∙◌, subst, arith}
use mathlib.Core.Path.{fun_ext}
use Rattle.std.proofs.lemmas.Bool.{both_ways, eqb-true, eq-eqb, lt-ltb}
use Rattle.std.proofs.lemmas.List.Sums.{sum_by-cons, sum_by_push}
use Rattle.std.proofs.lemmas.Bool.Decides.{nat_tests}
use Rattle.values.specs.Checks.{after}
use Rattle.values.specs.Numbers.{same_state, same_phase}
use Rattle.values.specs.declared.Answer.{Answer}
use Rattle.values.specs.declared.Answer.TheVariants.{Done}
use Rattle.values.specs.declared.Entry.{Entry}
use Rattle.values.specs.declared.Fault.{Fault}
use Rattle.values.specs.declared.Mode.{Mode}
use Rattle.values.specs.declared.Phase.{Phase}
use Rattle.values.specs.declared.Phase.TheVariants.{Forward, Undoing, Parked}
use Rattle.values.specs.declared.RowState.{RowState}
use Rattle.values.specs.declared.RowState.TheVariants.{Absent, Running, Committed, Dropped, Due, Undone, PassedOver}
use Rattle.values.specs.declared.TicketNumber.{TicketNumber}
use Rattle.host.specs.View.{View}
use Rattle.model.specs.Search.{at_put, down_from}
use Rattle.model.specs.Chart.{Chart}
use Rattle.model.specs.Rows.{Rows, with_states, marked, added, in_state, idle}
use Rattle.model.specs.Rollback.{strikes, fallen, fallen_states}
use Rattle.model.specs.Sheet.{Sheet, with_rows, with_phase, aborted, in_graph}
use Rattle.model.specs.Run.{Event, start, end, abort, undo, finish, park, resume, listing, reply, lend, control}
use Rattle.model.specs.Run.{World, Lent, world, does, said, History, Leads, nothing, one_more, opening}
use Rattle.model.specs.Book.{Book, with_lines, set_aside, each_undone, to_undo, rolled_back, accepted, noted, booked}
use Rattle.model.specs.Book.{book_of, undos_with, undos_after, undos_of, times}
use Rattle.model.specs.Calls.{phase_check, finish_fault}
use Rattle.model.specs.Sheets.{Orderly}
use Rattle.model.specs.Histories.{Finished}
use Rattle.model.proofs.Basics.{passes}
use Rattle.model.proofs.Order.{numbered}
use Rattle.model.proofs.Accepted.{phase_passed, start_forward, abort_forward, undo_due, finish_free}
use Rattle.model.proofs.Struck.{struck_committed}
use Rattle.model.proofs.Kept.{kept_first, kept_leads}

-- ── due read as undone ──

abbrev settle : RowState → RowState
settle Absent = Absent
settle Running = Running
settle Committed = Committed
settle Dropped = Dropped
settle Due = Undone
settle Undone = Undone
settle PassedOver = PassedOver

abbrev settled : Rows → Rows
settled r = with_states r (λ k. settle (r.state k))

settle_same : (st : RowState) → (st ≡ Due → ⊥) → settle st ≡ st
settle_same st n = grind arith

-- where no row is due, the settled rows are the rows
settled_same : (r : Rows) → ((k : ℕ) → r.state k ≡ Due → ⊥) → settled r ≡ r
settled_same r n = ap (with_states r) (fun_ext λ k. settle_same (r.state k) (n k))

-- a state put in before or after is settled alike
settle_put : (st : ℕ → RowState) (k : ℕ) (x : RowState)
    → ◌≡◌ {A = ℕ → RowState} (at_put (λ j. settle (st j)) k (settle x)) (λ j. settle (at_put st k x j))
settle_put st k x = fun_ext λ j. go (eqb j k) j
  where
    go : (t : Bool) (j : ℕ) → cond t (settle x) (settle (st j)) ≡ settle (cond t x (st j))
    go true j = refl
    go false j = refl

-- a due row that is undone is settled as before
settle_undone : (st : ℕ → RowState) (k : ℕ) → st k ≡ Due
    → ◌≡◌ {A = ℕ → RowState} (λ j. settle (st j)) (λ j. settle (at_put st k Undone j))
settle_undone st k h = fun_ext λ j. go (eqb j k) j refl
  where
    go : (t : Bool) (j : ℕ) → eqb j k ≡ t → settle (st j) ≡ settle (cond t Undone (st j))
    go true j e = ap (λ i. settle (st i)) (eqb-true j k e) ∙ ap settle h
    go false j e = refl

-- ── lines undone one after another ──

-- 1 where the test passes
abbrev unit : Bool → ℕ
unit t = cond t 1 0

times_cons : (k x : ℕ) (xs : List ℕ) → times k (x ∷ xs) ≡ unit (eqb k x) + times k xs
times_cons k x xs = sum_by-cons (λ y. unit (eqb k y)) x xs

-- among the numbers below n that pass, each stands once
times_down : (n : ℕ) (p : ℕ → Bool) (k : ℕ) → times k (down_from n p) ≡ unit (ltb k n && p k)
times_down zero p k = grind (arith, nat_tests)
times_down (suc n) p k = go (p n) refl (times_down n p k)
  where
    -- n itself, or a number below it
    step : (t : Bool) → p n ≡ t → (a : Bool) → eqb k n ≡ a → (b : Bool) → p k ≡ b
        → unit (t && a) + unit (ltb k n && b) ≡ unit (ltb k (suc n) && b)
    step true e true f b g = let h : b ≡ true = sym g ∙ ap p (eqb-true k n f) ∙ e in grind (arith, nat_tests)
    step true e false f b g = grind (arith, nat_tests)
    step false e true f b g = let h : b ≡ false = sym g ∙ ap p (eqb-true k n f) ∙ e in grind (arith, nat_tests)
    step false e false f b g = grind (arith, nat_tests)

    go : (t : Bool) → p n ≡ t → times k (down_from n p) ≡ unit (ltb k n && p k)
        → times k (cond t (n ∷ down_from n p) (down_from n p)) ≡ unit (ltb k (suc n) && p k)
    go true e r =
        times_cons k n (down_from n p) ∙ ap (λ x. unit (eqb k n) + x) r ∙ step true e (eqb k n) refl (p k) refl
    go false e r = r ∙ let q = step false e (eqb k n) refl (p k) refl in omega arith

-- a line is undone exactly if it is in the list
undone_by : (ks : List ℕ) (st : ℕ → RowState) (k : ℕ) → each_undone ks st k ≡ cond (ltb 0 (times k ks)) Undone (st k)
undone_by [] st k = refl
undone_by (x ∷ ks) st k =
    undone_by ks (at_put st x Undone) k ∙ go (eqb k x) (times k ks)
    ∙ ap (λ n. cond (ltb 0 n) Undone (st k)) (sym (times_cons k x ks))
  where
    go : (t : Bool) (n : ℕ) → cond (ltb 0 n) Undone (cond t Undone (st k)) ≡ cond (ltb 0 (unit t + n)) Undone (st k)
    go t n = grind (arith, nat_tests)

-- ── an abort ──

-- a struck row is one of the rows
struck_below : (c : Chart) (s : Sheet) (m : Mode) (k : ℕ) → Orderly s → strikes c s.rows m k ≡ true
    → ltb k (s.rows.count + 1) ≡ true
struck_below c s m k o h =
    let row = numbered s o k Committed refl (struck_committed c s.rows m k h) in
    lt-ltb k (s.rows.count + 1) (omega arith)

-- the rows that the abort undoes in the book are its struck rows that are not idle, each once
times_to_undo : (c : Chart) (s : Sheet) (m : Mode) (k : ℕ) → Orderly s
    → times k (to_undo c s.rows m) ≡ unit (strikes c s.rows m k && not (idle c s.rows k))
times_to_undo c s m k o = times_down (s.rows.count + 1) _ k ∙ go (strikes c s.rows m k) refl
  where
    go : (t : Bool) → strikes c s.rows m k ≡ t
        → unit (ltb k (s.rows.count + 1) && (t && not (idle c s.rows k))) ≡ unit (t && not (idle c s.rows k))
    go true e = ap (λ b. unit (b && not (idle c s.rows k))) (struck_below c s m k o e)
    go false e = grind (arith, nat_tests)

-- what an abort leaves of a line that is not due
abort_line : (st : RowState) (struck idle : Bool) → (st ≡ Due → ⊥) → (struck ≡ true → st ≡ Committed)
    → cond (ltb 0 (unit (struck && not idle))) Undone (set_aside st struck idle) ≡ settle (fallen st struck idle)
abort_line st struck idle n h = grind (arith, nat_tests)

abort_lines : (c : Chart) (s : Sheet) (m : Mode) → Orderly s → s.phase ≡ Forward
    → (rolled_back c (settled s.rows) m).lines ≡ settled (aborted c s m).rows
abort_lines c s m o f =
    let r = s.rows in
    let aside : ℕ → RowState = λ k. set_aside (r.state k) (strikes c r m k) (idle c r k) in
    let line : (k : ℕ) → each_undone (to_undo c r m) aside k ≡ settle (fallen_states c r m k) =
    λ k. undone_by (to_undo c r m) aside k ∙ ap (λ n. cond (ltb 0 n) Undone (aside k)) (times_to_undo c s m k o)
    ∙ abort_line (r.state k) (strikes c r m k) (idle c r k) (o.none_due f k) (struck_committed c r m k) in
    ap (λ x. (rolled_back c x m).lines) (settled_same r (o.none_due f)) ∙ ap (with_states r) (fun_ext line)

-- a row in that state is in the compensating graph, where `now` says that it is of the current rollback
abbrev of_graph : Bool → RowState → Bool
of_graph now st = now && (same_state st Due || same_state st Undone)

-- of one row: in the compensating graph after the abort exactly if struck and not idle, and then not yet undone
graph_row : (st : RowState) (struck idle : Bool) (rolled last : ℕ) → (st ≡ Due → ⊥) → (struck ≡ true → st ≡ Committed)
    → rolled ≤ last
    → of_graph (eqb (cond (same_state st Running || struck) (last + 1) rolled) (last + 1)) (fallen st struck idle)
    ≡ (struck && not idle)
graph_row st struck idle rolled last n h p = grind (arith, nat_tests)

none_undone : (st : RowState) (struck idle : Bool) → (struck ≡ true → st ≡ Committed)
    → ((struck && not idle) && same_state (fallen st struck idle) Undone) ≡ false
none_undone st struck idle h = grind (arith, nat_tests)

-- ── the book goes with the sheet ──

-- outside the forward phase, what the last abort turned undone are the rows of the compensating graph, and the undos
-- since then are those of them that are undone
record GoesWith (b : Book) (undos : List ℕ) (s : Sheet) : Type 0 where
  lines : b.lines ≡ settled s.rows
  graph : (s.phase ≡ Forward → ⊥) → (k : ℕ) → times k b.turned ≡ unit (in_graph s k)
  done : (s.phase ≡ Forward → ⊥) → (k : ℕ) → times k undos ≡ unit (in_graph s k && in_state s.rows Undone k)

-- in the forward phase only the lines matter
forward : {b : Book} {ks : List ℕ} {s : Sheet} → s.phase ≡ Forward → b.lines ≡ settled s.rows → GoesWith b ks s
forward f e = record { lines = e; graph = λ n. absurd (n f); done = λ n. absurd (n f) }

on_start : (s : Sheet) (b : Book) (ks : List ℕ) → GoesWith b ks s → s.phase ≡ Forward
    → (k : ℕ) (fs : List ℕ) (e : Entry)
    → GoesWith (with_lines b (added b.lines k fs e)) ks (with_rows s (added s.rows k fs e))
on_start s b ks g f k fs e =
    let put = settle_put s.rows.state (s.rows.count + 1) Running in
    forward f (ap (λ r. added r k fs e) g.lines ∙ ap (with_states (added s.rows k fs e)) put)

on_end : (s : Sheet) (b : Book) (ks : List ℕ) → GoesWith b ks s → s.phase ≡ Forward → (k : ℕ)
    → GoesWith (with_lines b (marked b.lines k Committed)) ks (with_rows s (marked s.rows k Committed))
on_end s b ks g f k =
    let put = settle_put s.rows.state k Committed in
    forward f (ap (λ r. marked r k Committed) g.lines ∙ ap (with_states s.rows) put)

on_abort : (c : Chart) (s : Sheet) (b : Book) (ks : List ℕ) → GoesWith b ks s → Orderly s → s.phase ≡ Forward
    → (m : Mode) → GoesWith (rolled_back c b.lines m) [] (aborted c s m)
on_abort c s b ks g o f m = record {
  lines = ap (λ r. (rolled_back c r m).lines) g.lines ∙ abort_lines c s m o f;
  graph = λ n k.
      ap (λ r. times k (to_undo c r m)) (g.lines ∙ settled_same s.rows (o.none_due f)) ∙ times_to_undo c s m k o
      ∙ ap unit (sym (row k));
  done = λ n k. sym (ap (λ t. unit (t && in_state (aborted c s m).rows Undone k)) (row k) ∙ ap unit (aside k));
}
  where
    r : Rows
    r = s.rows

    row : (k : ℕ) → in_graph (aborted c s m) k ≡ (strikes c r m k && not (idle c r k))
    row k =
        graph_row (r.state k) (strikes c r m k) (idle c r k) (s.rolled k) s.rollback (o.none_due f k)
        (struck_committed c r m k) (o.past k)

    aside : (k : ℕ) → ((strikes c r m k && not (idle c r k)) && in_state (aborted c s m).rows Undone k) ≡ false
    aside k = none_undone (r.state k) (strikes c r m k) (idle c r k) (struck_committed c r m k)

-- of one row, where t says whether it is the undone one, which was due and is of the current rollback
same_graph : (t now : Bool) (st : RowState) → (t ≡ true → st ≡ Due) → of_graph now st ≡ of_graph now (cond t Undone st)
same_graph t now st d = grind (arith, nat_tests)

one_undone : (t now : Bool) (st : RowState) → (t ≡ true → st ≡ Due) → (t ≡ true → now ≡ true)
    → unit (of_graph now st && same_state st Undone) + unit t
    ≡ unit (of_graph now (cond t Undone st) && same_state (cond t Undone st) Undone)
one_undone t now st d n = grind (arith, nat_tests)

on_undo : (s : Sheet) (b : Book) (ks : List ℕ) → GoesWith b ks s → Orderly s → (k : ℕ) → s.rows.state k ≡ Due
    → GoesWith b (ks ++ k ∷ []) (with_rows s (marked s.rows k Undone))
on_undo s b ks g o k h = record {
  lines = g.lines ∙ ap (with_states s.rows) (settle_undone s.rows.state k h);
  graph = λ n j. g.graph n j ∙ ap unit (same_graph (eqb j k) (now j) (s.rows.state j) (due j));
  done = λ n j.
      sum_by_push (λ x. unit (eqb j x)) ks k ∙ ap (λ x. x + unit (eqb j k)) (g.done n j)
      ∙ one_undone (eqb j k) (now j) (s.rows.state j) (due j) (λ e. eq-eqb _ _ (o.due_now j (due j e)));
}
  where
    now : ℕ → Bool
    now j = eqb (s.rolled j) s.rollback

    due : (j : ℕ) → eqb j k ≡ true → s.rows.state j ≡ Due
    due j e = ap s.rows.state (eqb-true j k e) ∙ h

-- outside the forward phase, into any phase
into_phase : (s : Sheet) (b : Book) (ks : List ℕ) → GoesWith b ks s → (s.phase ≡ Forward → ⊥) → (p : Phase)
    → GoesWith b ks (with_phase s p)
into_phase s b ks g n p = record { lines = g.lines; graph = λ _. g.graph n; done = λ _. g.done n }

-- ── along a history ──

-- either way of a decision, whose answer is an acceptance exactly if no check stands
decided : (f : Option Fault) (old new : World) (a : Answer) {b b' : Book} {ks ks' : List ℕ} → accepted a ≡ true
    → GoesWith b ks old.sheet → (f ≡ None → GoesWith b' ks' new.sheet)
    → GoesWith (cond (accepted (said f a)) b' b) (cond (accepted (said f a)) ks' ks) (after f old new).sheet
decided None old new a {b} {b'} {ks} {ks'} t g n =
    subst (λ x. GoesWith (cond x b' b) (cond x ks' ks) new.sheet) (sym t) (n refl)
decided (Some f) old new a t g n = g

not_forward : (s : Sheet) (p : Phase) → same_phase p Forward ≡ false → phase_check s p ≡ None → s.phase ≡ Forward → ⊥
not_forward s p n h f =
    both_ways (same_phase p Forward) n (ap (λ x. same_phase x Forward) (sym (phase_passed s p h) ∙ f))

step : (c : Chart) (w : World) (e : Event) (b : Book) (ks : List ℕ) → Orderly w.sheet → GoesWith b ks w.sheet
    → GoesWith (cond (accepted (does c w e).1) (noted c b e) b) (cond (accepted (does c w e).1) (undos_with ks e) ks)
    (does c w e).0.sheet
step c w (start k fs e) b ks o g =
    decided _ _ _ _ refl g λ n. on_start w.sheet b ks g (start_forward c w.sheet w.host k fs _ _ n) k fs e
step c w (end k) b ks o g =
    decided _ _ _ _ refl g λ n. on_end w.sheet b ks g (phase_passed w.sheet Forward (passes (_ ∷ _) n).0) k
step c w (abort m) b ks o g =
    decided _ _ _ _ refl g λ n.
    on_abort c w.sheet b ks g o
    (abort_forward w.sheet w.host m (length w.lent.column) w.lent.line n) m
step c w (undo t k) b ks o g =
    decided _ _ _ _ refl g λ n.
    on_undo w.sheet b ks g o k
    (undo_due w.sheet w.host t k (length w.lent.column) w.lent.line n)
step c w (finish t) b ks o g =
    decided _ _ _ _ refl g λ n.
    into_phase w.sheet b ks g (not_forward w.sheet Undoing refl (passes (_ ∷ _) n).0) Forward
step c w (park t) b ks o g =
    decided _ _ _ _ refl g λ n.
    into_phase w.sheet b ks g (not_forward w.sheet Undoing refl (passes (_ ∷ _) n).0) Parked
step c w resume b ks o g =
    decided _ _ _ _ refl g λ n.
    into_phase w.sheet b ks g (not_forward w.sheet Parked refl (passes (_ ∷ _) n).0) Undoing
step c w listing b ks o g = decided _ _ _ _ refl g λ n. g
step c w (reply place) b ks o g = decided _ _ _ _ refl g λ n. g
step c w (lend l) b ks o g = g
step c w (control t) b ks o g = g

-- book and undos of a history with one event more
booked_more : (c : Chart) (b : Book) (h : History) (e : Event) (a : Answer)
    → booked c b (h ++ (e, a) ∷ []) ≡ cond (accepted a) (noted c (booked c b h) e) (booked c b h)
booked_more c b [] e a = refl
booked_more c b ((d, x) ∷ h) e a = booked_more c (cond (accepted x) (noted c b d) b) h e a

undos_more : (ks : List ℕ) (h : History) (e : Event) (a : Answer)
    → undos_after ks (h ++ (e, a) ∷ []) ≡ cond (accepted a) (undos_with (undos_after ks h) e) (undos_after ks h)
undos_more ks [] e a = refl
undos_more ks ((d, x) ∷ h) e a = undos_more (cond (accepted x) (undos_with ks d) ks) h e a

orderly : (c : Chart) {serial : ℕ} {v : View} {l : Lent} {h : History} {w : World} → Leads c (opening serial v l) h w
    → Orderly w.sheet
orderly c {serial} q = (kept_leads c (kept_first serial) q).orderly

goes_with : (c : Chart) {serial : ℕ} {v : View} {l : Lent} {h : History} {w : World} → Leads c (opening serial v l) h w
    → GoesWith (book_of c h) (undos_of h) w.sheet
goes_with c nothing = forward refl refl
goes_with c (one_more {h} {w} q e) =
    let g = step c w e (book_of c h) (undos_of h) (orderly c q) (goes_with c q) in
    rw (booked_more, undos_more) g

-- ── the finish ──

accepted_done : (f : Option Fault) → said f Done ≡ Done → f ≡ None
accepted_done None h = refl
accepted_done (Some x) h = let z : ◌≡◌ {A = ℕ} 0 1 = cc in absurd (omega arith)

-- a row of the graph that is not due is undone
all_undone : (now : Bool) (st : RowState) → (st ≡ Due → ⊥) → (of_graph now st && same_state st Undone) ≡ of_graph now st
all_undone now st n = grind (arith, nat_tests)

unit_le : (t : Bool) → unit t ≤ 1
unit_le t = grind (arith, nat_tests)

-- a finish leaves the rows
finish_rows : (f : Option Fault) (w : World)
    → (after f w (world (with_phase w.sheet Forward) w.host w.lent)).sheet.rows ≡ w.sheet.rows
finish_rows None w = refl
finish_rows (Some x) w = refl

pub finish_is_the_book : (c : Chart) {serial : ℕ} {v : View} {l : Lent} {h : History} {w : World}
    → Leads c (opening serial v l) h w → (t : TicketNumber) → (does c w (finish t)).1 ≡ Done
    → Finished (does c w (finish t)).0.sheet.rows (undos_of h) (book_of c h)
finish_is_the_book c {w = w} q t a =
    let s = w.sheet in
    let g = goes_with c q in
    let passed = accepted_done (finish_fault s t) a in
    let back = not_forward s Undoing refl (passes (phase_check s Undoing ∷ _) passed).0 in
    let none_due = finish_free s t (orderly c q) passed in
    record {
      rearranged = λ k.
          g.done back k ∙ ap unit (all_undone (eqb (s.rolled k) s.rollback) (s.rows.state k) (none_due k))
          ∙ sym (g.graph back k);
      once = λ k. subst (λ n. n ≤ 1) (sym (g.done back k)) (unit_le _);
      alike = finish_rows (finish_fault s t) w ∙ sym (settled_same s.rows none_due) ∙ sym g.lines;
    }
