-- Along any events the host knows exactly the sheet's rows. Assumes nothing.
use Rattle.std.proofs.Common.{◌≡◌, ℕ, zero, suc, ◌+◌, Bool, true, false, cond, not, ◌&&◌, eqb, ltb, ◌∷◌, is_some, Some, None, Option, sym, refl, ap, ◌∙◌, subst, arith}
use mathlib.Core.Path.{fun_ext}
use borrow.Author.Tests.{clash}
use Rattle.std.proofs.lemmas.Bool.{eqb-true, lt-ltb}
use Rattle.std.proofs.lemmas.Bool.Decides.{nat_tests}
use Rattle.values.specs.Numbers.{same_state}
use Rattle.values.specs.declared.Entry.{Entry}
use Rattle.values.specs.declared.HostState.{HostState}
use Rattle.values.specs.declared.HostState.TheVariants.{Open, Void}
use Rattle.values.specs.declared.Mode.{Mode}
use Rattle.values.specs.declared.Phase.TheVariants.{Forward}
use Rattle.values.specs.declared.RowState.{RowState}
use Rattle.values.specs.declared.RowState.TheVariants.{Running, Committed, Due, Undone}
use Rattle.values.specs.declared.TicketNumber.{TicketNumber}
use Rattle.host.specs.Keys.{key_of}
use Rattle.host.specs.View.{View, Fresh, Sound, put, move_checks, moved, is_unknown}
use Rattle.model.specs.Search.{at_put}
use Rattle.model.specs.Chart.{Chart}
use Rattle.model.specs.Rows.{Rows, in_state, idle}
use Rattle.model.specs.Rollback.{strikes, fallen}
use Rattle.model.specs.Sheet.{Sheet, blank, aborted}
use Rattle.model.specs.Calls.{phase_check, row_check, end_fault, dropped_below, all_dropped, undo_checks, undo_fault}
use Rattle.model.specs.Run.{World, Event, does}
use Rattle.model.specs.Sheets.{Orderly, host_state_of, entry_of, HostFollows}
use Rattle.model.proofs.Basics.{passed_test, passes, same_state_eq}
use Rattle.model.proofs.Steps.{kept_by}

-- ── a fresh host ──

not_some : (o : Option Entry) → is_some o ≡ false → o ≡ None
not_some None h = refl
not_some (Some e) h = absurd (clash (sym h))

pub follows_first : (serial : ℕ) (v : View) → Fresh v → Sound v → HostFollows (blank serial) v
follows_first serial v fresh sound = record {
  states = λ k. fresh (key_of k);
  entries = λ k. not_some (v.entry (key_of k))
      (sound.entries (key_of k) ∙ ap (λ st. not (is_unknown st)) (fresh (key_of k)));
}

-- ── one row's state put in both ──

put_states : (s : Sheet) (v : View) → HostFollows s v → (k : ℕ) (st : RowState) (j : ℕ)
    → put v.state (key_of k) (host_state_of st) (key_of j) ≡ host_state_of (at_put s.rows.state k st j)
put_states s v h k st j = go (eqb j k)
  where
    go : (t : Bool) → cond t (host_state_of st) (v.state (key_of j)) ≡ host_state_of (cond t st (s.rows.state j))
    go true = refl
    go false = h.states j

-- the entries stay where a row that is there is put in another state
put_entries : (s : Sheet) (v : View) → HostFollows s v → (k : ℕ) (st : RowState)
    → ((e : Entry) → entry_of st e ≡ entry_of (s.rows.state k) e) → (j : ℕ)
    → v.entry (key_of j) ≡ entry_of (at_put s.rows.state k st j) (s.rows.entry j)
put_entries s v h k st same j = go (eqb j k) refl
  where
    go : (t : Bool) → eqb j k ≡ t → v.entry (key_of j) ≡ entry_of (cond t st (s.rows.state j)) (s.rows.entry j)
    go true e =
        h.entries j
        ∙ ap (λ i. entry_of (s.rows.state i) (s.rows.entry j)) (eqb-true j k e)
        ∙ sym (same (s.rows.entry j))
    go false e = h.entries j

-- a new row's entry put in both
new_entries : (s : Sheet) (v : View) → HostFollows s v → (k : ℕ) (e : Entry) (j : ℕ)
    → put v.entry (key_of k) (Some e) (key_of j)
    ≡ entry_of (at_put s.rows.state k Running j) (at_put s.rows.entry k e j)
new_entries s v h k e j = go (eqb j k)
  where
    go : (t : Bool)
        → cond t (Some e) (v.entry (key_of j))
        ≡ entry_of (cond t Running (s.rows.state j)) (cond t e (s.rows.entry j))
    go true = refl
    go false = h.entries j

-- ── abort ──

-- the host with other states
abbrev pub with_host_states : View → (ℕ → HostState) → View
with_host_states v st = record { shut = v.shut; room = v.room; state = st; entry = v.entry }

-- one row more
one_dropped : (runs : ℕ → Bool) (n k : ℕ) (st : HostState)
    → cond (runs n) (cond (eqb k n) Void (cond (ltb k n && runs k) Void st)) (cond (ltb k n && runs k) Void st)
    ≡ cond (ltb k (suc n) && runs k) Void st
one_dropped runs n k st = grind (arith, nat_tests)

-- exactly the rows below n that run are void, and nothing else changes
pub dropped_view : (runs : ℕ → Bool) (n : ℕ) (v : View)
    → dropped_below runs n v ≡ with_host_states v (λ k. cond (ltb k n && runs k) Void (v.state k))
dropped_view runs zero v = ap (with_host_states v) (fun_ext λ k. grind (arith, nat_tests))
dropped_view runs (suc n) v =
    ap (λ u. cond (runs n) (moved Void u (key_of n)) u) (dropped_view runs n v)
    ∙ go (runs n) (λ k. cond (ltb k n && runs k) Void (v.state k))
    ∙ ap (with_host_states v) (fun_ext λ k. one_dropped runs n k (v.state k))
  where
    go : (t : Bool) (st : ℕ → HostState)
        → cond t (moved Void (with_host_states v st) (key_of n)) (with_host_states v st)
        ≡ with_host_states v (λ k. cond t (put st (key_of n) Void k) (st k))
    go true st = refl
    go false st = refl

-- exactly the rows up to the count that run are void
pub all_dropped_view : (r : Rows) (v : View)
    → all_dropped r v ≡ with_host_states v (λ k. cond (ltb k (r.count + 1) && in_state r Running k) Void (v.state k))
all_dropped_view r v = dropped_view (in_state r Running) (r.count + 1) v

fallen_state : (st : RowState) (low struck still : Bool) (at : HostState) → at ≡ host_state_of st
    → (st ≡ Running → low ≡ true)
    → cond (low && same_state st Running) Void at ≡ host_state_of (fallen st struck still)
fallen_state st low struck still at h l = grind arith

fallen_entry : (st : RowState) (struck still : Bool) (e : Entry) → entry_of st e ≡ entry_of (fallen st struck still) e
fallen_entry st struck still e = grind arith

-- running rows have numbers up to the count
runs_low : (s : Sheet) → Orderly s → (k : ℕ) → s.rows.state k ≡ Running → ltb k (s.rows.count + 1) ≡ true
runs_low s o k e = lt-ltb k (s.rows.count + 1) (let l = o.inside k (λ a. grind arith) in omega arith)

follows_abort : (c : Chart) (s : Sheet) (v : View) (m : Mode) → Orderly s → HostFollows s v
    → HostFollows (aborted c s m) (all_dropped s.rows v)
follows_abort c s v m o h =
    let r = s.rows in
    subst (HostFollows (aborted c s m)) (sym (all_dropped_view r v)) (record {
      states = λ k. fallen_state (r.state k) _ (strikes c r m k) (idle c r k) _ (h.states k) (runs_low s o k);
      entries = λ k. h.entries k ∙ fallen_entry (r.state k) (strikes c r m k) (idle c r k) (r.entry k);
    })

-- ── every event ──

was : (s : Sheet) (st : RowState) (k : ℕ) → row_check s.rows st k ≡ None → s.rows.state k ≡ st
was s st k h = same_state_eq (s.rows.state k) st (passed_test (in_state s.rows st k) _ _ _ h)

was_running : (s : Sheet) (v : View) (k : ℕ) → end_fault s v k ≡ None → s.rows.state k ≡ Running
was_running s v k f =
    let checks = phase_check s Forward ∷ row_check s.rows Running k ∷ move_checks Open v (key_of k) in
    was s Running k (passes checks f).1.0

was_due : (s : Sheet) (v : View) (t : TicketNumber) (k column line : ℕ) → undo_fault s v t k column line ≡ None
    → s.rows.state k ≡ Due
was_due s v t k column line f = was s Due k (passes (undo_checks s v t k column line) f).1.1.1.0

pub follows_does : (c : Chart) (w : World) (e : Event) → Orderly w.sheet → HostFollows w.sheet w.host
    → HostFollows (does c w e).0.sheet (does c w e).0.host
follows_does c w e o h = kept_by c HostFollows w e h (record {
  on_start = λ k fs x _. record {
    states = put_states s v h (s.rows.count + 1) Running;
    entries = new_entries s v h (s.rows.count + 1) x;
  };
  on_end = λ k f. record {
    states = put_states s v h k Committed;
    entries = put_entries s v h k Committed (λ x. ap (λ st. entry_of st x) (sym (was_running s v k f)));
  };
  on_abort = λ m column line _. follows_abort c s v m o h;
  on_undo = λ t k column line f. record {
    states = put_states s v h k Undone;
    entries = put_entries s v h k Undone (λ x. ap (λ st. entry_of st x) (sym (was_due s v t k column line f)));
  };
  on_finish = λ t _. record { states = h.states; entries = h.entries };
  on_park = λ t _. record { states = h.states; entries = h.entries };
  on_resume = λ _. record { states = h.states; entries = h.entries };
  on_control = λ b. record { states = h.states; entries = h.entries };
})
  where
    s : Sheet
    s = w.sheet

    v : View
    v = w.host
