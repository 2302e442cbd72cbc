-- A host along a list of calls. Assumes nothing.
use Rattle.std.proofs.Common.{◌≡◌, ℕ, ◌+◌, ◌<◌, ◌≤◌, Bool, true, false, cond, not, List, length, get_or, drop, is_some, is_ok, Some, None, Option, Result, sym, refl, ap, ◌∙◌, subst, ⊎_elim, arith}
use Rattle.std.proofs.lemmas.List.{at_drop_more, at_drop_all}
use Rattle.std.proofs.lemmas.Bool.Decides.{nat_tests, eqb_tells}
use Rattle.values.specs.Checks.{after, answer, first_fault}
use Rattle.values.specs.Numbers.{same_host_state}
use Rattle.values.specs.declared.Entry.{Entry}
use Rattle.values.specs.declared.Fault.{Fault}
use Rattle.values.specs.declared.HostState.{HostState}
use Rattle.values.specs.declared.HostState.TheVariants.{Unknown, Open, Standing, Void, Reversed}
use Rattle.host.specs.Keys.{RowKey}
use Rattle.host.specs.View.{View, Sound, is_unknown, put, moved, begun, move_checks, begin_checks}
use Rattle.host.specs.Calls.{fault_of, done, after_call, after_calls, accepted}
use Rattle.host.specs.Later.{Turn, begins, stands, voids, undoes, Path, stays, turns, Later}
use Rattle.host.specs.declared.calls.Call.{Call}
use Rattle.host.specs.declared.calls.Call.TheVariants.{Begin, Commit, Drop, Undo}

-- a path after a path is a path
path_join : {s t u : HostState} → Path s t → Path t u → Path s u
path_join p stays = p
path_join p (turns q t) = turns (path_join p q) t

-- what is later than a later view is later
pub later_trans : (u v w : View) → Later u v → Later v w → Later u w
later_trans u v w p q = record {
  states = λ row. path_join (p.states row) (q.states row);
  room = λ k. let a = p.room k in let b = q.room k in omega arith;
  entries = λ row e h. q.entries row e (p.entries row e h);
}

pub later_same : (v : View) → Later v v
later_same v = record { states = λ _. stays; room = λ k. omega arith; entries = λ _ _ h. h }

-- states with one number are one state
pub state_is : (s t : HostState) → same_host_state s t ≡ true → s ≡ t
state_is s t h = grind arith

-- one row turned, from a state that has such a turn
put_path : (f : RowKey → HostState) (row : RowKey) (from to : HostState) → Turn from to → same_host_state (f row) from ≡ true
    → (n : RowKey) → Path (f n) (put f row to n)
put_path f row from to t h n =
    ⊎_elim
    (λ e.
    let here : put f row to n ≡ to = ap (λ b. cond b to (f n)) e.0 in
    let was : f n ≡ from = ap f e.1 ∙ state_is _ _ h in
    subst (λ s. Path s (put f row to n)) (sym was) (subst (Path from) (sym here) (turns stays t)))
    (λ e. subst (Path (f n)) (sym (ap (λ b. cond b to (f n)) e.0)) stays)
    (eqb_tells n row)

-- an accepted move leads to a later view
moved_later : (from to : HostState) → Turn from to → (v : View) (row : RowKey) → first_fault (move_checks from v row) ≡ None
    → Later v (moved to v row)
moved_later from to t v row h =
    let here : same_host_state (v.state row) from ≡ true = grind (arith, nat_tests) in
    record { states = put_path v.state row from to t here; room = λ k. omega arith; entries = λ _ _ e. e }

-- an accepted begin leads to a later view: an unknown row has no entry yet
begun_later : (v : View) (row : RowKey) (e : Entry) → Sound v → first_fault (begin_checks v row e.kind) ≡ None → Later v (begun v row e)
begun_later v row e s h =
    let here : is_unknown (v.state row) ≡ true = grind (arith, nat_tests) in
    let none : is_some (v.entry row) ≡ false = s.entries row ∙ ap not here in
    record {
      states = put_path v.state row Unknown Open begins here;
      room = λ k. grind (arith, nat_tests);
      entries = λ n x p. grind (arith, nat_tests);
    }

-- an accepted call leads to a later view
done_later : (v : View) (c : Call) → Sound v → fault_of v c ≡ None → Later v (done v c)
done_later v (Begin row e) s h = begun_later v row e s h
done_later v (Commit row) s h = moved_later Open Standing stands v row h
done_later v (Drop row) s h = moved_later Open Void voids v row h
done_later v (Undo row) s h = moved_later Standing Reversed undoes v row h

after_later : (f : Option Fault) (v w : View) → (f ≡ None → Later v w) → Later v (after f v w)
after_later None v w h = h refl
after_later (Some f) v w h = later_same v

-- a call, accepted or not, leads to a later view
pub call_later : (v : View) (c : Call) → Sound v → Later v (after_call v c)
call_later v c s = after_later (fault_of v c) v (done v c) (done_later v c s)

-- one call more: what is left of the list, from here on, gives what the whole gives
pub shows_more : (v w : View) (cs : List Call) (i : ℕ) (d : Call) → i < length cs → w ≡ after_call v (get_or cs i d)
    → after_calls w (drop (i + 1) cs) ≡ after_calls v (drop i cs)
shows_more v w cs i d h p =
    let more : after_calls v (drop i cs) ≡ after_calls (after_call v (get_or cs i d)) (drop (i + 1) cs) =
    at_drop_more (after_calls v) cs i d h in
    ap (λ u. after_calls u (drop (i + 1) cs)) p ∙ sym more

pub counts_more : (v w : View) (cs : List Call) (i : ℕ) (d : Call) → i < length cs → w ≡ after_call v (get_or cs i d)
    → cond (is_some (fault_of v (get_or cs i d))) 0 1 + accepted w (drop (i + 1) cs) ≡ accepted v (drop i cs)
counts_more v w cs i d h p =
    let more : accepted v (drop i cs)
    ≡ cond (is_some (fault_of v (get_or cs i d))) 0 1 + accepted (after_call v (get_or cs i d)) (drop (i + 1) cs) =
    at_drop_more (accepted v) cs i d h in
    ap (λ u. cond (is_some (fault_of v (get_or cs i d))) 0 1 + accepted u (drop (i + 1) cs)) p ∙ sym more

pub shows_all : (v : View) (cs : List Call) (i : ℕ) → length cs ≤ i → after_calls v (drop i cs) ≡ v
shows_all v cs i h = at_drop_all (after_calls v) cs i h

pub counts_all : (v : View) (cs : List Call) (i : ℕ) → length cs ≤ i → accepted v (drop i cs) ≡ 0
counts_all v cs i h = at_drop_all (accepted v) cs i h

-- the count rises exactly if the call was accepted
pub counted : (n m : ℕ) (f : Option Fault) (r : Result (Unit {0}) Fault) (t : Bool) → r ≡ answer f tt → is_ok r ≡ t
    → m ≡ cond t (n + 1) n → m ≡ n + cond (is_some f) 0 1
counted n m None r t p q e = let ok : t ≡ true = sym q ∙ ap is_ok p in grind (arith, nat_tests)
counted n m (Some x) r t p q e = let err : t ≡ false = sym q ∙ ap is_ok p in grind (arith, nat_tests)

-- a host that showed u has come to show v by the first i calls of a list, of which so many were accepted
abbrev pub Come : View → List Call → ℕ → View → ℕ → Type 0
Come u cs i v count =
    (count ≤ i)
    × (count + accepted v (drop i cs) ≡ accepted u cs)
    × (after_calls v (drop i cs) ≡ after_calls u cs)
    × Later u v

few_more : (t : Bool) (old new i : ℕ) → old ≤ i → new ≡ cond t (old + 1) old → new ≤ i + 1
few_more true old new i h e = omega arith
few_more false old new i h e = omega arith

-- and goes on by one call more
pub come_more : (u v w : View) (cs : List Call) (i old new : ℕ) (d : Call) (r : Result (Unit {0}) Fault) (t : Bool)
    → i < length cs → Sound v → w ≡ after_call v (get_or cs i d) → r ≡ answer (fault_of v (get_or cs i d)) tt → is_ok r ≡ t
    → new ≡ cond t (old + 1) old → Come u cs i v old → Come u cs (i + 1) w new
come_more u v w cs i old new d r t h s p q k e inv =
    let call = get_or cs i d in
    let one : new ≡ old + cond (is_some (fault_of v call)) 0 1 = counted old new (fault_of v call) r t q k e in
    let few : new ≤ i + 1 = few_more t old new i inv.0 e in
    let counts = counts_more v w cs i d h p in
    let later : Later v w = subst (Later v) (sym p) (call_later v call s) in
    (few, omega (arith, one, counts, inv.1), shows_more v w cs i d h p ∙ inv.2, later_trans u v w inv.3 later)

-- at the list's end
pub come_all : (u v : View) (cs : List Call) (i count : ℕ) → length cs ≤ i → Come u cs i v count
    → (count ≡ accepted u cs) × (v ≡ after_calls u cs)
come_all u v cs i count h inv =
    let none = counts_all v cs i h in
    (omega (arith, none, inv.1), sym (shows_all v cs i h) ∙ inv.2)
