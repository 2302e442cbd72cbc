-- Running rows dropped at the host, and the rows that fall. Assumes nothing.
use Rattle.std.proofs.Common.{◌≡◌, ℕ, suc, ◌+◌, ◌<◌, ◌≤◌, Bool, true, false, cond, not, ◌&&◌, [], ◌∷◌, Some, None, Err, Option, Result, refl, sym, ap, ◌∙◌, ap₂, add-one, inl, inr, arith}
use Rattle.std.proofs.lemmas.Bool.{le-ltb, cases_Bool, cases_eq, cases_lt}
use Rattle.std.proofs.lemmas.Bool.Decides.{nat_tests}
use Rattle.values.specs.Checks.{first_fault, bad, bad_at, answer, after}
use Rattle.values.specs.declared.Cause.TheVariants.{ShutHost, OtherState}
use Rattle.values.specs.declared.Fault.{Fault}
use Rattle.values.specs.declared.HostState.{HostState}
use Rattle.values.specs.declared.HostState.TheVariants.{Open, Void}
use Rattle.values.specs.declared.Layer.TheVariants.{Host as OfHost}
use Rattle.values.specs.Numbers.{same_host_state}
use Rattle.host.specs.Keys.{key_of, is_row, place_of}
use Rattle.host.specs.View.{View, move_checks, moved}
use Rattle.model.specs.Calls.{dropped_below, lowest_row}
use Rattle.values.specs.declared.RowState.TheVariants.{Running}
use Rattle.model.specs.Rows.{Rows, in_state}
use Rattle.model.specs.Sheet.{Sheet}
use Rattle.model.proofs.Hosts.{dropped_view}
use Rattle.rows.specs.declared.table.RowTable.{RowTable}
use Rattle.rows.specs.Tables.{rows_of}
use Rattle.rows.proofs.Below.{first_none, first_is}
use Rattle.rows.proofs.Columns.{known_within}
use Rattle.sheet.specs.Calls.{drop_checks, not_open}
use Rattle.graph.specs.Reach.{Least}
use Rattle.rowset.proofs.Loops.{to_next, to_end}

-- rows from n on are at the host as they were
still_there : (runs : ℕ → Bool) (n : ℕ) (v : View) → (dropped_below runs n v).state n ≡ v.state n
still_there runs n v =
    ap (λ (x : View). x.state n) (dropped_view runs n v)
    ∙ ap (λ t. cond (t && runs n) Void (v.state n)) (le-ltb n n (omega arith))

same_shut : (runs : ℕ → Bool) (n : ℕ) (v : View) → (dropped_below runs n v).shut ≡ v.shut
same_shut runs n v = ap (λ (x : View). x.shut) (dropped_view runs n v)

checks_by : Bool → HostState → ℕ → Option Fault
checks_by shut st n = first_fault (bad shut ShutHost OfHost (place_of (key_of n)) ∷ bad (not (is_row (key_of n) && same_host_state st Open)) OtherState OfHost (place_of (key_of n)) ∷ [])

-- so that a running row can still be dropped when its turn comes
pub still_droppable : (runs : ℕ → Bool) (n : ℕ) (v x : View) → x ≡ dropped_below runs n v
    → first_fault (move_checks Open v (key_of n)) ≡ None → first_fault (move_checks Open x (key_of n)) ≡ None
unfolding checks_by
still_droppable runs n v x is may =
    ap (λ (y : View). checks_by y.shut (y.state n) n) is
    ∙ ap₂ (λ shut st. checks_by shut st n) (same_shut runs n v) (still_there runs n v) ∙ may

-- one row more, which runs and is dropped
pub dropped_one : (runs : ℕ → Bool) (n : ℕ) (v x y : View)
    → first_fault (move_checks Open v (key_of n)) ≡ None → true ≡ runs n
    → x ≡ dropped_below runs n v → y ≡ after (first_fault (move_checks Open x (key_of n))) x (moved Void x (key_of n))
    → y ≡ dropped_below runs (n + 1) v
dropped_one runs n v x y may h was is = let drops = still_droppable runs n v x was may in rw add-one (grind arith)

-- between two running rows next to each other none is dropped, and none above the last one
module _ (runs member : ℕ → Bool) (is : (k : ℕ) → member k ≡ runs k) (v : View) where
  dropped_none : (k : ℕ) → member k ≡ false → dropped_below runs (suc k) v ≡ dropped_below runs k v
  dropped_none k out =
      ap (λ b. cond b (moved Void (dropped_below runs k v) (key_of k)) (dropped_below runs k v)) (sym (is k) ∙ out)

  pub dropped_to : {last k : ℕ} {x : View} → Least (λ j. member j ≡ true) last (Some k)
      → x ≡ dropped_below runs (last + 1) v → x ≡ dropped_below runs k v
  dropped_to next was = was ∙ sym (to_next (λ n. dropped_below runs n v) member dropped_none next)

  pub dropped_all : {last : ℕ} {x : View} (n : ℕ) → last < n → Least (λ j. member j ≡ true) last None
      → x ≡ dropped_below runs (last + 1) v → x ≡ dropped_below runs n v
  dropped_all n inside past was = was ∙ sym (to_end (λ n. dropped_below runs n v) member dropped_none n inside past)

-- a running row is one of the rows
pub runs_within : (t : RowTable) (k : ℕ) → in_state (rows_of t) Running k ≡ true → k ≤ (rows_of t).count
runs_within t k runs = (known_within t.rows.items k (grind arith)).1

pub runs_row : (t : RowTable) (k : ℕ) → in_state (rows_of t) Running k ≡ true → 1 ≤ k
runs_row t k runs = (known_within t.rows.items k (grind arith)).0

-- and so its key is a row's
pub runs_as_row : (t : RowTable) (k : ℕ) → in_state (rows_of t) Running k ≡ true → is_row (key_of k) ≡ true
runs_as_row t k runs =
    let low = runs_row t k runs in let high = runs_within t k runs in let few = t.few in grind (arith, nat_tests)

-- ── whether the host would drop each running row ──

-- it would drop those up to a number
pub Clear : Rows → View → ℕ → Type 0
Clear r v last = (k : ℕ) → k ≤ last → in_state r Running k ≡ true → first_fault (move_checks Open v (key_of k)) ≡ None

-- the fault of a declined answer
pub fails_with : (f : Option Fault) (r : Result (Unit {0}) Fault) (e : Fault) → r ≡ answer f tt → r ≡ Err e → f ≡ Some e
fails_with None r e a d = grind arith
fails_with (Some x) r e a d = grind arith

-- row 0 is none
pub clear_first : (t : RowTable) (v : View) → Clear (rows_of t) v 0
unfolding Clear
clear_first t v k l runs = absurd (let row = runs_row t k runs in omega (arith, row, l))

module _ (r : Rows) (v : View) (member : ℕ → Bool) (is : (k : ℕ) → member k ≡ in_state r Running k) where
  -- up to the next running row there is no other
  pub clear_below : {last n : ℕ} → Least (λ j. member j ≡ true) last (Some n) → Clear r v last
      → (k : ℕ) → k < n → in_state r Running k ≡ true → first_fault (move_checks Open v (key_of k)) ≡ None
  unfolding Clear
  clear_below {last} {n} next clear k l runs = elim (cases_lt last k) [
    | inl above ↦ absurd (next.2 k above l (is k ∙ runs))
    | inr below ↦ clear k below runs
  ]

  pub clear_more : {last n : ℕ} → Least (λ j. member j ≡ true) last (Some n) → Clear r v last
      → first_fault (move_checks Open v (key_of n)) ≡ None → Clear r v n
  unfolding Clear
  clear_more {last} {n} next clear may k l runs = elim (cases_eq k n) [
    | inl same ↦ ap (λ j. first_fault (move_checks Open v (key_of j))) same ∙ may
    | inr other ↦ clear_below next clear k (omega (arith, l, other)) runs
  ]

  pub clear_all : {last : ℕ} → Least (λ j. member j ≡ true) last None → Clear r v last
      → (k : ℕ) → in_state r Running k ≡ true → first_fault (move_checks Open v (key_of k)) ≡ None
  unfolding Clear
  clear_all {last} past clear k runs = elim (cases_lt last k) [
    | inl above ↦ absurd (past k above (is k ∙ runs))
    | inr below ↦ clear k below runs
  ]

clear_shut : (shut runs : Bool) (st : HostState) (k : ℕ) → (runs ≡ true → checks_by shut st k ≡ None) → (shut && runs) ≡ false
unfolding checks_by
clear_shut shut true st k clear = let none = clear refl in grind (arith, nat_tests)
clear_shut shut false st k clear = grind arith

clear_open : (shut runs : Bool) (st : HostState) (k : ℕ) → (runs ≡ true → checks_by shut st k ≡ None)
    → (runs && not (same_host_state st Open)) ≡ false
unfolding checks_by
clear_open shut true st k clear = let none = clear refl in grind (arith, nat_tests)
clear_open shut false st k clear = grind arith

module _ (s : Sheet) (v : View) where
  abbrev shut_at : ℕ → Bool
  shut_at k = v.shut && in_state s.rows Running k

  -- where it would drop all, it declines none
  pub drops_all : ((k : ℕ) → in_state s.rows Running k ≡ true → first_fault (move_checks Open v (key_of k)) ≡ None)
      → first_fault (drop_checks s v) ≡ None
  unfolding checks_by
  drops_all clear =
      ap₂ (λ a b. first_fault (bad_at a ShutHost OfHost ∷ bad_at b OtherState OfHost ∷ []))
      (first_none (s.rows.count + 1) shut_at (λ k l. clear_shut v.shut (in_state s.rows Running k) (v.state k) k (clear k)))
      (first_none (s.rows.count + 1) (not_open s.rows v) (λ k l. clear_open v.shut (in_state s.rows Running k) (v.state k) k (clear k)))

  -- and the first that it would not is told
  module _ (n : ℕ) (f : Fault) (within : n ≤ s.rows.count) (row : is_row (key_of n) ≡ true) (runs : in_state s.rows Running n ≡ true)
      (clear : (k : ℕ) → k < n → in_state s.rows Running k ≡ true → first_fault (move_checks Open v (key_of k)) ≡ None)
      (fails : first_fault (move_checks Open v (key_of n)) ≡ Some f) where
    declined_shut : v.shut ≡ true → first_fault (drop_checks s v) ≡ Some f
    unfolding checks_by
    declined_shut shut =
        let here : shut_at n ≡ true = ap₂ ◌&&◌ shut runs in
        ap (λ a. first_fault (bad_at a ShutHost OfHost ∷ bad_at (lowest_row s.rows (not_open s.rows v)) OtherState OfHost ∷ []))
        (first_is (s.rows.count + 1) shut_at n (omega arith) here
        (λ k l. clear_shut v.shut (in_state s.rows Running k) (v.state k) k (clear k l)))
        ∙ sym (ap (λ b. checks_by b (v.state n) n) shut) ∙ fails

    declined_state : v.shut ≡ false → first_fault (drop_checks s v) ≡ Some f
    unfolding checks_by
    declined_state open_host =
        let here : not_open s.rows v n ≡ true = grind (arith, nat_tests) in
        ap₂ (λ a b. first_fault (bad_at a ShutHost OfHost ∷ bad_at b OtherState OfHost ∷ []))
        (first_none (s.rows.count + 1) shut_at (λ k l. ap (λ b. b && in_state s.rows Running k) open_host))
        (first_is (s.rows.count + 1) (not_open s.rows v) n (omega arith) here
        (λ k l. clear_open v.shut (in_state s.rows Running k) (v.state k) k (clear k l)))
        ∙ (let other : not (is_row (key_of n) && same_host_state (v.state n) Open) ≡ true = grind (arith, nat_tests) in
        sym (ap₂ (λ b t. first_fault (bad b ShutHost OfHost (place_of (key_of n)) ∷ bad t OtherState OfHost (place_of (key_of n)) ∷ [])) open_host other))
        ∙ fails

    pub declines_first : first_fault (drop_checks s v) ≡ Some f
    declines_first = elim (cases_Bool v.shut) [
      | inl t ↦ declined_shut t
      | inr t ↦ declined_state t
    ]
