-- The rows after an abort, taken back one after another. Assumes nothing.
use Rattle.std.proofs.Common.{◌≡◌, ℕ, Bool, true, false, cond, ◌&&◌, ◌||◌, eqb, Some, None, sym, refl, ap, ap₂, ◌∙◌, inl, inr, arith}
use mathlib.Core.Path.{fun_ext}
use borrow.Author.Tests.{clash}
use Rattle.std.proofs.lemmas.Bool.{cases_Bool, cases_eq, eq-eqb, ne_eqb}
use Rattle.std.proofs.lemmas.Bool.Decides.{nat_tests}
use Rattle.values.specs.declared.RowState.{RowState}
use Rattle.values.specs.declared.RowState.TheVariants.{Absent, Running, Committed, Dropped, Due, Undone, PassedOver}
use Rattle.values.specs.Numbers.{same_state}
use Rattle.graph.specs.Reach.{Least}
use Rattle.rowset.proofs.Loops.{up_to, above, up_to_next, up_to_end}
use Rattle.model.specs.Chart.{Chart}
use Rattle.model.specs.Rollback.{fallen}
use Rattle.model.specs.Rows.{Rows, in_state, idle, live, marked, with_states}
use Rattle.model.specs.Search.{at_put}
use Rattle.model.proofs.Basics.{same_state_eq}

-- two tests in one
nested : (a b : Bool) (x y : ℕ) → cond (a && b) x y ≡ cond a (cond b x y) y
nested true b x y = refl
nested false b x y = refl

-- ── a state in an abort ──

-- only of a committed row it matters whether it is struck
fallen_any : (st : RowState) (struck is_idle : Bool) → (same_state st Committed ≡ true → struck ≡ true)
    → fallen st true is_idle ≡ fallen st struck is_idle
fallen_any Absent struck is_idle h = refl
fallen_any Running struck is_idle h = refl
fallen_any Committed struck is_idle h = ap (λ b. fallen Committed b is_idle) (sym (h refl))
fallen_any Dropped struck is_idle h = refl
fallen_any Due struck is_idle h = refl
fallen_any Undone struck is_idle h = refl
fallen_any PassedOver struck is_idle h = refl

-- a row that is not struck stays, unless it runs
fallen_not : (st : RowState) (is_idle : Bool) → same_state st Running ≡ false → fallen st false is_idle ≡ st
fallen_not Absent is_idle h = refl
fallen_not Running is_idle h = absurd (clash (sym h))
fallen_not Committed is_idle h = refl
fallen_not Dropped is_idle h = refl
fallen_not Due is_idle h = refl
fallen_not Undone is_idle h = refl
fallen_not PassedOver is_idle h = refl

-- ── one row ──

-- its state written, where there is such a row
pub one_fallen : (c : Chart) (r : Rows) (row : ℕ) (to : RowState) → to ≡ fallen (r.state row) true (idle c r row)
    → cond (in_state r Absent row) r (marked r row to)
    ≡ with_states r (λ k. cond (eqb k row) (fallen (r.state k) true (idle c r k)) (r.state k))
one_fallen c r row to is = elim (cases_Bool (in_state r Absent row)) [
  | inl t ↦ ap (λ b. cond b r (marked r row to)) t ∙ ap (with_states r) (fun_ext (absent (same_state_eq _ Absent t)))
  | inr f ↦ ap (λ b. cond b r (marked r row to)) f ∙ ap (with_states r) (fun_ext there)
]
  where
    fell : ℕ → RowState
    fell k = fallen (r.state k) true (idle c r k)

    absent : r.state row ≡ Absent → (k : ℕ) → r.state k ≡ cond (eqb k row) (fell k) (r.state k)
    absent none k = elim (cases_eq k row) [
      | inl e ↦
          let state : r.state k ≡ Absent = ap r.state e ∙ none in
          state ∙ sym (ap (λ b. cond b (fell k) (r.state k)) (eq-eqb k row e) ∙ ap (λ st. fallen st true (idle c r k)) state)
      | inr ne ↦ sym (ap (λ b. cond b (fell k) (r.state k)) (ne_eqb k row ne))
    ]

    there : (k : ℕ) → cond (eqb k row) to (r.state k) ≡ cond (eqb k row) (fell k) (r.state k)
    there k = elim (cases_eq k row) [
      | inl e ↦
          let b = eq-eqb k row e in
          ap (λ x. cond x to (r.state k)) b ∙ is ∙ ap fell (sym e) ∙ sym (ap (λ x. cond x (fell k) (r.state k)) b)
      | inr ne ↦
          let b = ne_eqb k row ne in ap (λ x. cond x to (r.state k)) b ∙ sym (ap (λ x. cond x (fell k) (r.state k)) b)
    ]

-- its rollback written, where it is live
pub live_rolled : (st : ℕ → RowState) (rolled : ℕ → ℕ) (row number : ℕ) → live (st row) ≡ true
    → at_put rolled row number ≡ (λ k. cond (eqb k row && live (st k)) number (rolled k))
live_rolled st rolled row number is = fun_ext (λ k. ap (λ b. cond b number (rolled k)) (elim (cases_eq k row) [
  | inl e ↦ let at = eq-eqb k row e in let there : live (st k) ≡ true = ap (λ j. live (st j)) e ∙ is in grind arith
  | inr ne ↦ let at = ne_eqb k row ne in grind arith
]))

-- ── all of them ──

abbrev pub struck_rows : Rows → (ℕ → Bool) → ℕ → Bool
struck_rows r struck k = in_state r Committed k && struck k

abbrev pub fallen_states : Chart → Rows → (ℕ → Bool) → ℕ → RowState
fallen_states c r struck k = fallen (r.state k) (struck_rows r struck k) (idle c r k)

abbrev pub fallen_rolled : Rows → (ℕ → Bool) → ℕ → (ℕ → ℕ) → ℕ → ℕ
fallen_rolled r struck number rolled k = cond (in_state r Running k || struck_rows r struck k) number (rolled k)

module _ (c : Chart) (r : Rows) (struck : ℕ → Bool) (number : ℕ) (rolled : ℕ → ℕ) (falling : ℕ → Bool)
    (are : (k : ℕ) → falling k ≡ (in_state r Running k || struck k)) where
  abbrev taken : ℕ → Bool
  taken = struck_rows r struck

  abbrev states_after : ℕ → RowState
  states_after = fallen_states c r struck

  abbrev rolled_after : ℕ → ℕ
  rolled_after = fallen_rolled r struck number rolled

  -- no others change
  state_stays : (k : ℕ) → falling k ≡ false → states_after k ≡ r.state k
  state_stays k out =
      let not_struck : taken k ≡ false = let is = are k in grind arith in
      let not_running : in_state r Running k ≡ false = let is = are k in grind arith in
      ap (λ b. fallen (r.state k) b (idle c r k)) not_struck ∙ fallen_not (r.state k) (idle c r k) not_running

  rolled_stays : (k : ℕ) → falling k ≡ false → rolled_after k ≡ rolled k
  rolled_stays k out =
      let stays : (in_state r Running k || taken k) ≡ false = let is = are k in grind arith in
      ap (λ b. cond b number (rolled k)) stays

  -- one that falls is struck if it is committed
  struck_if : (k : ℕ) → falling k ≡ true → in_state r Committed k ≡ true → taken k ≡ true
  struck_if k falls committed = let is = are k in grind (arith, nat_tests)

  module _ (last t : ℕ) (next : Least (λ k. falling k ≡ true) last (Some t)) where
    -- the states up to the last row
    abbrev now : ℕ → RowState
    now = up_to states_after r.state last

    pub states_more : (λ k. cond (eqb k t) (fallen (now k) true (idle c r k)) (now k)) ≡ up_to states_after r.state t
    states_more =
        fun_ext (up_to_next states_after r.state falling state_stays next (λ k. fallen (now k) true (idle c r k))
        (ap (λ st. fallen st true (idle c r t)) (above states_after r.state last t next.0)
        ∙ fallen_any (r.state t) (taken t) (idle c r t) (struck_if t next.1)))

    -- it is dropped or struck exactly if it is live
    live_falls : live (r.state t) ≡ (in_state r Running t || taken t)
    live_falls = elim (cases_Bool (in_state r Committed t)) [
      | inl committed ↦ let is = struck_if t next.1 committed in grind arith
      | inr other ↦ grind arith
    ]

    abbrev rolled_now : ℕ → ℕ
    rolled_now = up_to rolled_after rolled last

    pub rolled_more : (λ k. cond (eqb k t && live (now k)) number (rolled_now k)) ≡ up_to rolled_after rolled t
    rolled_more =
        fun_ext (λ k. nested (eqb k t) (live (now k)) number (rolled_now k)
        ∙ up_to_next rolled_after rolled falling rolled_stays next (λ j. cond (live (now j)) number (rolled_now j)) here k)
      where
        here : cond (live (now t)) number (rolled_now t) ≡ rolled_after t
        here =
            ap₂ (λ st n. cond (live st) number n) (above states_after r.state last t next.0)
            (above rolled_after rolled last t next.0)
            ∙ ap (λ b. cond b number (rolled t)) live_falls

  module _ (last : ℕ) (past : Least (λ k. falling k ≡ true) last None) where
    pub states_all : up_to states_after r.state last ≡ states_after
    states_all = fun_ext (up_to_end states_after r.state falling state_stays past)

    pub rolled_all : up_to rolled_after rolled last ≡ rolled_after
    rolled_all = fun_ext (up_to_end rolled_after rolled falling rolled_stays past)
