-- What undos down the rows leave of them where no fault stopped them. Assumes nothing.
use Rattle.std.proofs.Common.{◌≡◌, ℕ, zero, suc, ◌<◌, ◌≤◌, Bool, true, false, cond, not, List, [], ◌∷◌, Some, None, Option, eqb, sym, refl, ap, ◌∙◌, subst, inl, inr, arith}
use Rattle.std.proofs.lemmas.Bool.{cases_Bool, eqb-true, eqb-false}
use Rattle.std.specs.Prelude.{◌==◌}
use Rattle.values.specs.Checks.{after, bad, bad_at, first_fault}
use Rattle.values.specs.Numbers.{cause_number, phase_number}
use Rattle.values.specs.declared.Cause.{Cause}
use Rattle.values.specs.declared.Cause.TheVariants.{ShortMemory, WrongPhase, OtherTicket, NoSuch, DueAfter, ShutHost, OtherState}
use Rattle.values.specs.declared.Fault.{Fault}
use Rattle.values.specs.declared.HostState.TheVariants.{Reversed}
use Rattle.values.specs.declared.Layer.{Layer}
use Rattle.values.specs.declared.Layer.TheVariants.{Sheet as OfSheet}
use Rattle.values.specs.declared.RowState.TheVariants.{Due, Undone}
use Rattle.values.specs.declared.TicketNumber.{TicketNumber}
use Rattle.host.specs.Keys.{key_of}
use Rattle.host.specs.View.{View, moved}
use Rattle.model.specs.Calls.{undo_fault, undo_checks, row_check, due_after}
use Rattle.model.specs.Rows.{marked}
use Rattle.model.specs.Sheet.{Sheet, with_rows}
use Rattle.model.proofs.Accepted.{undo_due}
use Rattle.model.proofs.Basics.{some_none, put_same, put_other, eq_same_state}
use Rattle.tickets.specs.Rollbacks.{CameTo, undone, stops, undone_down}

-- ── a fault that says that a row is not due is of a row that is not due ──

-- a check that has no such fault
abbrev Other : Option Fault → Type 0
Other None = Unit {0}
Other (Some f) = (cause_number f.cause == cause_number NoSuch) ≡ false

abbrev Others : List (Option Fault) → Type 0
Others [] = Unit {0}
Others (o ∷ os) = Other o × Others os

other_bad : (b : Bool) (c : Cause) (l : Layer) (x : ℕ) → (cause_number c == cause_number NoSuch) ≡ false → Other (bad b c l x)
other_bad true c l x h = h
other_bad false c l x h = tt

other_bad_at : (o : Option ℕ) (c : Cause) (l : Layer) → (cause_number c == cause_number NoSuch) ≡ false → Other (bad_at o c l)
other_bad_at None c l h = tt
other_bad_at (Some x) c l h = h

first_other : (os : List (Option Fault)) → Others os → Other (first_fault os)
first_other [] h = tt
first_other (None ∷ os) h = first_other os h.1
first_other (Some f ∷ os) h = h.0

module _ (s : Sheet) (v : View) (t : TicketNumber) (k column line : ℕ) where
  other_of_due : s.rows.state k ≡ Due → Other (undo_fault s v t k column line)
  other_of_due due =
      let passed : row_check s.rows Due k ≡ None = ap (λ b. bad (not b) NoSuch OfSheet k) (eq_same_state (s.rows.state k) Due due) in
      first_other (undo_checks s v t k column line) (
        other_bad _ ShortMemory OfSheet 0 refl,
        (
          other_bad _ WrongPhase OfSheet (phase_number s.phase) refl,
          (
            other_bad _ OtherTicket OfSheet s.rollback refl,
            (
              subst Other (sym passed) tt,
              (
                other_bad_at (due_after s.rows k) DueAfter OfSheet refl,
                (other_bad _ ShutHost _ _ refl, (other_bad _ OtherState _ _ refl, tt)),
              ),
            ),
          ),
        ),
      )

  no_such : (o : Option Fault) → stops o ≡ false → Other o → o ≡ None
  no_such None goes other = refl
  no_such (Some f) goes other = grind arith

  -- an undo that was passed over was of a row that was not due
  pub passed_over : {f : Fault} → undo_fault s v t k column line ≡ Some f → stops (Some f) ≡ false → s.rows.state k ≡ Due → ⊥
  passed_over {f} is goes due =
      some_none (sym is ∙ no_such (undo_fault s v t k column line) (ap stops is ∙ goes) (other_of_due due))

-- ── all rows down ──

-- each due row from n down is undone, and every other row is as it was
pub record Turned (n : ℕ) (s s' : Sheet) : Type 0 where
  pub undone : (k : ℕ) → 1 ≤ k → k ≤ n → s.rows.state k ≡ Due → s'.rows.state k ≡ Undone
  pub others : (k : ℕ) → (s.rows.state k ≡ Due → ⊥) → s'.rows.state k ≡ s.rows.state k
  pub above : (k : ℕ) → n < k → s'.rows.state k ≡ s.rows.state k

abbrev marked_one : Sheet → ℕ → Sheet
marked_one s k = with_rows s (marked s.rows k Undone)

-- one due row more
turned_due : (n : ℕ) (s s' : Sheet) → s.rows.state (suc n) ≡ Due → Turned n (marked_one s (suc n)) s' → Turned (suc n) s s'
turned_due n s s' due h = record {
  undone = λ k one low is. elim (cases_Bool (eqb k (suc n))) [
    | inl here ↦ ap s'.rows.state (eqb-true k (suc n) here) ∙ h.above (suc n) (omega arith) ∙ put_same s.rows.state (suc n) Undone
    | inr there ↦ let ne = eqb-false k (suc n) there in
        h.undone k one (omega (arith, ne, low)) (put_other s.rows.state (suc n) Undone k ne ∙ is)
  ];
  others = λ k no. let ne : k ≡ suc n → ⊥ = λ e. no (ap s.rows.state e ∙ due) in
      let same = put_other s.rows.state (suc n) Undone k ne in
      h.others k (λ is. no (sym same ∙ is)) ∙ same;
  above = λ k high. let ne : k ≡ suc n → ⊥ = λ e. omega (arith, high, e) in
      h.above k (omega (arith, high)) ∙ put_other s.rows.state (suc n) Undone k ne;
}

-- one row more that is not due
turned_other : (n : ℕ) (s s' : Sheet) → (s.rows.state (suc n) ≡ Due → ⊥) → Turned n s s' → Turned (suc n) s s'
turned_other n s s' not_due h = record {
  undone = λ k one low is. elim (cases_Bool (eqb k (suc n))) [
    | inl here ↦ absurd (not_due (ap s.rows.state (sym (eqb-true k (suc n) here)) ∙ is))
    | inr there ↦ let ne = eqb-false k (suc n) there in h.undone k one (omega (arith, ne, low)) is
  ];
  others = h.others;
  above = λ k high. h.above k (omega (arith, high));
}

module _ (t : TicketNumber) (column line : ℕ) where
  abbrev down : ℕ → Sheet → View → CameTo
  down n s v = undone_down n s v t column line

  step : (n : ℕ) (s : Sheet) (v : View) (o : CameTo) → undone s v t (suc n) column line ≡ o
      → down (suc n) s v ≡ cond (stops o.0) o (down n o.1 o.2)
  unfolding undone_down
  step n s v o is = ap (λ o. cond (stops o.0) o (down n o.1 o.2)) is

  turned_more : (n : ℕ) (s : Sheet) (v : View) → ((s1 : Sheet) (v1 : View) → (down n s1 v1).0 ≡ None → Turned n s1 (down n s1 v1).1)
      → (down (suc n) s v).0 ≡ None → Turned (suc n) s (down (suc n) s v).1
  turned_more n s v ih = go (undo_fault s v t (suc n) column line) refl
    where
      new : Sheet
      new = marked_one s (suc n)

      shown : View
      shown = moved Reversed v (key_of (suc n))

      go : (f : Option Fault) → undo_fault s v t (suc n) column line ≡ f → (down (suc n) s v).0 ≡ None
          → Turned (suc n) s (down (suc n) s v).1
      go None is none =
          let same : down (suc n) s v ≡ down n new shown =
          step n s v (None, new, shown) (λ i. (is i, after (is i) s new, after (is i) v shown)) in
          subst (λ o. Turned (suc n) s o.1) (sym same)
          (turned_due n s (down n new shown).1 (undo_due s v t (suc n) column line is) (ih new shown (ap (λ o. o.0) (sym same) ∙ none)))
      go (Some f) is none = passing (stops (Some f)) refl
        where
          same : down (suc n) s v ≡ cond (stops (Some f)) (Some f, s, v) (down n s v)
          same = step n s v (Some f, s, v) (λ i. (is i, after (is i) s new, after (is i) v shown))

          passing : (halts : Bool) → stops (Some f) ≡ halts → Turned (suc n) s (down (suc n) s v).1
          passing true so = some_none (sym (ap (λ o. o.0) (same ∙ ap (λ b. cond b (Some f, s, v) (down n s v)) so)) ∙ none)
          passing false so =
              let on = same ∙ ap (λ b. cond b (Some f, s, v) (down n s v)) so in
              subst (λ o. Turned (suc n) s o.1) (sym on)
              (turned_other n s (down n s v).1 (passed_over s v t (suc n) column line is so) (ih s v (ap (λ o. o.0) (sym on) ∙ none)))

  pub turned : (n : ℕ) (s : Sheet) (v : View) → (down n s v).0 ≡ None → Turned n s (down n s v).1
  unfolding undone_down
  turned zero s v none = record { undone = λ k one low. absurd (omega arith); others = λ k no. refl; above = λ k high. refl }
  turned (suc n) s v none = turned_more n s v (turned n) none
