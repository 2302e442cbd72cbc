-- The bytes of a reply have the fields that it was made of, and each step's field tells the state of its highest row.
-- Assumes nothing.
use Rattle.std.proofs.Common.{◌≡◌, ℕ, zero, suc, ◌+◌, ◌^◌, ◌<◌, ◌≤◌, false, eqb, List, [], ◌∷◌, ◌++◌, length, get_or, replicate, sym, refl, ap, ◌∙◌, subst, inl, inr, add-one, arith}
use lib.ListN.{length-replicate}
use Rattle.std.proofs.lemmas.Nat.{pow_pos}
use Rattle.std.proofs.lemmas.List.{length_push, get_or_append_left, get_or_at, replicate_more}
use Rattle.std.proofs.lemmas.Bool.{both_ways, eqb-true, eqb-false, cases_eq, cases_Bool, cond-true, cond-false, cond_both}
use Rattle.values.specs.Numbers.{phase_number, row_state_number, same_state}
use Rattle.values.specs.declared.Phase.{Phase}
use Rattle.values.specs.declared.RowState.{RowState}
use Rattle.values.specs.declared.RowState.TheVariants.{Absent}
use Rattle.process.specs.Bits.{pack, Fit}
use Rattle.process.proofs.Packing.{length_unpack, unpack_fit, repacked}
use Rattle.model.specs.Search.{each_below}
use Rattle.model.specs.Chart.{Chart, step_at}
use Rattle.model.specs.Rows.{Rows}
use Rattle.model.specs.Sheet.{Sheet}
use Rattle.model.specs.Report.{highest_below, shown, reply_widths, reply_fields, reply_bytes, reply_of}
use Rattle.model.specs.Replies.{fields_of, Tells, private_step, no_row, highest_row, ReplyTells}
use Rattle.model.specs.Sheets.{Orderly}
use Rattle.model.proofs.Basics.{same_state_eq, eq_same_state}

-- ── fields that fit ──

-- each of the values for n equal widths
fit_each_below : (n w : ℕ) (vs : List ℕ) → Fit (replicate n w) vs → (i : ℕ) → get_or vs i 0 < 2 ^ w
fit_each_below zero w [] f i = pow_pos w
fit_each_below zero w (v ∷ vs) f i = absurd f
fit_each_below (suc n) w [] f i = absurd f
fit_each_below (suc n) w (v ∷ vs) f zero = f.0
fit_each_below (suc n) w (v ∷ vs) f (suc i) = fit_each_below n w vs f.1 i

fit_append : (ws us vs xs : List ℕ) → Fit ws vs → Fit us xs → Fit (ws ++ us) (vs ++ xs)
fit_append [] us [] xs f g = g
fit_append [] us (v ∷ vs) xs f g = absurd f
fit_append (w ∷ ws) us [] xs f g = absurd f
fit_append (w ∷ ws) us (v ∷ vs) xs f g = (f.0, fit_append ws us vs xs f.1 g)

-- ── a value for each number below n ──

abbrev pub column : ℕ → (ℕ → ℕ) → List ℕ
column n f = each_below n (λ i. f i ∷ [])

pub length_column : (n : ℕ) (f : ℕ → ℕ) → length (column n f) ≡ n
length_column zero f = refl
length_column (suc n) f = let l = length_column n f in length_push (column n f) (f n) ∙ omega arith

get_or_column : (n : ℕ) (f : ℕ → ℕ) (i : ℕ) → i < n → get_or (column n f) i 0 ≡ f i
get_or_column zero f i h = absurd (omega arith)
get_or_column (suc n) f i h =
    elim (cases_eq i n) [
      | inl e ↦ get_or_at (column n f) (f n) [] 0 i (length_column n f ∙ sym e) ∙ ap f (sym e)
      | inr e ↦
          let l = length_column n f in
          get_or_append_left (column n f) (f n ∷ []) 0 i (omega arith) ∙ get_or_column n f i (omega arith)
    ]

fit_column : (n w : ℕ) (f : ℕ → ℕ) → ((i : ℕ) → f i < 2 ^ w) → Fit (replicate n w) (column n f)
fit_column zero w f h = tt
fit_column (suc n) w f h =
    let both = fit_append (replicate n w) (w ∷ []) (column n f) (f n ∷ []) (fit_column n w f h) (h n, tt) in
    subst (λ ws. Fit ws (column (suc n) f)) (replicate_more n w ∙ ap (λ m. replicate m w) (add-one n)) both

-- ── the field of one step ──

-- where no row from n on is of step k, the rows below n tell what all rows tell
tells_below : (c : Chart) (r : Rows) (k : ℕ) → (step_at c k).private ≡ false → r.state 0 ≡ Absent → (n : ℕ)
    → n ≤ r.count + 1 → ((i : ℕ) → n ≤ i → i ≤ r.count → r.step i ≡ k → ⊥)
    → Tells c r k (highest_below r.step r.state k n)
tells_below c r k p a zero h none = no_row p (λ j l m. none j (omega arith) m)
tells_below c r k p a (suc n) h none =
    elim (cases_Bool (eqb (r.step n) k)) [
      | inl e ↦ subst (Tells c r k) (sym (cond-true _ _ _ e)) (here n h none (eqb-true _ _ e))
      | inr e ↦ subst (Tells c r k) (sym (cond-false _ _ _ e))
          (tells_below c r k p a n (omega arith) (below n none (eqb-false _ _ e)))
    ]
  where
    -- row n is the highest of step k; number 0 is no row
    here : (n : ℕ) → suc n ≤ r.count + 1 → ((i : ℕ) → suc n ≤ i → i ≤ r.count → r.step i ≡ k → ⊥) → r.step n ≡ k
        → Tells c r k (row_state_number (r.state n))
    here zero h none e = subst (λ st. Tells c r k (row_state_number st)) (sym a) (no_row p none)
    here (suc n) h none e = highest_row p (omega arith) (omega arith) e none

    below : (n : ℕ) → ((i : ℕ) → suc n ≤ i → i ≤ r.count → r.step i ≡ k → ⊥) → (r.step n ≡ k → ⊥)
        → (i : ℕ) → n ≤ i → i ≤ r.count → r.step i ≡ k → ⊥
    below n none e i l m q =
        elim (cases_eq i n) [ inl z ↦ e (sym (ap r.step z) ∙ q) | inr z ↦ none i (omega arith) m q ]

-- number 0 is no row
no_row_0 : (s : Sheet) → Orderly s → s.rows.state 0 ≡ Absent
no_row_0 s o =
    elim (cases_Bool (same_state (s.rows.state 0) Absent)) [
      | inl e ↦ same_state_eq (s.rows.state 0) Absent e
      | inr e ↦
          let row = o.inside 0 (λ a. both_ways _ e (eq_same_state (s.rows.state 0) Absent a)) in
          absurd (omega arith)
    ]

tells_shown : (c : Chart) (s : Sheet) → Orderly s → (k : ℕ) → Tells c s.rows k (shown c s k)
tells_shown c s o k =
    let r = s.rows in
    elim (cases_Bool (step_at c k).private) [
      | inl e ↦ subst (Tells c r k) (sym (cond-true _ _ _ e)) (private_step e)
      | inr e ↦ subst (Tells c r k) (sym (cond-false _ _ _ e))
          (tells_below c r k e (no_row_0 s o) (r.count + 1) (omega arith) (λ i l m. absurd (omega arith)))
    ]

state_small : (st : RowState) → row_state_number st < 8
state_small st = grind arith

highest_small : (steps : ℕ → ℕ) (states : ℕ → RowState) (k n : ℕ) → highest_below steps states k n < 8
highest_small steps states k zero = omega arith
highest_small steps states k (suc n) =
    cond_both (eqb (steps n) k) _ _ (λ x. x < 8) (λ _. state_small (states n)) (λ _. highest_small steps states k n)

shown_small : (c : Chart) (s : Sheet) (k : ℕ) → shown c s k < 8
shown_small c s k =
    cond_both (step_at c k).private _ _ (λ x. x < 8) (λ _. omega arith) (λ _. highest_small _ _ k (s.rows.count + 1))

-- ── the reply ──

-- the fields of steps 1 to 64
abbrev step_fields : Chart → Sheet → List ℕ
step_fields c s = column 64 (λ i. shown c s (i + 1))

pub phase_small : (p : Phase) → phase_number p < 4
phase_small p = grind arith

fields_fit : (c : Chart) (s : Sheet) → Orderly s → length c.0 ≤ 64 → Fit reply_widths (reply_fields c s)
fields_fit c s o l =
    let shown_fit = fit_column 64 3 (λ i. shown c s (i + 1)) (λ i. shown_small c s (i + 1)) in
    let last_Fit = fit_append (replicate 64 3) (32 ∷ []) (step_fields c s) (0 ∷ []) shown_fit (omega arith, tt) in
    (omega arith, (phase_small s.phase, (omega arith, (omega arith, last_Fit))))

-- the bytes have the fields that were packed
fields_back : (c : Chart) (s : Sheet) → Orderly s → length c.0 ≤ 64 → fields_of (reply_of c s) ≡ reply_fields c s
fields_back c s o l = repacked reply_bytes reply_widths (reply_fields c s) refl (fields_fit c s o l)

-- the fields of the steps stand behind the first four
field_at : (c : Chart) (s : Sheet) (k : ℕ) → 1 ≤ k → k ≤ 64 → get_or (reply_fields c s) (k + 3) 0 ≡ shown c s k
field_at c s zero low high = absurd (omega arith)
field_at c s (suc j) low high =
    let place : suc j + 3 ≡ suc (suc (suc (suc j))) = omega arith in
    let inside : j < length (step_fields c s) = omega (arith, length_column 64 (λ i. shown c s (i + 1))) in
    ap (λ n. get_or (reply_fields c s) n 0) place ∙ get_or_append_left (step_fields c s) (0 ∷ []) 0 j inside
    ∙ get_or_column 64 (λ i. shown c s (i + 1)) j (omega arith) ∙ ap (shown c s) (omega arith)

pub reply_tells : (c : Chart) (s : Sheet) → Orderly s → length c.0 ≤ 64 → ReplyTells c s
reply_tells c s o l = record {
  size = length_unpack reply_bytes (pack reply_widths (reply_fields c s)) ∙ length-replicate {A = ℕ} 32 8;
  bytes = fit_each_below 32 8 (reply_of c s) (unpack_fit reply_bytes _);
  form = at 0;
  phase = at 1;
  steps = at 2;
  rollback = at 3;
  field = λ k low high. subst (Tells c s.rows k) (sym (at (k + 3) ∙ field_at c s k low high)) (tells_shown c s o k);
  zeros = at 68;
}
  where
    at : (i : ℕ) → get_or (fields_of (reply_of c s)) i 0 ≡ get_or (reply_fields c s) i 0
    at i = ap (λ vs. get_or vs i 0) (fields_back c s o l)
