-- What a reply shows of each step, set in its bytes one after another, and the whole reply. Assumes nothing.
use Rattle.std.proofs.Common.{◌≡◌, ℕ, zero, suc, ◌+◌, ◌-◌, ◌<◌, ◌≤◌, ◌≢◌, ◌*◌, ◌^◌, Bool, true, false, cond, ◌&&◌, eqb, ltb, List, [], ◌∷◌, ◌++◌, length, get_or, take, drop, replicate, set, Some, None, Ok, Err, sym, refl, ap, ◌∙◌, ap₂, inl, inr, add-one, arith}
use Rattle.std.proofs.lemmas.Bool.{cases_Bool, cases_eq, cases_lt, cond-false, cond-true, eq-eqb, ne_eqb}
use Rattle.std.proofs.lemmas.Bool.Decides.{nat_tests}
use Rattle.std.proofs.lemmas.List.{set_at, set-append_left, take-append-drop, drop_all, drop-drop, take_rest, length-drop, append-nil}
use Rattle.values.specs.Checks.{answer, after}
use Rattle.values.specs.Numbers.{phase_number, row_state_number}
use Rattle.values.specs.declared.Cause.TheVariants.{ShortMemory}
use Rattle.values.specs.declared.Fault.{Fault}
use Rattle.values.specs.declared.Layer.TheVariants.{Sheet as OfSheet}
use Rattle.process.specs.Bits.{total, pack, unpack, Fit}
use Rattle.process.proofs.Packing.{repacked}
use Rattle.model.specs.Calls.{reply_fault}
use Rattle.model.specs.Chart.{no_step, step_at}
use Rattle.model.specs.Report.{highest_below, shown, reply_widths, reply_bytes, reply_of}
use Rattle.model.specs.Rows.{Rows}
use Rattle.model.specs.Run.{over, written_at}
use Rattle.model.proofs.Replying.{column, length_column}
use Rattle.rows.specs.Highest.{has_higher, is_highest}
use Rattle.rows.proofs.Below.{any_below_none}
use Rattle.rows.proofs.Numbered.{past}
use Rattle.sheet.specs.declared.sheets.Sheet.{Sheet}
use Rattle.sheet.specs.Fields.{SetsStep, Shows, ShowsNow, StandsFirst, fields_with, highest_step, shown_below}
use Rattle.sheet.specs.Reports.{Replies}
use Rattle.sheet.specs.SheetOf.{sheet_of, chart_of}
use Rattle.graph.specs.Reach.{Least}
use Rattle.rowset.proofs.Loops.{to_next, to_end}

-- ── a value for each number below n ──

column_same : (n : ℕ) (f g : ℕ → ℕ) → ((i : ℕ) → i < n → f i ≡ g i) → column n f ≡ column n g
column_same zero f g h = refl
column_same (suc n) f g h =
    ap₂ (λ xs x. xs ++ x ∷ []) (column_same n f g (λ i l. h i (omega arith))) (h n (omega arith))

column_set : (n : ℕ) (f g : ℕ → ℕ) (i v : ℕ) → i < n → g i ≡ v → ((j : ℕ) → j ≢ i → f j ≡ g j)
    → set (column n f) i v ≡ column n g
column_set zero f g i v l at other = absurd (omega arith)
column_set (suc n) f g i v l at other =
    elim (cases_eq i n) [
      | inl e ↦ set_at (column n f) (f n) [] v i (length_column n f ∙ sym e)
          ∙ ap₂ (λ xs x. xs ++ x ∷ []) (column_same n f g (λ j m. other j (omega arith))) (sym at ∙ ap g e)
      | inr e ↦ set-append_left (column n f) (f n ∷ []) i v (omega (arith, length_column n f))
          ∙ ap₂ (λ xs x. xs ++ x ∷ []) (column_set n f g i v (omega arith) at other) (other n (omega arith))
    ]

-- ── the fields of the steps ──

-- only what is shown of steps 1 to 64 matters
shows_same : (x : Sheet) (f g : ℕ → ℕ) (bytes : List ℕ) → ((k : ℕ) → 1 ≤ k → k ≤ 64 → f k ≡ g k) → Shows x f bytes → Shows x g bytes
unfolding fields_with
shows_same x f g bytes h shows =
    shows ∙ ap (λ xs. 1 ∷ phase_number x.phase ∷ (length (chart_of x).0 - 1) ∷ x.rollback ∷ (xs ++ 0 ∷ []))
    (column_same 64 (λ i. f (i + 1)) (λ i. g (i + 1)) (λ i l. h (i + 1) (omega arith) (omega arith)))

-- one step's field is set
shows_step : (x : Sheet) (f g : ℕ → ℕ) (k v : ℕ) (before after : List ℕ) → 1 ≤ k → k ≤ 64 → g k ≡ v
    → ((j : ℕ) → j ≢ k → f j ≡ g j) → Shows x f before → SetsStep k v before after → Shows x g after
unfolding fields_with
shows_step x f g k v before after low high at other shows s =
    let i = k - 1 in
    let place : k + 3 ≡ suc (suc (suc (suc i))) = omega arith in
    let step : i + 1 ≡ k = omega arith in
    let fields = column 64 (λ j. f (j + 1)) in
    let inside : i < length fields = omega (arith, length_column 64 (λ j. f (j + 1))) in
    s.fields ∙ ap₂ (λ xs n. set xs n v) shows place
    ∙ ap (λ xs. 1 ∷ phase_number x.phase ∷ (length (chart_of x).0 - 1) ∷ x.rollback ∷ xs)
    (set-append_left fields (0 ∷ []) i v inside
    ∙ ap (λ xs. xs ++ 0 ∷ []) (column_set 64 (λ j. f (j + 1)) (λ j. g (j + 1)) i v (omega arith) (ap g step ∙ at)
    (λ j n. other (j + 1) (omega arith))))

-- ── the highest rows ──

pub step_of_highest : (r : Rows) (n : ℕ) → is_highest r n ≡ true → highest_step r n ≡ r.step n
unfolding highest_step
step_of_highest r n is = cond-true _ _ _ is

step_of_other : (r : Rows) (n : ℕ) → is_highest r n ≡ false → highest_step r n ≡ 0
unfolding highest_step
step_of_other r n is = cond-false _ _ _ is

-- ── private steps ──

-- what is shown once the private steps below n are written
abbrev pub hidden_below : Sheet → ℕ → ℕ → ℕ
hidden_below x n k = cond (ltb k n && (step_at (chart_of x) k).private) 7 0

pub none_hidden : (x : Sheet) (bytes : List ℕ) → Shows x (λ _. 0) bytes → Shows x (hidden_below x 1) bytes
none_hidden x bytes = shows_same x (λ _. 0) (hidden_below x 1) bytes (λ k l h. grind (arith, nat_tests))

-- past the last step none is private
past_public : (x : Sheet) (k : ℕ) → length (chart_of x).0 < k → (step_at (chart_of x) k).private ≡ false
past_public x k past_end =
    ap (λ s. s.private) (sym (past no_step (chart_of x).0 k (inr past_end)))

pub all_hidden : (x : Sheet) (n : ℕ) (bytes : List ℕ) → length (chart_of x).0 < n
    → Shows x (hidden_below x n) bytes → Shows x (shown_below x 1) bytes
all_hidden x n bytes end = shows_same x (hidden_below x n) (shown_below x 1) bytes (λ k l h.
    let none = step_of_other (sheet_of x).rows 0 refl in
    elim (cases_lt k n) [
      | inl low ↦ grind (arith, nat_tests)
      | inr high ↦ let public = past_public x k (omega arith) in grind (arith, nat_tests)
    ])

pub one_hidden : (x : Sheet) (n : ℕ) (before after : List ℕ) → 1 ≤ n → n ≤ 64 → true ≡ (step_at (chart_of x) n).private
    → Shows x (hidden_below x n) before → SetsStep n 7 before after → Shows x (hidden_below x (n + 1)) after
one_hidden x n before after low high hides =
    shows_step x (hidden_below x n) (hidden_below x (n + 1)) n 7 before after low high
    (grind (arith, nat_tests)) (λ j ne. grind (arith, nat_tests))

pub one_public : (x : Sheet) (n : ℕ) (bytes : List ℕ) → false ≡ (step_at (chart_of x) n).private
    → Shows x (hidden_below x n) bytes → Shows x (hidden_below x (n + 1)) bytes
one_public x n bytes public = shows_same x (hidden_below x n) (hidden_below x (n + 1)) bytes (λ k l h. grind (arith, nat_tests))

-- ── rows ──

pub row_shown : (x : Sheet) (n k v : ℕ) (before after : List ℕ) → 1 ≤ k → k ≤ 64 → k ≡ highest_step (sheet_of x).rows n
    → false ≡ (step_at (chart_of x) k).private → v ≡ row_state_number ((sheet_of x).rows.state n)
    → Shows x (shown_below x n) before → SetsStep k v before after → Shows x (shown_below x (n + 1)) after
row_shown x n k v before after low high of public is =
    shows_step x (shown_below x n) (shown_below x (n + 1)) k v before after low high
    (rw add-one (grind (arith, nat_tests))) (λ j ne. rw add-one (grind (arith, nat_tests)))

pub row_hidden : (x : Sheet) (n k : ℕ) (bytes : List ℕ) → k ≡ highest_step (sheet_of x).rows n
    → (1 ≤ k → k ≤ 64 → true ≡ (step_at (chart_of x) k).private)
    → Shows x (shown_below x n) bytes → Shows x (shown_below x (n + 1)) bytes
row_hidden x n k bytes of hides =
    shows_same x (shown_below x n) (shown_below x (n + 1)) bytes (λ j l h. rw add-one (grind (arith, nat_tests)))

-- a row that is not the highest of its step shows nothing
still_shown : (x : Sheet) (k n : ℕ) → 1 ≤ k → is_highest (sheet_of x).rows n ≡ false → shown_below x (suc n) k ≡ shown_below x n k
still_shown x k n low other = let none = step_of_other (sheet_of x).rows n other in grind (arith, nat_tests)

-- a row is the highest of its step if no row above it is of that step
highest_if : (r : Rows) (n : ℕ) → 1 ≤ n → n < r.count + 1
    → ((j : ℕ) → n < j → j < r.count + 1 → r.step j ≡ r.step n → ⊥) → is_highest r n ≡ true
highest_if r n low within none =
    let alone : has_higher r.step (r.count + 1) n ≡ false = any_below_none (r.count + 1) _ lower in
    grind (arith, nat_tests)
  where
    lower : (j : ℕ) → j < r.count + 1 → (ltb n j && eqb (r.step j) (r.step n)) ≡ false
    lower j l = elim (cases_lt n j) [
      | inl above ↦ let ne = none j above l in grind (arith, nat_tests)
      | inr below ↦ grind (arith, nat_tests)
    ]

not_shown : (r : Rows) (n k : ℕ) → 1 ≤ k → (r.step n ≡ k → ⊥) → eqb (highest_step r n) k ≡ false
not_shown r n k low ne = ne_eqb (highest_step r n) k (λ e. elim (cases_Bool (is_highest r n)) [
  | inl is ↦ ne (sym (step_of_highest r n is) ∙ e)
  | inr other ↦ let zero_step = step_of_other r n other in omega arith
])

-- the highest row of step k is that among the highest rows, if no row from n on is of step k
among_highest : (r : Rows) (k : ℕ) → r.step 0 ≡ 0 → 1 ≤ k → (n : ℕ) → n ≤ r.count + 1
    → ((j : ℕ) → n ≤ j → j < r.count + 1 → r.step j ≡ k → ⊥)
    → highest_below (highest_step r) r.state k n ≡ highest_below r.step r.state k n
among_highest r k first low zero within none = refl
among_highest r k first low (suc n) within none = elim (cases_eq (r.step n) k) [
  | inl e ↦
      let number : 1 ≤ n = elim (cases_eq n 0) [
        | inl z ↦ let at = ap r.step z in omega arith
        | inr some ↦ omega arith
      ] in
      let is = highest_if r n number (omega arith) (λ j l h at. none j (omega arith) h (at ∙ e)) in
      let same = eq-eqb (r.step n) k e in
      cond-true _ _ _ (ap (λ s. eqb s k) (step_of_highest r n is) ∙ same) ∙ sym (cond-true _ _ _ same)
  | inr ne ↦
      let rest = among_highest r k first low n (omega arith) (λ j l h. elim (cases_eq j n) [
        | inl e ↦ λ at. ne (sym (ap r.step e) ∙ at)
        | inr above ↦ none j (omega arith) h
      ]) in
      let other = ne_eqb (r.step n) k ne in
      cond-false _ _ _ (not_shown r n k low ne) ∙ rest ∙ sym (cond-false _ _ _ other)
]

module _ (x : Sheet) (member : ℕ → Bool) (are : (k : ℕ) → member k ≡ is_highest (sheet_of x).rows k) {last : ℕ} where
  -- up to the next highest row
  pub shown_to : {row : ℕ} (bytes : List ℕ) → Least (λ j. member j ≡ true) last (Some row)
      → Shows x (shown_below x (last + 1)) bytes → Shows x (shown_below x row) bytes
  shown_to {row} bytes next = shows_same x (shown_below x (last + 1)) (shown_below x row) bytes (λ k l h.
      sym (to_next (λ n. shown_below x n k) member (λ n out. still_shown x k n l (sym (are n) ∙ out)) next))

  -- after the last one
  pub rows_shown : (bytes : List ℕ) → last < (sheet_of x).rows.count + 1 → Least (λ j. member j ≡ true) last None
      → Shows x (shown_below x (last + 1)) bytes → Shows x (shown (chart_of x) (sheet_of x)) bytes
  rows_shown bytes within none =
      let r = (sheet_of x).rows in
      shows_same x (shown_below x (last + 1)) (shown (chart_of x) (sheet_of x)) bytes (λ k l h.
      sym (to_end (λ n. shown_below x n k) member (λ n out. still_shown x k n l (sym (are n) ∙ out)) (r.count + 1) within none)
      ∙ ap (cond (step_at (chart_of x) k).private 7)
      (among_highest r k refl l (r.count + 1) (omega arith) (λ j m u. absurd (omega arith))))

-- ── the whole reply ──

fit_bytes : (n : ℕ) (xs : List ℕ) → n ≤ length xs → ((i : ℕ) → get_or xs i 0 < 256) → Fit (replicate n 8) (take n xs)
fit_bytes zero xs l h = tt
fit_bytes (suc n) [] l h = absurd (omega arith)
fit_bytes (suc n) (x ∷ xs) l h = (h 0, fit_bytes n xs (omega arith) (λ i. h (suc i)))

pack_take : (ws xs : List ℕ) → pack ws (take (length ws) xs) ≡ pack ws xs
pack_take [] xs = refl
pack_take (w ∷ ws) [] = refl
pack_take (w ∷ ws) (x ∷ xs) = ap (λ k. x * 2 ^ total ws + k) (pack_take ws xs)

-- 32 bytes that have the fields of a reply are that reply
pub stands_first : (x : Sheet) (before after : List ℕ) → 32 ≤ length after → ((i : ℕ) → get_or after i 0 < 256)
    → ShowsNow x (shown (chart_of x) (sheet_of x)) before after → StandsFirst x before after
unfolding fields_with
stands_first x before after long small shows =
    let front : take 32 after ≡ reply_of (chart_of x) (sheet_of x) =
    sym (repacked reply_widths reply_bytes (take 32 after) refl (fit_bytes 32 after long small))
    ∙ ap (λ n. unpack reply_bytes (pack reply_widths (unpack reply_widths n))) (pack_take reply_bytes after)
    ∙ ap (λ vs. unpack reply_bytes (pack reply_widths vs)) shows.reply in
    record { bytes = sym (take-append-drop 32 after) ∙ ap₂ (λ (xs ys : List ℕ). xs ++ ys) front shows.rest }

-- ── at a place of a buffer ──

-- too few bytes lie from the place on
pub too_short : (x : Sheet) (place : ℕ) (buffer : List ℕ) (f : Fault) → length buffer < place + 32
    → f ≡ record { cause = ShortMemory; layer = OfSheet; place = 0 }
    → Replies (chart_of x) (sheet_of x) place buffer (Err f) buffer
too_short x place buffer f short is =
    let e : reply_fault place (length buffer) ≡ Some f = grind (arith, nat_tests) in
    record {
      answers = sym (ap (λ o. answer o tt) e);
      bytes = sym (ap (λ o. after o buffer (written_at place (reply_of (chart_of x) (sheet_of x)) buffer)) e);
    }

-- the reply stands first in what lies from the place on
pub written : (x : Sheet) (place : ℕ) (buffer part : List ℕ) → place + 32 ≤ length buffer
    → StandsFirst x (take (length buffer - place) (drop place buffer)) part
    → Replies (chart_of x) (sheet_of x) place buffer (Ok tt)
    (take place buffer ++ (part ++ drop (length buffer - place) (drop place buffer)))
written x place buffer part long first =
    let xs = reply_of (chart_of x) (sheet_of x) in
    let e : reply_fault place (length buffer) ≡ None = grind (arith, nat_tests) in
    let none : part ++ drop (length buffer - place) (drop place buffer) ≡ part =
    ap (λ ys. part ++ ys) (drop_all (length buffer - place) (drop place buffer) (omega (arith, length-drop place buffer)))
    ∙ append-nil part in
    record {
      answers = sym (ap (λ o. answer o tt) e);
      bytes = ap (λ ys. take place buffer ++ ys) (none ∙ first.bytes ∙ ap (over xs) (take_rest buffer place)
          ∙ ap (λ ys. xs ++ ys) (drop-drop (length xs) place buffer))
          ∙ sym (ap (λ o. after o buffer (written_at place xs buffer)) e);
    }
