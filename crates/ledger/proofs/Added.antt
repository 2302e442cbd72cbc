-- One line more in a ledger. Assumes nothing.
use Rattle.std.proofs.Common.{◌≡◌, ℕ, ◌+◌, ◌*◌, ◌/◌, ◌<◌, ◌≤◌, true, false, cond, List, [], ◌∷◌, ◌++◌, ℤ, pos, ◌+ℤ◌, ◌≤ℤ◌, is_some, Some, None, Option, refl, ap, ◌∙◌, arith}
use Rattle.std.proofs.lemmas.List.Sums.{fold_push, sum_by_push}
use Rattle.std.proofs.lemmas.Bool.Decides.{nat_tests}
use Rattle.std.proofs.lemmas.Int.{ints}
use Rattle.values.specs.Numbers.{same_host_state}
use Rattle.values.specs.declared.HostState.TheVariants.{Standing}
use Rattle.host.specs.Keys.{RowKey, same_row, is_row, rows_most}
use Rattle.host.specs.Known.{known_row, known_by}
use Rattle.ledger.specs.declared.lines.Mark.{Mark}
use Rattle.ledger.specs.declared.lines.Mark.TheVariants.{Hold, Post, Contra, Release}
use Rattle.ledger.specs.declared.lines.Line.{Line}
use Rattle.ledger.specs.Lines.{last_of, state_at, state_by, entry_by, is_hold, begun_in, kept_by, may_follow, Follows, lines_due}
use Rattle.ledger.specs.Fees.{number_of, marked, worth, posted, sum_rows, standing_number, standing_sum, reserved}
use Rattle.ledger.proofs.Sums.{sum_put, sum_low}

-- a line is the last of its row, and of no other
pub last_push : (xs : List Line) (l : Line) (n : RowKey)
    → last_of (xs ++ l ∷ []) n ≡ cond (same_row l.row n) (Some l) (last_of xs n)
last_push xs l n = fold_push (λ found l. cond (same_row l.row n) (Some l) found) None xs l

pub begun_push : (xs : List Line) (l : Line) → begun_in (xs ++ l ∷ []) ≡ begun_in xs + cond (is_hold l.mark) 1 0
begun_push xs l = sum_by_push (λ x. cond (is_hold x.mark) 1 0) xs l

-- what is no row has no line
pub rows_push : (xs : List Line) (l : Line) → is_row l.row ≡ true
    → ((n : RowKey) → is_row n ≡ false → is_some (last_of xs n) ≡ false)
    → (n : RowKey) → is_row n ≡ false → is_some (last_of (xs ++ l ∷ []) n) ≡ false
rows_push xs l i old n o =
    let other : same_row l.row n ≡ false = grind (arith, nat_tests) in
    ap is_some (last_push xs l n ∙ ap (λ b. cond b (Some l) (last_of xs n)) other) ∙ old n o

-- a sum over what the rows' last lines are worth changes by the line's own row
sum_push : (F : Option Line → ℤ) (xs : List Line) (l : Line) → is_row l.row ≡ true
    → sum_rows rows_most (λ n. F (last_of (xs ++ l ∷ []) n)) +ℤ F (last_of xs l.row)
    ≡ sum_rows rows_most (λ n. F (last_of xs n)) +ℤ F (Some l)
sum_push F xs l i =
    let low : 0 < l.row = grind (arith, nat_tests) in
    let high : l.row ≤ rows_most = grind (arith, nat_tests) in
    let here : last_of (xs ++ l ∷ []) l.row ≡ Some l = let p = last_push xs l l.row in grind (arith, nat_tests) in
    let others : (k : RowKey) → (k ≡ l.row → ⊥) → F (last_of (xs ++ l ∷ []) k) ≡ F (last_of xs k) =
    λ k ne. ap F (let p = last_push xs l k in grind (arith, nat_tests)) in
    sum_put (λ n. F (last_of xs n)) (λ n. F (last_of (xs ++ l ∷ []) n)) l.row others rows_most low high
    ∙ ap (λ o. sum_rows rows_most (λ n. F (last_of xs n)) +ℤ F o) here

-- what a line adds to the standing fees is what it adds to the balance
fee_follows : (p m : Mark) (n : ℤ) → may_follow p m ≡ true
    → cond (same_host_state (state_at m) Standing) n (pos 0) ≡ cond (same_host_state (state_at p) Standing) n (pos 0) +ℤ marked m n
fee_follows Hold Hold n h = grind arith
fee_follows Hold Post n h = omega (arith, ints)
fee_follows Hold Contra n h = grind arith
fee_follows Hold Release n h = refl
fee_follows Post Hold n h = grind arith
fee_follows Post Post n h = grind arith
fee_follows Post Contra n h = omega (arith, ints)
fee_follows Post Release n h = grind arith
fee_follows Contra m n h = grind arith
fee_follows Release m n h = grind arith

fee_begins : (m : Mark) (n : ℤ) → is_hold m ≡ true
    → cond (same_host_state (state_at m) Standing) n (pos 0) ≡ pos 0 +ℤ marked m n
fee_begins Hold n h = refl
fee_begins Post n h = grind arith
fee_begins Contra n h = grind arith
fee_begins Release n h = grind arith

-- the fee of a row by its last line, if the row stands
abbrev fee_by : Option Line → ℤ
fee_by o = standing_number (known_row (state_by o) (entry_by o))

fee_added : (o : Option Line) (l : Line) → Follows o l → fee_by (Some l) ≡ fee_by o +ℤ worth l
fee_added None l f = fee_begins l.mark (number_of l.entry.number) f
fee_added (Some p) l f =
    fee_follows p.mark l.mark (number_of l.entry.number) f.0
    ∙ ap (λ e. cond (same_host_state (state_at p.mark) Standing) (number_of e.number) (pos 0) +ℤ worth l) f.1

-- sums that change alike stay equal
alike : (p s t a b w : ℤ) → p ≡ s → t +ℤ a ≡ s +ℤ b → b ≡ a +ℤ w → p +ℤ w ≡ t
alike p s t a b w e c d = omega (arith, ints)

-- whatever line may follow, the balance is still what the fees that stand come to
pub balanced_push : (xs : List Line) (l : Line) → is_row l.row ≡ true → Follows (last_of xs l.row) l
    → posted xs ≡ standing_sum (known_by (kept_by 0 xs)) → posted (xs ++ l ∷ []) ≡ standing_sum (known_by (kept_by 0 (xs ++ l ∷ [])))
balanced_push xs l i f old =
    fold_push (λ sum l. sum +ℤ worth l) (pos 0) xs l
    ∙ alike (posted xs) _ _ (fee_by (last_of xs l.row)) (fee_by (Some l)) (worth l) old (sum_push fee_by xs l i) (fee_added _ l f)

-- a line's row needs a line less, or three lines are set aside for it
due_added : (o : Option Line) (l : Line) → Follows o l
    → 1 + lines_due (state_by (Some l)) ≤ lines_due (state_by o) + 3 * cond (is_hold l.mark) 1 0
due_added None l f = grind arith
due_added (Some p) l f = let g = f.0 in grind arith

-- a sum of lines and lines due that stays within three lines a row
within_three : (used begun more hold a c : ℕ) (s t : ℤ) → t +ℤ pos a ≡ s +ℤ pos c → 1 + c ≤ a + 3 * hold → more ≡ begun + hold
    → (pos used +ℤ s) ≤ℤ pos (3 * begun) → (pos (used + 1) +ℤ t) ≤ℤ pos (3 * more)
within_three used begun more hold a c s t e h m old = omega (arith, ints)

-- and there is a line for each that is due
pub reserve_push : (xs : List Line) (l : Line) (used begun more : ℕ) → is_row l.row ≡ true → Follows (last_of xs l.row) l
    → more ≡ begun + cond (is_hold l.mark) 1 0 → (pos used +ℤ reserved xs) ≤ℤ pos (3 * begun)
    → (pos (used + 1) +ℤ reserved (xs ++ l ∷ [])) ≤ℤ pos (3 * more)
reserve_push xs l used begun more i f e old =
    within_three used begun more (cond (is_hold l.mark) 1 0) _ _ (reserved xs) (reserved (xs ++ l ∷ []))
    (sum_push (λ o. pos (lines_due (state_by o))) xs l i) (due_added (last_of xs l.row) l f) e old

-- three lines a row fit into the table
fit : (used begun most : ℕ) (s : ℤ) → pos 0 ≤ℤ s → (pos used +ℤ s) ≤ℤ pos (3 * begun) → begun ≤ most / 3 → used ≤ most
fit used begun most s low h few = omega (arith, ints)

pub reserve_fits : (xs : List Line) (used begun most : ℕ) → (pos used +ℤ reserved xs) ≤ℤ pos (3 * begun) → begun ≤ most / 3
    → used ≤ most
reserve_fits xs used begun most h few =
    let low : (k : RowKey) → pos 0 ≤ℤ pos (lines_due (state_by (last_of xs k))) = λ k. omega (arith, ints) in
    fit used begun most (reserved xs) (sum_low (λ n. pos (lines_due (state_by (last_of xs n)))) low rows_most) h few

-- so there is a line for one that may follow
pub added_fits : (xs : List Line) (l : Line) (used begun more most : ℕ) → is_row l.row ≡ true → Follows (last_of xs l.row) l
    → more ≡ begun + cond (is_hold l.mark) 1 0 → more ≤ most / 3 → (pos used +ℤ reserved xs) ≤ℤ pos (3 * begun) → used + 1 ≤ most
added_fits xs l used begun more most i f e few old =
    reserve_fits (xs ++ l ∷ []) (used + 1) more most (reserve_push xs l used begun more i f e old) few

-- only a hold begins a row
pub none_begun : (p m : Mark) → may_follow p m ≡ true → ◌≡◌ {A = ℕ} (cond (is_hold m) 1 0) 0
none_begun p m h = grind (arith, nat_tests)
