-- A field that is set in place: in a word, in bytes, and among the fields of a reply. Assumes nothing.
use Rattle.std.proofs.Common.{◌≡◌, ℕ, zero, suc, ◌+◌, ◌-◌, ◌*◌, ◌/◌, ◌%◌, ◌^◌, ◌<◌, ◌≤◌, List, [], ◌∷◌, ◌++◌, length, get_or, take, drop, set, replicate, sym, refl, ap, ◌∙◌, subst, ap₂, mul_assoc, mul_comm, add-one, append_assoc, lit<, arith}
use native.Mathlib.Nat.{mul-add-mod_self_right}
use Rattle.std.proofs.lemmas.Nat.{pow-add, pow_pos, shr-shr, shr_high, mod_below, shr_below, shl_whole, one_shl, mul-add-lt, field_of}
use Rattle.std.proofs.lemmas.List.{length-take-le, drop-set-lt, set-get_or, get_or-drop, length-replicate, replicate-append-replicate}
use Rattle.values.specs.Numbers.{phase_number}
use Rattle.process.specs.Bits.{total, pack, field, unpack}
use Rattle.process.proofs.Packing.{total_same, total_append, pack_append, above, joined, field_within, put_is, unpack_put}
use Rattle.model.specs.Replies.{fields_of}
use Rattle.model.specs.Report.{reply_widths, reply_bytes}
use Rattle.model.proofs.Replying.{phase_small}
use Rattle.sheet.specs.declared.sheets.Sheet.{Sheet}
use Rattle.sheet.specs.Fields.{number_of, Sets, SetsStep, ShowsNow, fields_with}
use Rattle.sheet.specs.SheetOf.{chart_of}

-- ── a word ──

-- a word of 16 bits stays one
pub stays_word : (low width n m v : ℕ) → low + width ≤ 16 → v < 2 ^ width → n < 2 ^ 16
    → m + field low width n * 2 ^ low ≡ n + v * 2 ^ low → m < 2 ^ 16
stays_word low width n m v narrow small word e =
    let rest = 16 - (low + width) in
    let whole : rest + width + low ≡ 16 = omega arith in
    let n_word : n < 2 ^ (rest + width + low) = subst (λ k. n < 2 ^ k) (sym whole) word in
    let high = shr_below (n / 2 ^ low) rest width (shr_below n (rest + width) low n_word) in
    let mid = mul-add-lt (above low width n) (2 ^ width) v (2 ^ rest) high small in
    let below = mod_below n (2 ^ low) (pow_pos low) in
    let all = mul-add-lt (above low width n * 2 ^ width + v) (2 ^ low) (n % 2 ^ low) (2 ^ width * 2 ^ rest) mid below in
    let is = put_is low width n m v e in
    let size : 2 ^ low * (2 ^ width * 2 ^ rest) ≡ 2 ^ 16 =
    mul_comm (2 ^ low) (2 ^ width * 2 ^ rest) ∙ ap (λ k. k * 2 ^ low) (mul_comm (2 ^ width) (2 ^ rest) ∙ sym (pow-add 2 rest width))
    ∙ sym (pow-add 2 (rest + width) low) ∙ ap (λ k. 2 ^ k) whole in
    omega arith

-- the shifts lose nothing
pub shifted : (low width n v : ℕ) → low + width ≤ 16 → v < 2 ^ width
    → n - n / 2 ^ low % (1 * 2 ^ width % 2 ^ 32) * 2 ^ low % 2 ^ 32 + v * 2 ^ low % 2 ^ 32 + field low width n * 2 ^ low
    ≡ n + v * 2 ^ low
shifted low width n v narrow small =
    let f = field low width n in
    let mask = one_shl width 32 (omega arith) in
    let had = shl_whole f width low 32 (mod_below (n / 2 ^ low) (2 ^ width) (pow_pos width)) (omega arith) in
    let new = shl_whole v width low 32 small (omega arith) in
    rw (mask, had, new) (omega (arith, field_within low width n))

-- what is above 16 bits does not matter to a field within them
field_low : (low width a word : ℕ) → low + width ≤ 16 → field low width (a * 2 ^ 16 + word) ≡ field low width word
field_low low width a word narrow =
    let o = 16 - (low + width) in
    let whole : 16 ≡ o + (width + low) = omega arith in
    let split : a * 2 ^ 16 ≡ a * 2 ^ o * 2 ^ (width + low) =
    ap (λ k. a * 2 ^ k) whole ∙ ap (λ k. a * k) (pow-add 2 o (width + low)) ∙ sym (mul_assoc a (2 ^ o) (2 ^ (width + low))) in
    sym (field_of (a * 2 ^ 16 + word) width low)
    ∙ ap (λ k. k / 2 ^ low) (ap (λ k. (k + word) % 2 ^ (width + low)) split ∙ mul-add-mod_self_right (a * 2 ^ o) (2 ^ (width + low)) word)
    ∙ field_of word width low

-- a field set in a word is set in the number that the word is 16 bits of
bits_in_word : (t low width a word word' v b : ℕ) → low + width ≤ 16 → b < 2 ^ t
    → word' + field low width word * 2 ^ low ≡ word + v * 2 ^ low
    → joined t 16 a word' b + field (t + low) width (joined t 16 a word b) * 2 ^ (t + low) ≡ joined t 16 a word b + v * 2 ^ (t + low)
bits_in_word t low width a word word' v b narrow small e =
    let n = joined t 16 a word b in
    let same : field (t + low) width n ≡ field low width word =
    ap (λ k. k % 2 ^ width) (sym (shr-shr n t low)) ∙ ap (λ k. k / 2 ^ low % 2 ^ width) (shr_high (a * 2 ^ 16 + word) t b small)
    ∙ field_low low width a word narrow in
    let power = pow-add 2 t low in
    let times = ap (λ k. k * 2 ^ t) e in
    rw (same, power) (omega arith)

-- ── bytes ──

bytes_below : (n : ℕ) (xs : List ℕ) → ((i : ℕ) → get_or xs i 0 < 256) → pack (replicate n 8) xs < 2 ^ total (replicate n 8)
bytes_below zero xs h = omega arith
bytes_below (suc n) [] h = pow_pos (8 + total (replicate n 8))
bytes_below (suc n) (x ∷ xs) h =
    let rest = bytes_below n xs (λ i. h (suc i)) in
    let all = mul-add-lt x (2 ^ total (replicate n 8)) (pack (replicate n 8) xs) (2 ^ 8) (h 0) rest in
    let power = pow-add 2 8 (total (replicate n 8)) in
    omega arith

set_two : (i : ℕ) (xs : List ℕ) (x y : ℕ) → suc i < length xs → set (set xs i x) (suc i) y ≡ take i xs ++ (x ∷ y ∷ drop (suc (suc i)) xs)
set_two zero [] x y l = absurd (omega arith)
set_two zero (a ∷ []) x y l = absurd (omega arith)
set_two zero (a ∷ b ∷ xs) x y l = refl
set_two (suc i) [] x y l = absurd (omega arith)
set_two (suc i) (a ∷ xs) x y l = ap (λ zs. a ∷ zs) (set_two i xs x y (omega arith))

-- the number of some bytes, by what two of them are as a word
number_by_word : (i r : ℕ) (xs : List ℕ) (x y : ℕ) → suc i < length xs
    → pack (replicate (i + suc (suc r)) 8) (set (set xs i x) (suc i) y)
    ≡ joined (total (replicate r 8)) 16 (pack (replicate i 8) (take i xs)) (x * 2 ^ 8 + y) (pack (replicate r 8) (drop (suc (suc i)) xs))
number_by_word i r xs x y l =
    let t = total (replicate r 8) in
    let size : length (take i xs) ≡ length (replicate {A = ℕ} i 8) =
    length-take-le i xs (omega arith) ∙ sym (length-replicate {A = ℕ} i 8) in
    let power : 2 ^ total (8 ∷ 8 ∷ replicate {A = ℕ} r 8) ≡ 2 ^ 8 * (2 ^ 8 * 2 ^ t) =
    pow-add 2 8 (8 + t) ∙ ap (λ k. 2 ^ 8 * k) (pow-add 2 8 t) in
    ap₂ (λ ws vs. pack ws vs) (sym (replicate-append-replicate i (suc (suc r)) 8)) (set_two i xs x y l)
    ∙ pack_append (replicate i 8) (8 ∷ 8 ∷ replicate r 8) (take i xs) (x ∷ y ∷ drop (suc (suc i)) xs) size
    ∙ rw (power, pow-add 2 8 t) (omega arith)

-- two bytes written, whose word has another value in a field
bits_in_bytes : (n i r low width v : ℕ) (xs : List ℕ) (x y : ℕ) → n ≡ i + suc (suc r) → n ≤ length xs
    → ((k : ℕ) → get_or xs k 0 < 256) → low + width ≤ 16
    → x * 2 ^ 8 + y + field low width (get_or xs i 0 * 2 ^ 8 + get_or xs (suc i) 0) * 2 ^ low
    ≡ get_or xs i 0 * 2 ^ 8 + get_or xs (suc i) 0 + v * 2 ^ low
    → pack (replicate n 8) (set (set xs i x) (suc i) y) + field (r * 8 + low) width (pack (replicate n 8) xs) * 2 ^ (r * 8 + low)
    ≡ pack (replicate n 8) xs + v * 2 ^ (r * 8 + low)
bits_in_bytes n i r low width v xs x y size long small narrow e =
    let inside : suc i < length xs = omega arith in
    let word = get_or xs i 0 * 2 ^ 8 + get_or xs (suc i) 0 in
    let same : set (set xs i (get_or xs i 0)) (suc i) (get_or xs (suc i) 0) ≡ xs =
    ap (λ zs. set zs (suc i) (get_or xs (suc i) 0)) (set-get_or xs i 0) ∙ set-get_or xs (suc i) 0 in
    let before = ap (λ k. pack (replicate k 8) xs) size ∙ sym (ap (pack (replicate (i + suc (suc r)) 8)) same)
    ∙ number_by_word i r xs (get_or xs i 0) (get_or xs (suc i) 0) inside in
    let after = ap (λ k. pack (replicate k 8) (set (set xs i x) (suc i) y)) size ∙ number_by_word i r xs x y inside in
    let below = bytes_below r (drop (suc (suc i)) xs)
    (λ k. subst (λ z. z < 256) (sym (get_or-drop (suc (suc i)) xs k 0)) (small (suc (suc i) + k))) in
    rw (before, after, ← total_same r 8)
    (bits_in_word (total (replicate r 8)) low width (pack (replicate i 8) (take i xs)) word (x * 2 ^ 8 + y) v _ narrow below e)

-- a word of two bytes written over, which has another value in a field
pub sets_bits : (i r low width v place word word' : ℕ) (xs : List ℕ) (x y : ℕ) → 32 ≡ i + suc (suc r) → 32 ≤ length xs
    → ((k : ℕ) → get_or xs k 0 < 256) → low + width ≤ 16 → place ≡ r * 8 + low
    → word ≡ get_or xs i 0 * 256 + get_or xs (i + 1) 0 → word' ≡ x * 256 + y
    → word' + field low width word * 2 ^ low ≡ word + v * 2 ^ low → Sets place width v xs (set (set xs i x) (i + 1) y)
unfolding number_of
sets_bits i r low width v place word word' xs x y size long small narrow is had has e =
    let e' = rw (had, has, add-one) at e in
    record {
      bits = rw (is, add-one) (bits_in_bytes 32 i r low width v xs x y size long small narrow e');
      rest = drop-set-lt 32 (set xs i x) (i + 1) y (omega arith) ∙ drop-set-lt 32 xs i x (omega arith);
    }

-- ── the fields of a reply ──

step_widths : (j r : ℕ) → 64 ≡ j + suc r
    → reply_widths ≡ (8 ∷ 2 ∷ 6 ∷ 16 ∷ replicate j 3) ++ 3 ∷ (replicate r 3 ++ 32 ∷ [])
step_widths j r e =
    ap (λ ws. 8 ∷ 2 ∷ 6 ∷ 16 ∷ (ws ++ 32 ∷ [])) (ap (λ n. replicate n 3) e ∙ sym (replicate-append-replicate j (suc r) 3))
    ∙ ap (λ ws. 8 ∷ 2 ∷ 6 ∷ 16 ∷ ws) (append_assoc (replicate j 3) (3 ∷ replicate r 3) (32 ∷ []))

-- a field of a reply, once its bits are set
sets_one : (ws us : List ℕ) (width v : ℕ) (before after : List ℕ) → v < 2 ^ width → reply_widths ≡ ws ++ width ∷ us
    → Sets (total us) width v before after → fields_of after ≡ set (fields_of before) (length ws) v
unfolding number_of
sets_one ws us width v before after small e s =
    ap (λ all. unpack all (pack reply_bytes after)) e
    ∙ unpack_put ws us width (pack reply_bytes before) (pack reply_bytes after) v small s.bits
    ∙ ap (λ all. set (unpack all (pack reply_bytes before)) (length ws) v) (sym e)

pub sets_step : (k v : ℕ) (before after : List ℕ) → 1 ≤ k → k ≤ 64 → v < 8
    → Sets (256 - (32 + 3 * (k - 1) + 3)) 3 v before after → SetsStep k v before after
sets_step k v before after low high small s =
    let r = 64 - k in
    let first = 8 ∷ 2 ∷ 6 ∷ 16 ∷ replicate {A = ℕ} (k - 1) 3 in
    let below : 256 - (32 + 3 * (k - 1) + 3) ≡ total (replicate r 3 ++ 32 ∷ []) =
    (let all = total_append (replicate r 3) (32 ∷ []) in let steps = total_same r 3 in omega arith) in
    let place : length first ≡ k + 3 = omega (arith, length-replicate {A = ℕ} (k - 1) 3) in
    record {
      fields = sets_one first (replicate r 3 ++ 32 ∷ []) 3 v before after small (step_widths (k - 1) r (omega arith))
          (subst (λ low. Sets low 3 v before after) below s)
          ∙ ap (λ i. set (fields_of before) i v) place;
      rest = s.rest;
    }

few_less : (n : ℕ) → n ≤ 64 → n - 1 < 2 ^ 6
few_less n h = omega arith

-- the fields before those of the steps, set over zeros
pub sets_front : (x : Sheet) (before zeros a b d after : List ℕ) → zeros ≡ replicate (length (take 32 before)) 0
    → 32 ≤ length before → length (chart_of x).0 ≤ 64 → x.rollback < 2 ^ 16
    → Sets 248 8 1 (zeros ++ drop 32 before) a → Sets 246 2 (phase_number x.phase) a b
    → Sets 240 6 (length (chart_of x).0 - 1) b d → Sets 224 16 x.rollback d after
    → ShowsNow x (λ _. 0) before after
unfolding fields_with
sets_front x before zeros a b d after are long few small form phase steps rollback =
    let ws = replicate 64 3 ++ 32 ∷ [] in
    let start : zeros ++ drop 32 before ≡ replicate 32 0 ++ drop 32 before =
    ap (λ xs. xs ++ drop 32 before) (are ∙ ap (λ n. replicate n 0) (length-take-le 32 before long)) in
    let blank : fields_of (zeros ++ drop 32 before) ≡ 0 ∷ 0 ∷ 0 ∷ 0 ∷ replicate 65 0 = ap fields_of start in
    let steps_less = length (chart_of x).0 - 1 in
    let one = sets_one [] (2 ∷ 6 ∷ 16 ∷ ws) 8 1 (zeros ++ drop 32 before) a (lit< tt) refl form in
    let two = sets_one (8 ∷ []) (6 ∷ 16 ∷ ws) 2 (phase_number x.phase) a b (phase_small x.phase) refl phase in
    let three = sets_one (8 ∷ 2 ∷ []) (16 ∷ ws) 6 steps_less b d (few_less (length (chart_of x).0) few) refl steps in
    let four = sets_one (8 ∷ 2 ∷ 6 ∷ []) ws 16 x.rollback d after small refl rollback in
    record {
      reply = four ∙ ap (λ xs. set xs 3 x.rollback) (three ∙ ap (λ xs. set xs 2 steps_less) (two
          ∙ ap (λ xs. set xs 1 (phase_number x.phase)) (one ∙ ap (λ xs. set xs 0 1) blank)));
      rest = rollback.rest ∙ steps.rest ∙ phase.rest ∙ form.rest ∙ ap (drop 32) start;
    }
