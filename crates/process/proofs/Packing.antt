-- Packing fields and unpacking them again. Assumes nothing.
use Rattle.std.proofs.Common.{◌≡◌, ℕ, zero, suc, ◌+◌, ◌*◌, ◌/◌, ◌%◌, ◌^◌, ◌<◌, ◌≤◌, List, [], ◌∷◌, ◌++◌, length, set, replicate, sym, refl, ap, ◌∙◌, subst, ap₂, mod-eq_of_lt, mul_assoc, mul_comm, add_comm, arith}
use native.Mathlib.Nat.{add-mul-div_right, mul-add-mod_self_right}
use Rattle.std.proofs.lemmas.List.{set_at}
use Rattle.std.proofs.lemmas.Nat.{pow-add, pow_pos, mod-pow-add, mod_below, mod_low, mul-add-lt, shr_high, shr_split, shr-shr}
use Rattle.process.specs.Bits.{total, pack, field, unpack, Fit}

-- packing what was unpacked gives the lowest bits
pub pack_unpack : (ws : List ℕ) (n : ℕ) → pack ws (unpack ws n) ≡ n % 2 ^ total ws
pack_unpack [] n = omega arith
pack_unpack (w ∷ ws) n =
    ap (λ (k : ℕ). field (total ws) w n * 2 ^ total ws + k) (pack_unpack ws n) ∙ sym (mod-pow-add n w (total ws))

pub unpack_fit : (ws : List ℕ) (n : ℕ) → Fit ws (unpack ws n)
unpack_fit [] n = tt
unpack_fit (w ∷ ws) n = (mod_below (n / 2 ^ total ws) (2 ^ w) (pow_pos w), unpack_fit ws n)

pub pack_below : (ws vs : List ℕ) → Fit ws vs → pack ws vs < 2 ^ total ws
pack_below [] [] f = omega arith
pack_below [] (v ∷ vs) f = absurd f
pack_below (w ∷ ws) [] f = absurd f
pack_below (w ∷ ws) (v ∷ vs) f =
    let rest = pack_below ws vs f.1 in
    let all = mul-add-lt v (2 ^ total ws) (pack ws vs) (2 ^ w) f.0 rest in
    let split = pow-add 2 w (total ws) in
    omega (arith, mul_comm (2 ^ w) (2 ^ total ws))

-- bits above the fields do not matter
unpack_high : (ws : List ℕ) (a n : ℕ) → unpack ws (a * 2 ^ total ws + n) ≡ unpack ws n
unpack_high [] a n = refl
unpack_high (w ∷ ws) a n =
    let low = 2 ^ total ws in
    let high = a * 2 ^ w in
    let split : a * 2 ^ (w + total ws) + n ≡ high * low + n =
    ap (λ (k : ℕ). a * k + n) (pow-add 2 w (total ws)) ∙ ap (λ (k : ℕ). k + n) (sym (mul_assoc a (2 ^ w) low)) in
    let div : (high * low + n) / low ≡ high + n / low =
    ap (λ (k : ℕ). k / low) (add_comm (high * low) n) ∙ add-mul-div_right n high (pow_pos (total ws)) ∙ add_comm (n / low) high in
    let head : field (total ws) w (high * low + n) ≡ field (total ws) w n =
    ap (λ (k : ℕ). k % 2 ^ w) div ∙ mul-add-mod_self_right a (2 ^ w) (n / low) in
    ap (unpack (w ∷ ws)) split ∙ ap₂ (λ (x : ℕ) (xs : List ℕ). x ∷ xs) head (unpack_high ws high n)

pub unpack_pack : (ws vs : List ℕ) → Fit ws vs → unpack ws (pack ws vs) ≡ vs
unpack_pack [] [] f = refl
unpack_pack [] (v ∷ vs) f = absurd f
unpack_pack (w ∷ ws) [] f = absurd f
unpack_pack (w ∷ ws) (v ∷ vs) f =
    let rest = pack_below ws vs f.1 in
    let head : field (total ws) w (pack (w ∷ ws) (v ∷ vs)) ≡ v =
    ap (λ (k : ℕ). k % 2 ^ w) (shr_high v (total ws) (pack ws vs) rest) ∙ mod-eq_of_lt f.0 in
    ap₂ (λ (x : ℕ) (xs : List ℕ). x ∷ xs) head (unpack_high ws v (pack ws vs) ∙ unpack_pack ws vs f.1)

-- a number in fields of some widths, as fields of other widths, and back
pub repacked : (ws bs : List ℕ) (vs : List ℕ) → total ws ≡ total bs → Fit bs vs
    → unpack bs (pack ws (unpack ws (pack bs vs))) ≡ vs
repacked ws bs vs e f =
    let n = pack bs vs in
    let small : n < 2 ^ total ws = subst (λ (t : ℕ). n < 2 ^ t) (sym e) (pack_below bs vs f) in
    ap (unpack bs) (pack_unpack ws n ∙ mod-eq_of_lt small) ∙ unpack_pack bs vs f

-- ── lists of fields, one after another ──

pub total_same : (n w : ℕ) → total (replicate n w) ≡ n * w
total_same zero w = omega arith
total_same (suc n) w = let t = total_same n w in omega arith

pub total_append : (ws us : List ℕ) → total (ws ++ us) ≡ total ws + total us
total_append [] us = omega arith
total_append (w ∷ ws) us = let t = total_append ws us in omega arith

pub pack_append : (ws us vs xs : List ℕ) → length vs ≡ length ws
    → pack (ws ++ us) (vs ++ xs) ≡ pack ws vs * 2 ^ total us + pack us xs
pack_append [] us [] xs l = omega arith
pack_append [] us (v ∷ vs) xs l = absurd (omega arith)
pack_append (w ∷ ws) us [] xs l = absurd (omega arith)
pack_append (w ∷ ws) us (v ∷ vs) xs l =
    let rest = pack_append ws us vs xs (omega arith) in
    let power : 2 ^ total (ws ++ us) ≡ 2 ^ total ws * 2 ^ total us =
    ap (λ k. 2 ^ k) (total_append ws us) ∙ pow-add 2 (total ws) (total us) in
    rw power (omega arith)

pub length_unpack : (ws : List ℕ) (n : ℕ) → length (unpack ws n) ≡ length ws
length_unpack [] n = refl
length_unpack (w ∷ ws) n = ap suc (length_unpack ws n)

unpack_append : (ws us : List ℕ) (n : ℕ) → unpack (ws ++ us) n ≡ unpack ws (n / 2 ^ total us) ++ unpack us n
unpack_append [] us n = refl
unpack_append (w ∷ ws) us n =
    let low : n / 2 ^ total (ws ++ us) ≡ n / 2 ^ total us / 2 ^ total ws =
    ap (λ k. n / 2 ^ k) (total_append ws us ∙ add_comm (total ws) (total us)) ∙ sym (shr-shr n (total us) (total ws)) in
    ap₂ (λ (x : ℕ) (xs : List ℕ). x ∷ xs) (ap (λ k. k % 2 ^ w) low) (unpack_append ws us n)

-- ── another value in one field ──

-- what is above a field
abbrev pub above : ℕ → ℕ → ℕ → ℕ
above low width n = n / 2 ^ low / 2 ^ width

-- a number by what is above a field, its value, and what is below it
abbrev pub joined : ℕ → ℕ → ℕ → ℕ → ℕ → ℕ
joined low width high v below = (high * 2 ^ width + v) * 2 ^ low + below

cut : (low width n : ℕ) → joined low width (above low width n) (field low width n) (n % 2 ^ low) ≡ n
cut low width n = ap (λ k. k * 2 ^ low + n % 2 ^ low) (shr_split (n / 2 ^ low) width) ∙ shr_split n low

pub field_within : (low width n : ℕ) → field low width n * 2 ^ low ≤ n
field_within low width n = let c = cut low width n in omega arith

-- m is n with the value v in a field
pub put_is : (low width n m v : ℕ) → m + field low width n * 2 ^ low ≡ n + v * 2 ^ low
    → m ≡ joined low width (above low width n) v (n % 2 ^ low)
put_is low width n m v e = let c = cut low width n in omega arith

-- among the fields of such a number, v stands in the place of the one
pub unpack_put : (ws us : List ℕ) (width n m v : ℕ) → v < 2 ^ width
    → m + field (total us) width n * 2 ^ total us ≡ n + v * 2 ^ total us
    → unpack (ws ++ width ∷ us) m ≡ set (unpack (ws ++ width ∷ us) n) (length ws) v
unpack_put ws us width n m v small e =
    let low = total us in
    let a = above low width n in
    let b = n % 2 ^ low in
    let is = put_is low width n m v e in
    let div : m / 2 ^ low ≡ a * 2 ^ width + v =
    ap (λ k. k / 2 ^ low) is ∙ shr_high (a * 2 ^ width + v) low b (mod_below n (2 ^ low) (pow_pos low)) in
    let high : m / 2 ^ (width + low) ≡ n / 2 ^ (width + low) =
    ap (λ k. m / 2 ^ k) (add_comm width low) ∙ sym (shr-shr m low width)
    ∙ ap (λ k. k / 2 ^ width) div ∙ shr_high a width v small
    ∙ shr-shr n low width ∙ ap (λ k. n / 2 ^ k) (add_comm low width) in
    let mid : field low width m ≡ v = ap (λ k. k % 2 ^ width) div ∙ mod_low a width v small in
    let rest : unpack us m ≡ unpack us n =
    ap (unpack us) is ∙ unpack_high us (a * 2 ^ width + v) b
    ∙ sym (unpack_high us (a * 2 ^ width + field low width n) b) ∙ ap (unpack us) (cut low width n) in
    let front = unpack ws (n / 2 ^ (width + low)) in
    unpack_append ws (width ∷ us) m
    ∙ ap₂ (λ (xs ys : List ℕ). xs ++ ys) (ap (unpack ws) high) (ap₂ (λ (x : ℕ) (xs : List ℕ). x ∷ xs) mid rest)
    ∙ sym (ap (λ xs. set xs (length ws) v) (unpack_append ws (width ∷ us) n)
    ∙ set_at front (field low width n) (unpack us n) v (length ws) (length_unpack ws (n / 2 ^ (width + low))))
