-- A record and its stored form: reading the form gives the record back, and the other way round. Assumes nothing.
use Rattle.std.proofs.Common.{◌≡◌, ℕ, zero, suc, ◌+◌, ◌-◌, ◌^◌, ◌<◌, ◌≤◌, Bool, true, false, eqb, List, [], ◌∷◌, ◌++◌, length, get_or, take, drop, sym, refl, ap, ◌∙◌, ap₂, append_assoc, mod-eq_of_lt, arith}
use Rattle.std.proofs.lemmas.Bool.Decides.{nat_tests}
use Rattle.std.proofs.lemmas.List.{length-take-le, drop-drop, take-append-drop, take_at}
use Rattle.values.specs.Numbers.{flow_number, kind_number}
use Rattle.values.specs.declared.Flow.{Flow}
use Rattle.values.specs.declared.Flow.TheVariants.{One, All}
use Rattle.values.specs.declared.Kind.{Kind}
use Rattle.values.specs.declared.Kind.TheVariants.{Score, Fee}
use Rattle.process.specs.declared.parts.Arrow.{Arrow}
use Rattle.process.specs.Bits.{pack, unpack, Fit, two_bytes, four_bytes}
use Rattle.process.specs.Stored.{Named, header_widths, step_widths, arrow_widths, bit}
use Rattle.process.specs.Stored.{header_fields, step_fields, arrow_fields, header_form, step_form, arrow_form}
use Rattle.process.specs.Reading.{word2, word4, header_at, step_at, arrow_at, flow_of, kind_of, name_length, read_step, read_arrow}
use Rattle.process.proofs.Packing.{pack_unpack, unpack_fit, pack_below, unpack_pack, repacked}

-- every element is a byte
abbrev pub Bytes : List ℕ → Type 0
Bytes [] = Unit {0}
Bytes (x ∷ xs) = (x < 256) × Bytes xs

pub bytes_drop : (n : ℕ) (xs : List ℕ) → Bytes xs → Bytes (drop n xs)
bytes_drop zero xs b = b
bytes_drop (suc n) [] b = tt
bytes_drop (suc n) (x ∷ xs) b = bytes_drop n xs b.1

-- a field of one bit as a flag, and of two bits as a kind
bit_back : (n : ℕ) → n < 2 → bit (eqb n 1) ≡ n
bit_back n h = grind (arith, nat_tests)

flow_back : (n : ℕ) → n < 2 → flow_number (flow_of n) ≡ n
flow_back n h = grind (arith, nat_tests)

kind_back : (n : ℕ) → n ≤ 1 → kind_number (kind_of n) ≡ n
kind_back n h = grind (arith, nat_tests)

bit_forth : (b : Bool) → eqb (bit b) 1 ≡ b
bit_forth true = refl
bit_forth false = refl

flow_forth : (f : Flow) → flow_of (flow_number f) ≡ f
flow_forth One = refl
flow_forth All = refl

kind_forth : (k : Kind) → kind_of (kind_number k) ≡ k
kind_forth Score = refl
kind_forth Fee = refl

bit_small : (b : Bool) → bit b < 2
bit_small true = omega arith
bit_small false = omega arith

flow_small : (f : Flow) → flow_number f < 2
flow_small One = omega arith
flow_small All = omega arith

kind_small : (k : Kind) → kind_number k < 4
kind_small Score = omega arith
kind_small Fee = omega arith

less_one : (n : ℕ) → (n + 1) - 1 ≡ n
less_one n = omega arith

back_one : (n : ℕ) → 1 ≤ n → (n - 1) + 1 ≡ n
back_one n h = omega arith

-- the header is the stored form of what it says
pub header_back : (xs : List ℕ) → Bytes xs → 4 ≤ length xs → header_at xs 0 ≡ 1 → header_at xs 3 ≡ 0
    → xs ≡ header_form (header_at xs 1) (header_at xs 2) ++ drop 4 xs
header_back [] b l f s = absurd (omega arith)
header_back (p ∷ []) b l f s = absurd (omega arith)
header_back (p ∷ q ∷ []) b l f s = absurd (omega arith)
header_back (p ∷ q ∷ r ∷ []) b l f s = absurd (omega arith)
header_back (p ∷ q ∷ r ∷ t ∷ xs) b l f s =
    let ys = p ∷ q ∷ r ∷ t ∷ xs in
    let one = sym f in
    let none = sym s in
    let fields : header_fields (header_at ys 1) (header_at ys 2) ≡ unpack header_widths (word4 ys) =
    λ i. one i ∷ header_at ys 1 ∷ header_at ys 2 ∷ none i ∷ [] in
    let form = ap (λ (vs : List ℕ). unpack four_bytes (pack header_widths vs)) fields
    ∙ repacked header_widths four_bytes (p ∷ q ∷ r ∷ t ∷ []) refl (b.0, (b.1.0, (b.1.1.0, (b.1.1.1.0, tt)))) in
    ap (λ (vs : List ℕ). vs ++ xs) (sym form)

-- a step's record is the stored form of what it says
pub step_back : (xs : List ℕ) → Bytes xs → 2 + name_length xs ≤ length xs → step_at xs 5 ≤ 1 → step_at xs 7 ≡ 0
    → xs ≡ step_form (read_step xs) ++ drop (2 + name_length xs) xs
step_back [] b l k s = absurd (omega arith)
step_back (p ∷ []) b l k s = absurd (omega arith)
step_back (p ∷ q ∷ xs) b l k s =
    let ys = p ∷ q ∷ xs in
    let w = word2 ys in
    let n = name_length ys in
    let small = unpack_fit step_widths w in
    let e₀ = bit_back (step_at ys 0) small.0 in
    let e₁ = bit_back (step_at ys 1) small.1.0 in
    let e₂ = bit_back (step_at ys 2) small.1.1.0 in
    let e₃ = flow_back (step_at ys 3) small.1.1.1.0 in
    let e₄ = flow_back (step_at ys 4) small.1.1.1.1.0 in
    let e₅ = kind_back (step_at ys 5) k in
    let e₆ : length (take n xs) ≡ n = length-take-le n xs (omega arith) in
    let e₇ = sym s in
    let fields : step_fields (read_step ys) ≡ unpack step_widths w =
    λ i. e₀ i ∷ e₁ i ∷ e₂ i ∷ e₃ i ∷ e₄ i ∷ e₅ i ∷ e₆ i ∷ e₇ i ∷ [] in
    let form : unpack two_bytes (pack step_widths (step_fields (read_step ys))) ≡ p ∷ q ∷ [] =
    ap (λ (vs : List ℕ). unpack two_bytes (pack step_widths vs)) fields
    ∙ repacked step_widths two_bytes (p ∷ q ∷ []) refl (b.0, (b.1.0, tt)) in
    let rest : take n xs ++ drop (2 + n) ys ≡ xs =
    ap (λ (vs : List ℕ). take n xs ++ vs) (sym (drop-drop n 2 ys)) ∙ take-append-drop n xs in
    sym (append_assoc (unpack two_bytes (pack step_widths (step_fields (read_step ys)))) (take n xs) (drop (2 + n) ys)
    ∙ ap₂ (λ (us vs : List ℕ). us ++ vs) form rest)

-- an arrow's record is the stored form of what it says
pub arrow_back : (xs : List ℕ) → Bytes xs → 2 ≤ length xs → arrow_at xs 2 ≡ 0
    → xs ≡ arrow_form (read_arrow xs) ++ drop 2 xs
arrow_back [] b l s = absurd (omega arith)
arrow_back (p ∷ []) b l s = absurd (omega arith)
arrow_back (p ∷ q ∷ xs) b l s =
    let ys = p ∷ q ∷ xs in
    let none = sym s in
    let from : (arrow_at ys 0 + 1) - 1 ≡ arrow_at ys 0 = less_one (arrow_at ys 0) in
    let to : (arrow_at ys 1 + 1) - 1 ≡ arrow_at ys 1 = less_one (arrow_at ys 1) in
    let fields : arrow_fields (read_arrow ys) ≡ unpack arrow_widths (word2 ys) =
    λ i. from i ∷ to i ∷ none i ∷ [] in
    let form = ap (λ (vs : List ℕ). unpack two_bytes (pack arrow_widths vs)) fields
    ∙ repacked arrow_widths two_bytes (p ∷ q ∷ []) refl (b.0, (b.1.0, tt)) in
    ap (λ (vs : List ℕ). vs ++ xs) (sym form)

-- the number that two bytes, or four, were made of
word4_forth : (n : ℕ) (xs : List ℕ) → n < 2 ^ 32 → word4 (unpack four_bytes n ++ xs) ≡ n
word4_forth n xs h = pack_unpack four_bytes n ∙ mod-eq_of_lt h

word2_forth : (n : ℕ) (xs : List ℕ) → n < 2 ^ 16 → word2 (unpack two_bytes n ++ xs) ≡ n
word2_forth n xs h = pack_unpack two_bytes n ∙ mod-eq_of_lt h

-- what the stored form of a header says
pub header_forth : (n m : ℕ) (xs : List ℕ) → n < 128 → m < 1024
    → unpack header_widths (word4 (header_form n m ++ xs)) ≡ header_fields n m
header_forth n m xs hn hm =
    let fit : Fit header_widths (header_fields n m) = (omega arith, (hn, (hm, (omega arith, tt)))) in
    ap (unpack header_widths) (word4_forth (pack header_widths (header_fields n m)) xs (pack_below header_widths (header_fields n m) fit))
    ∙ unpack_pack header_widths (header_fields n m) fit

-- what the stored form of a step says
pub step_forth : (s : Named) (xs : List ℕ) → length s.name < 32
    → unpack step_widths (word2 (step_form s ++ xs)) ≡ step_fields s
step_forth s xs h =
    let fit : Fit step_widths (step_fields s) = (
      bit_small s.step.savepoint,
      (
        bit_small s.step.counterpart,
        (
          bit_small s.step.private,
          (flow_small s.step.entry, (flow_small s.step.exit, (kind_small s.step.kind, (h, (omega arith, tt))))),
        ),
      ),
    ) in
    let n = pack step_widths (step_fields s) in
    ap (unpack step_widths) (word2_forth n [] (pack_below step_widths (step_fields s) fit))
    ∙ unpack_pack step_widths (step_fields s) fit

-- what the stored form of an arrow says
pub arrow_forth : (a : Arrow) (xs : List ℕ) → a.from - 1 < 64 → a.to - 1 < 64
    → unpack arrow_widths (word2 (arrow_form a ++ xs)) ≡ arrow_fields a
arrow_forth a xs f t =
    let fit : Fit arrow_widths (arrow_fields a) = (f, (t, (omega arith, tt))) in
    ap (unpack arrow_widths) (word2_forth (pack arrow_widths (arrow_fields a)) xs (pack_below arrow_widths (arrow_fields a) fit))
    ∙ unpack_pack arrow_widths (arrow_fields a) fit

-- reading the stored form of a step gives the step back
pub step_read : (s : Named) (xs : List ℕ) → length s.name < 32 → read_step (step_form s ++ xs) ≡ s
step_read s xs h =
    let fs = step_forth s xs h in
    let at : (i : ℕ) → step_at (step_form s ++ xs) i ≡ get_or (step_fields s) i 0 = λ i. ap (λ (vs : List ℕ). get_or vs i 0) fs in
    let e₀ = ap (λ (n : ℕ). eqb n 1) (at 0) ∙ bit_forth s.step.savepoint in
    let e₁ = ap (λ (n : ℕ). eqb n 1) (at 1) ∙ bit_forth s.step.counterpart in
    let e₂ = ap (λ (n : ℕ). eqb n 1) (at 2) ∙ bit_forth s.step.private in
    let e₃ = ap flow_of (at 3) ∙ flow_forth s.step.entry in
    let e₄ = ap flow_of (at 4) ∙ flow_forth s.step.exit in
    let e₅ = ap kind_of (at 5) ∙ kind_forth s.step.kind in
    let name : take (name_length (step_form s ++ xs)) (s.name ++ xs) ≡ s.name =
    ap (λ (n : ℕ). take n (s.name ++ xs)) (at 6) ∙ take_at s.name xs (length s.name) refl in
    λ i. record {
      step = record { savepoint = e₀ i; counterpart = e₁ i; private = e₂ i; entry = e₃ i; exit = e₄ i; kind = e₅ i };
      name = name i;
    }

-- reading the stored form of an arrow gives the arrow back
pub arrow_read : (a : Arrow) (xs : List ℕ) → 1 ≤ a.from → 1 ≤ a.to → a.from ≤ 64 → a.to ≤ 64
    → read_arrow (arrow_form a ++ xs) ≡ a
arrow_read a xs lf lt hf ht =
    let fs = arrow_forth a xs (omega arith) (omega arith) in
    let from : arrow_at (arrow_form a ++ xs) 0 + 1 ≡ a.from =
    ap (λ (vs : List ℕ). get_or vs 0 0 + 1) fs ∙ back_one a.from lf in
    let to : arrow_at (arrow_form a ++ xs) 1 + 1 ≡ a.to =
    ap (λ (vs : List ℕ). get_or vs 1 0 + 1) fs ∙ back_one a.to lt in
    λ i. record { from = from i; to = to i }
