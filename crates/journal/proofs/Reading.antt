-- A journal is read line by line: what is left of the text, and what was read, give the answer of the whole. Assumes nothing.
use Rattle.std.proofs.Common.{◌≡◌, ℕ, zero, suc, ◌+◌, ◌-◌, ◌<◌, min, true, false, List, [], ◌∷◌, ◌++◌, length, get_or, take, drop, Err, Result, sym, refl, ap, ◌∙◌, ap₂, append_assoc, arith, eqb}
use Rattle.std.specs.List.{IsFirstMatchOrLen}
use Rattle.std.proofs.lemmas.List.{take_all, drop_all, length-append}
use Rattle.std.proofs.Math.Seq.{take-append_seam, get_or-append_seam}
use Rattle.journal.specs.declared.ParseError.{ParseError}
use Rattle.journal.specs.declared.ParseError.TheVariants as parse_error
use Rattle.journal.specs.declared.Unreadable.{Unreadable}
use Rattle.journal.specs.Text.{and_then, trimmed, unless_empty, unended, lines_after, lines}
use Rattle.journal.specs.Settings.{after_line, read_on, Parsed, Settings, Contents}

-- what a last byte makes of a line
module _ (line : List ℕ) (b : ℕ) where
  last : get_or (line ++ b ∷ []) (length (line ++ b ∷ []) - 1) 0 ≡ b
  last = let at : length (line ++ b ∷ []) - 1 ≡ length line = omega (arith, length-append line (b ∷ [])) in
      ap (λ n. get_or (line ++ b ∷ []) n 0) at ∙ get_or-append_seam line b [] 0

  front : take (length (line ++ b ∷ []) - 1) (line ++ b ∷ []) ≡ line
  front = let at : length (line ++ b ∷ []) - 1 ≡ length line = omega (arith, length-append line (b ∷ [])) in
      ap (λ n. take n (line ++ b ∷ [])) at ∙ take-append_seam line (b ∷ [])

  fed : eqb b 10 ≡ true → unended (line ++ b ∷ []) ≡ trimmed line
  fed e = rw (last, e) (ap trimmed front)

  unfed : eqb b 10 ≡ false → unended (line ++ b ∷ []) ≡ line ++ b ∷ []
  unfed e = rw (last, e) refl

  one_left : unless_empty (line ++ b ∷ []) [] ≡ (line ++ b ∷ []) ∷ []
  one_left = some line
    where
      some : (l : List ℕ) → unless_empty (l ++ b ∷ []) [] ≡ (l ++ b ∷ []) ∷ []
      some [] = refl
      some (a ∷ l) = refl

-- the first line ends with the first line feed, or with the text
cut : (line text : List ℕ) (i : ℕ) → 0 < length text → ((k : ℕ) → k < i → eqb (get_or text k 0) 10 ≡ false)
    → (i < length text → eqb (get_or text i 0) 10 ≡ true) → lines_after line text ≡ unended (line ++ take (suc i) text) ∷ lines_after [] (drop (suc i) text)
cut line [] i some before at = absurd (omega arith)
cut line (b ∷ bs) zero some before at =
    let e : eqb b 10 ≡ true = at some in
    rw e (ap (λ l. l ∷ lines_after [] bs) (sym (fed line b e)))
cut line (b ∷ []) (suc i) some before at =
    let e : eqb b 10 ≡ false = before 0 (omega arith) in
    rw e (one_left line b ∙ ap (λ l. l ∷ []) (sym (unfed line b e)))
cut line (b ∷ c ∷ bs) (suc i) some before at =
    let e : eqb b 10 ≡ false = before 0 (omega arith) in
    let on = cut (line ++ b ∷ []) (c ∷ bs) i (omega arith) (λ k l. before (suc k) (omega arith)) (λ l. at (omega arith)) in
    rw e (on ∙ ap (λ l. unended l ∷ lines_after [] (drop i bs)) (append_assoc line (b ∷ []) (c ∷ take i bs)))

-- of a text in two parts, the first is what its length says
parts : (x later : List ℕ) (k : ℕ) → length x ≡ min k (length (x ++ later)) → (take k (x ++ later) ≡ x) × (drop k (x ++ later) ≡ later)
parts [] [] k e = (take_all k [] (omega arith), drop_all k [] (omega arith))
parts [] (r ∷ rs) zero e = (refl, refl)
parts [] (r ∷ rs) (suc k) e = absurd (omega arith)
parts (a ∷ x) later zero e = absurd (omega arith)
parts (a ∷ x) later (suc k) e = let h = parts x later k (omega arith) in (ap (λ t. a ∷ t) h.0, h.1)

-- what is cut off up to the first line feed is the first line
first_line : (text x later : List ℕ) (i : ℕ) → text ≡ x ++ later → length x ≡ min (i + 1) (length text)
    → IsFirstMatchOrLen (λ b. eqb b 10) text i → 0 < length text → lines text ≡ unended x ∷ lines later
first_line text x later i whole long first some =
    let same : length x ≡ min (suc i) (length (x ++ later)) = omega (arith, ap length whole) in
    let split = parts x later (suc i) same in
    let front : take (suc i) text ≡ x = ap (take (suc i)) whole ∙ split.0 in
    let back : drop (suc i) text ≡ later = ap (drop (suc i)) whole ∙ split.1 in
    cut [] text i some (λ k l. first.0 k 0 (omega arith) l) (λ l. first.1 l 0) ∙ ap₂ (λ t r. unended t ∷ lines_after [] r) front back

-- after that line, what is left still gives the answer of the whole
pub next_line : (s : Settings) (n : ℕ) (text x later line : List ℕ) (i : ℕ) {whole : Result Contents Unreadable} → text ≡ x ++ later → length x ≡ min (i + 1) (length text)
    → IsFirstMatchOrLen (λ b. eqb b 10) text i → 0 < length text → line ≡ unended x → read_on s n (lines text) ≡ whole
    → and_then (after_line n line s) (λ t. read_on t (n + 1) (lines later)) ≡ whole
next_line s n text x later line i cuts long first some is h =
    ap (λ y. and_then (after_line n y s) (λ t. read_on t (n + 1) (lines later))) is ∙ ap (read_on s n) (sym (first_line text x later i cuts long first some)) ∙ h

-- what refuses a line refuses the whole
pub refused : {A A' B B' : Type 0} (e : ParseError) (view : A → B) (view' : A' → B') (a : Result B Unreadable) (k : B → Result B' Unreadable) (whole : Result B' Unreadable)
    → Parsed (Err e) view a → and_then a k ≡ whole → Parsed (Err e) view' whole
refused (parse_error.Unreadable u) view view' a k whole h is = sym is ∙ ap (λ r. and_then r k) h
refused (parse_error.Memory m) view view' a k whole h is = tt
