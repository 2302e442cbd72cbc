-- The bytes of a journal: its lines, words, numbers and hex digits. Assumes nothing.
use Rattle.std.specs.Prelude.{◌≡◌, ℕ, ◌+◌, ◌-◌, ◌*◌, ◌%◌, Bool, cond, ◌&&◌, ◌||◌, List, [], ◌∷◌, ◌++◌, length, take, is_some, Some, None, Ok, Err, fold, Option, Result, MatchResult, ◌==◌, nat_le, slice_index}
use Rattle.std.specs.Bool.{⊤}
use Rattle.std.specs.List.{list_all}
use Rattle.std.specs.Option.{unwrap_or}
use Rattle.journal.specs.declared.LineError.{LineError}
use Rattle.journal.specs.declared.LineError.TheVariants as line_error
use Rattle.journal.specs.declared.Wrong.{Wrong}
use Rattle.journal.specs.declared.Wrong.TheVariants.{TooFewWords, TooManyWords, NotANumber, MissingNumber, NumberTooLarge, NotHex, OddHex}

-- r is the answer a, seen through `view`
abbrev pub Told : {A B E : Type 0} → Result A E → (A → B) → Result B E → Type 0
Told r view a = MatchResult r (λ x. a ≡ Ok (view x)) (λ e. a ≡ Err e)

-- unless memory ran out, r is the answer a, seen through `view`
abbrev pub ToldUnlessFull : {A B : Type 0} → Result A LineError → (A → B) → Result B Wrong → Type 0
ToldUnlessFull (Ok x) view a = a ≡ Ok (view x)
ToldUnlessFull (Err (line_error.Wrong w)) view a = a ≡ Err w
ToldUnlessFull (Err (line_error.Memory e)) view a = ⊤

-- one after the other, up to the first that is refused
abbrev pub and_then : {A B E : Type 0} → Result A E → (A → Result B E) → Result B E
and_then (Ok a) k = k a
and_then (Err e) k = Err e

-- a line or a word before others, unless it is empty
abbrev pub unless_empty : List ℕ → List (List ℕ) → List (List ℕ)
unless_empty [] ls = ls
unless_empty (b ∷ bs) ls = (b ∷ bs) ∷ ls

-- without a carriage return at its end
abbrev pub trimmed : List ℕ → List ℕ
trimmed l = cond (slice_index l (length l - 1) == 13) (take (length l - 1) l) l

-- a line as it is cut off a text: only one that ends with a line feed loses a carriage return before that
abbrev pub unended : List ℕ → List ℕ
unended l = cond (slice_index l (length l - 1) == 10) (trimmed (take (length l - 1) l)) l

-- the lines of a text, where `line` was read of the first of them before
abbrev pub lines_after : List ℕ → List ℕ → List (List ℕ)
lines_after line [] = unless_empty line []
lines_after line (b ∷ bs) = cond (b == 10) (trimmed line ∷ lines_after [] bs) (lines_after (line ++ b ∷ []) bs)

abbrev pub lines : List ℕ → List (List ℕ)
lines text = lines_after [] text

-- a space or a tab
abbrev pub blank : ℕ → Bool
blank b = b == 32 || b == 9

-- printable ASCII without the space
abbrev pub printable : ℕ → Bool
printable b = nat_le 33 b && nat_le b 126

abbrev pub digit : ℕ → Bool
digit b = nat_le 48 b && nat_le b 57

-- what a hex digit says, in either case
abbrev pub nibble : ℕ → Option ℕ
nibble b =
    cond (digit b) (Some (b - 48)) (cond (nat_le 97 b && nat_le b 102) (Some (b - 87)) (cond (nat_le 65 b && nat_le b 70) (Some (b - 55)) None))

abbrev pub hex : ℕ → Bool
hex b = is_some (nibble b)

-- what may stand in a line
abbrev pub allowed : ℕ → Bool
allowed b = blank b || printable b

-- the words of a line, where `word` was read of the first of them before
abbrev pub words_after : List ℕ → List ℕ → List (List ℕ)
words_after word [] = unless_empty word []
words_after word (b ∷ bs) = cond (blank b) (unless_empty word (words_after [] bs)) (words_after (word ++ b ∷ []) bs)

abbrev pub words : List ℕ → List (List ℕ)
words line = words_after [] line

-- the one word that there should be
abbrev pub only : List (List ℕ) → Result (List ℕ) Wrong
only [] = Err TooFewWords
only (w ∷ []) = Ok w
only (w ∷ v ∷ ws) = Err TooManyWords

-- the same of no words, of two, of four and of five
abbrev pub no_words : List (List ℕ) → Result (Unit {0}) Wrong
no_words [] = Ok tt
no_words (w ∷ ws) = Err TooManyWords

abbrev pub two : List (List ℕ) → Result (List ℕ × List ℕ) Wrong
two [] = Err TooFewWords
two (w ∷ ws) = and_then (only ws) (λ v. Ok (w, v))

abbrev pub four : List (List ℕ) → Result (List ℕ × List ℕ × List ℕ × List ℕ) Wrong
four [] = Err TooFewWords
four (w ∷ []) = Err TooFewWords
four (w ∷ v ∷ ws) = and_then (two ws) (λ p. Ok (w, v, p.0, p.1))

abbrev pub five : List (List ℕ) → Result (List ℕ × List ℕ × List ℕ × List ℕ × List ℕ) Wrong
five [] = Err TooFewWords
five (w ∷ ws) = and_then (four ws) (λ p. Ok (w, p.0, p.1, p.2, p.3))

-- what decimal digits say
abbrev pub value : List ℕ → ℕ
value ds = fold (λ v b. 10 * v + (b - 48)) 0 ds

-- the number that a word says: decimal digits, at least one, and at most the limit
abbrev pub number : ℕ → List ℕ → Result ℕ Wrong
number limit [] = Err MissingNumber
number limit (d ∷ ds) =
    cond (list_all digit (d ∷ ds)) (cond (nat_le (value (d ∷ ds)) limit) (Ok (value (d ∷ ds))) (Err NumberTooLarge)) (Err NotANumber)

-- the byte that two digits say
abbrev pub pair : ℕ → ℕ → ℕ
pair high low = 16 * unwrap_or (nibble high) 0 + unwrap_or (nibble low) 0

abbrev pub paired : List ℕ → List ℕ
paired [] = []
paired (a ∷ []) = []
paired (a ∷ b ∷ ds) = pair a b ∷ paired ds

-- the bytes that a word of hex digits says
abbrev pub bytes_of_hex : List ℕ → Result (List ℕ) Wrong
bytes_of_hex ds = cond (list_all hex ds) (cond (length ds % 2 == 0) (Ok (paired ds)) (Err OddHex)) (Err NotHex)
