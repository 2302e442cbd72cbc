-- The lemmas that the laws of the book as a host cite: what it shows is sound, and its records after none or some calls.
-- Assumes nothing.
use Rattle.std.specs.Prelude.{◌≡◌, ℕ, ◌≤◌, true, false, not, List, [], ◌∷◌, length, map, is_some, Some, None, Option, refl}
use Rattle.std.proofs.Common.{ap, ◌∙◌, arith}
use Rattle.std.proofs.lemmas.Bool.Decides.{nat_tests}
use Rattle.std.proofs.lemmas.List.{length-map}
use Rattle.host.specs.Laws.{prefix_stays, prefix_goes_on, prefix_longer, rest_stays, rest_goes_on}
use Rattle.host.specs.Table.{IsPrefix}
use Rattle.host.specs.Keys.{RowKey, is_row}
use Rattle.host.specs.View.{Sound, is_unknown}
use Rattle.scorebook.specs.declared.records.Record.{Record}
use Rattle.scorebook.specs.declared.book.ScoreBook.{ScoreBook}
use Rattle.scorebook.specs.Records.{find_in, state_in, entry_in, well, booked, without_state}
use Rattle.scorebook.specs.Book.{BookGoes, book_view, records_of, rest_of}

-- there is no record of what is no row
pub find_outside : (xs : List Record) (n : RowKey) → well xs ≡ true → is_row n ≡ false → find_in xs n ≡ None
find_outside [] n w o = refl
find_outside (x ∷ xs) n w o = let ih = find_outside xs n in grind (arith, nat_tests)

-- a row has a record exactly if it is known
pub find_known : (xs : List Record) (n : RowKey) → well xs ≡ true
    → is_some (find_in xs n) ≡ not (is_unknown (state_in (find_in xs n)))
find_known [] n w = refl
find_known (x ∷ xs) n w = let ih = find_known xs n in grind (arith, nat_tests)

same_some : (o : Option Record) → is_some (entry_in o) ≡ is_some o
same_some None = refl
same_some (Some r) = refl

-- what a book shows is sound
pub booked_sound : (free : ℕ) (xs : List Record) → well xs ≡ true → Sound (booked free xs)
booked_sound free xs w = record {
  outside = λ n o. ap state_in (find_outside xs n w o);
  entries = λ n. same_some (find_in xs n) ∙ find_known xs n w;
}

pub book_sound : (b : ScoreBook) → Sound (book_view b)
book_sound b = booked_sound _ _ b.sound

-- as many records without their states
without_states : (xs ys : List Record) → IsPrefix (map without_state xs) (map without_state ys) → length xs ≤ length ys
without_states xs ys p =
    let m = length-map xs without_state in let n = length-map ys without_state in
    let longer = prefix_longer (map without_state xs) (map without_state ys) p in
    omega (arith, m, n, longer)

pub book_stays : (b : ScoreBook) → BookGoes b b
book_stays b = record { records = prefix_stays (map without_state (records_of b)); rest = rest_stays (length (records_of b)) (rest_of b) }

pub book_goes_on : (a b c : ScoreBook) → BookGoes a b → BookGoes b c → BookGoes a c
book_goes_on a b c p q = record {
  records = prefix_goes_on (map without_state (records_of a)) (map without_state (records_of b)) (map without_state (records_of c)) p.records q.records;
  rest = rest_goes_on (length (records_of a)) (length (records_of b)) (length (records_of c)) (rest_of a) (rest_of b) (rest_of c)
      (without_states (records_of a) (records_of b) p.records) (without_states (records_of b) (records_of c) q.records) p.rest q.rest;
}
