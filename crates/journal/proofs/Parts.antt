-- The parts of a word are read one by one. Assumes nothing.
use Rattle.std.proofs.Common.{◌≡◌, ℕ, Bool, true, false, cond, List, [], ◌∷◌, ◌++◌, length, get_or, Ok, Err, Result, sym, refl, ap, ◌∙◌, subst, append_assoc, arith, eqb}
use Rattle.std.specs.Bool.{MatchBool}
use Rattle.std.specs.List.{All, IsFirstMatchOrLen}
use Rattle.std.proofs.lemmas.Grind.{common_steps}
use Rattle.std.proofs.lemmas.List.Splits.{slice_split_none, slice_split_at}
use Rattle.journal.specs.declared.Wrong.{Wrong}
use Rattle.journal.specs.Text.{and_then, number}
use Rattle.journal.specs.Calls.{parts, numbers}

abbrev comma : ℕ → Bool
comma b = eqb b 44

-- the parts that are left, where `rest` is left of the word, unless the last part came
abbrev pub left : List ℕ → Bool → List (List ℕ)
left rest done = cond done [] (parts rest)

-- what is cut off up to the first comma is the first part
first_part : (rest part later : List ℕ) (done : Bool) → MatchBool done (rest ≡ part) ((y : ℕ) × (rest ≡ part ++ (y ∷ later)))
    → IsFirstMatchOrLen comma rest (length part) → parts rest ≡ part ∷ left later done
first_part rest part later true is first =
    ap parts is ∙ slice_split_none comma part (λ k d l. subst (λ (xs : List ℕ). comma (get_or xs k d) ≡ false) is (first.0 k d (omega arith) l))
first_part rest part later false is first =
    let front : All (λ b. comma b ≡ false) part = λ k d l. let a = first.0 k d (omega arith) l in let b = is.1 in grind (arith, common_steps) in
    let hit : comma is.0 ≡ true = let b = is.1 in let a = first.1 (grind (arith, common_steps)) is.0 in grind (arith, common_steps) in
    ap parts is.1 ∙ slice_split_at comma part is.0 later front hit

-- the numbers ns, and then those that words say
abbrev pub followed : List ℕ → List (List ℕ) → Result (List ℕ) Wrong
followed ns ws = and_then (numbers ws) (λ ms. Ok (ns ++ ms))

pub none_before : (ws : List (List ℕ)) → followed [] ws ≡ numbers ws
none_before ws = same (numbers ws)
  where
    same : (r : Result (List ℕ) Wrong) → and_then r (λ ms. Ok ms) ≡ r
    same (Ok ms) = refl
    same (Err e) = refl

-- the numbers so far, and those of the parts that are left, are all numbers; the next part is read
module _ (ns rest part later : List ℕ) (was done : Bool) {whole : Result (List ℕ) Wrong} (more : was ≡ false)
    (is : MatchBool done (rest ≡ part) ((y : ℕ) × (rest ≡ part ++ (y ∷ later)))) (first : IsFirstMatchOrLen comma rest (length part))
    (inv : followed ns (left rest was) ≡ whole) where
  abbrev with_next : Result ℕ Wrong → Result (List ℕ) Wrong
  with_next r = and_then (and_then r (λ n. and_then (numbers (left later done)) (λ ms. Ok (n ∷ ms)))) (λ ms. Ok (ns ++ ms))

  shown : with_next (number 65535 part) ≡ whole
  shown = ap (followed ns) (sym (ap (left rest) more ∙ first_part rest part later done is first)) ∙ inv

  pub one_number : (n : ℕ) → Ok n ≡ number 65535 part → followed (ns ++ n ∷ []) (left later done) ≡ whole
  one_number n e = step (numbers (left later done)) ∙ ap with_next e ∙ shown
    where
      step : (r : Result (List ℕ) Wrong)
          → and_then r (λ ms. Ok ((ns ++ n ∷ []) ++ ms)) ≡ and_then (and_then r (λ ms. Ok (n ∷ ms))) (λ ms. Ok (ns ++ ms))
      step (Ok ms) = ap Ok (append_assoc ns (n ∷ []) ms)
      step (Err f) = refl

  pub no_number : (e : Wrong) → Err e ≡ number 65535 part → whole ≡ Err e
  no_number e h = sym (ap with_next h ∙ shown)
