-- Words are cut off a line's front. Assumes nothing.
use Rattle.std.proofs.Common.{◌≡◌, ℕ, ◌-◌, ◌<◌, ◌≤◌, Bool, true, false, not, List, [], ◌∷◌, ◌++◌, length, take, drop, Some, None, sym, refl, ap, ◌∙◌, subst, append_assoc, append-nil, one-add, arith}
use Rattle.std.specs.List.{prefix_len, position}
use Rattle.std.proofs.lemmas.List.{take_all, drop_all, length-drop}
use Rattle.std.proofs.lemmas.Bool.Decides.{nat_tests}
use Rattle.journal.specs.Text.{blank, unless_empty, words_after, words}

abbrev blanks : List ℕ → ℕ
blanks bs = prefix_len (λ b. not (not (blank b))) bs

abbrev solids : List ℕ → ℕ
solids bs = prefix_len (λ b. not (blank b)) bs

-- blanks at the front make no word
skip_blanks : (bs : List ℕ) → words bs ≡ words (drop (blanks bs) bs)
skip_blanks [] = refl
skip_blanks (b ∷ bs) = step (blank b) refl (skip_blanks bs)
  where
    step : (t : Bool) → blank b ≡ t → words bs ≡ words (drop (blanks bs) bs) → words (b ∷ bs) ≡ words (drop (blanks (b ∷ bs)) (b ∷ bs))
    step true e h = rw (e, one-add) h
    step false e h = rw e (rw e refl)

-- the bytes up to a blank are the rest of the word
cut_word : (word bs : List ℕ) → words_after word bs ≡ unless_empty (word ++ take (solids bs) bs) (words (drop (solids bs) bs))
cut_word word [] = ap (λ w. unless_empty w []) (sym (append-nil word))
cut_word word (b ∷ bs) = step (blank b) refl (cut_word (word ++ b ∷ []) bs)
  where
    step : (t : Bool) → blank b ≡ t → words_after (word ++ b ∷ []) bs ≡ unless_empty ((word ++ b ∷ []) ++ take (solids bs) bs) (words (drop (solids bs) bs))
        → words_after word (b ∷ bs) ≡ unless_empty (word ++ take (solids (b ∷ bs)) (b ∷ bs)) (words (drop (solids (b ∷ bs)) (b ∷ bs)))
    step true e h = rw (e, append-nil) (rw e refl)
    step false e h = rw (e, one-add) (rw append_assoc at h)

-- what follows the blanks, if anything, begins with a word
solid_next : (bs : List ℕ) → 0 < length (drop (blanks bs) bs) → 0 < solids (drop (blanks bs) bs)
solid_next [] l = absurd (omega arith)
solid_next (b ∷ bs) l = step (blank b) refl (solid_next bs) l
  where
    step : (t : Bool) → blank b ≡ t → (0 < length (drop (blanks bs) bs) → 0 < solids (drop (blanks bs) bs))
        → 0 < length (drop (blanks (b ∷ bs)) (b ∷ bs)) → 0 < solids (drop (blanks (b ∷ bs)) (b ∷ bs))
    step true e f l = rw (e, one-add) (f (rw (e, one-add) at l))
    step false e f l = rw e (rw e (omega arith))

-- where no word begins, there is none
pub no_word : (line : List ℕ) → None ≡ position (λ b. not (blank b)) line → words line ≡ []
no_word line none =
    let past : length line ≤ blanks line = grind (arith, nat_tests) in
    skip_blanks line ∙ ap words (drop_all (blanks line) line past)

module _ (line : List ℕ) (m : ℕ) (found : Some m ≡ position (λ b. not (blank b)) line) where
  begins : m ≡ blanks line
  begins = grind (arith, nat_tests)

  within : m < length line
  within = grind (arith, nat_tests)

  -- the first word, from where it begins to the next blank
  pub first_word : (after : List ℕ) → after ≡ take (length line - m) (drop m line) → words line ≡ take (solids after) after ∷ words (drop (solids after) after)
  first_word after is =
      let all : after ≡ drop m line = is ∙ take_all (length line - m) (drop m line) (omega (arith, length-drop m line)) in
      let from : after ≡ drop (blanks line) line = all ∙ ap (λ k. drop k line) begins in
      let long : 0 < length after = omega (arith, ap length all, length-drop m line, within) in
      let some : 0 < solids after = subst (λ l. 0 < solids l) (sym from) (solid_next line (subst (λ l. 0 < length l) from long)) in
      skip_blanks line ∙ ap words (sym from) ∙ cut_word [] after ∙ full after some
    where
      full : (bs : List ℕ) → 0 < solids bs → unless_empty (take (solids bs) bs) (words (drop (solids bs) bs)) ≡ take (solids bs) bs ∷ words (drop (solids bs) bs)
      full [] l = absurd (omega arith)
      full (b ∷ bs) l = step (blank b) refl l
        where
          step : (t : Bool) → blank b ≡ t → 0 < solids (b ∷ bs)
              → unless_empty (take (solids (b ∷ bs)) (b ∷ bs)) (words (drop (solids (b ∷ bs)) (b ∷ bs))) ≡ take (solids (b ∷ bs)) (b ∷ bs) ∷ words (drop (solids (b ∷ bs)) (b ∷ bs))
          step true e l = absurd (omega (arith, rw e at l))
          step false e l = rw (e, one-add) refl
