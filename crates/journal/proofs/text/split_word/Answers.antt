-- The first word begins past the blanks, and ends before the next.
use Rattle.std.proofs.Common.{length, take, drop, arith, ◌-◌, ap, ◌∙◌, sym, ap₂, ◌∷◌, ℕ, List, not, refl}
use Rattle.std.proofs.lemmas.List.Sums.{prefix_len-le-length}
use Rattle.journal.specs.Text.{blank, words}
use Rattle.journal.proofs.Words.{no_word, first_word}
use Rattle.journal.proofs.text.split_word.Goals as goal

pub returns-in_err-line : goal.returns-in_err-line
returns-in_err-line c = rw c.from_residual.ensures (no_word c.args.line.now c.in_err-line.ensures)

pub split_at-requires : goal.split_at-requires
split_at-requires c = omega (arith, c.word_len.ensures, prefix_len-le-length (λ b. not (blank b)) (take (length c.args.line.now - c.in_ok-line.field-0) (drop c.in_ok-line.field-0 c.args.line.now)))

pub returns : goal.returns
returns c =
    let after = take (length c.args.line.now - c.in_ok-line.field-0) (drop c.in_ok-line.field-0 c.args.line.now) in
    first_word c.args.line.now c.in_ok-line.field-0 c.in_ok-line.ensures after refl
    ∙ ap (λ (n : ℕ). take n after ∷ words (drop n after)) (sym c.word_len.ensures)
    ∙ ap₂ (λ (w r : List ℕ). w ∷ words r) (sym c.split_at.ensures.front) (sym c.split_at.ensures.back)
