-- The step lines are told one by one. Assumes nothing.
use Rattle.std.proofs.Common.{◌≡◌, ℕ, zero, suc, ◌+◌, ◌<◌, List, [], ◌∷◌, ◌++◌, length, get_or, map, take, ap, ◌∙◌, append_assoc, append-nil, arith}
use Rattle.playing.specs.declared.summary.StepLine.{StepLine}
use Rattle.playing.specs.Spelled.{step_text, steps_text}
use Rattle.playing.specs.Summaries.{line_shown}

-- one line more, where the first has number k
steps_from : (ss : List StepLine) (k i n : ℕ) (s : StepLine) → i < length ss → s ≡ get_or ss i s → n ≡ k + i
    → steps_text k (map line_shown (take i ss)) ++ step_text n (line_shown s) ≡ steps_text k (map line_shown (take (suc i) ss))
steps_from [] k i n s l is e = absurd (omega arith)
steps_from (x ∷ xs) k zero n s l is e = let at : n ≡ k = omega arith in cc (append-nil (step_text k (line_shown x)))
steps_from (x ∷ xs) k (suc i) n s l is e =
    append_assoc (step_text k (line_shown x)) (steps_text (k + 1) (map line_shown (take i xs))) (step_text n (line_shown s))
    ∙ ap (λ t. step_text k (line_shown x) ++ t) (steps_from xs (k + 1) i n s (omega arith) is (omega arith))

pub steps_more : (ss : List StepLine) (i : ℕ) (s : StepLine) → i < length ss → s ≡ get_or ss i s
    → steps_text 1 (map line_shown (take i ss)) ++ step_text (i + 1) (line_shown s) ≡ steps_text 1 (map line_shown (take (i + 1) ss))
steps_more ss i s l is =
    let next : suc i ≡ i + 1 = omega arith in
    steps_from ss 1 i (i + 1) s l is (omega arith) ∙ ap (λ n. steps_text 1 (map line_shown (take n ss))) next
