-- Each line keeps what is left in step with the answer of the whole, or refuses both.
use Rattle.std.proofs.Common.{rules, ℕ, ◌+◌, length, sym, ap, ◌∙◌, arith, eqb}
use Rattle.std.specs.Slice.Iter.{split_inclusive_rest}
use Rattle.std.proofs.lemmas.List.{length-append}
use Rattle.std.proofs.lemmas.Fn.{always_returns_same}
use Rattle.std.proofs.lemmas.Result.{err_from_is_err_and}
use Rattle.journal.specs.Text.{and_then, lines}
use Rattle.journal.specs.Settings.{read_on, sofar, contents}
use Rattle.journal.proofs.Reading.{next_line, refused}
use Rattle.journal.proofs.settings.parse.Goals as goal

pub returns-in_err-take : goal.returns-in_err-take
returns-in_err-take c =
    let steps = c.in-Some.ensures.steps in
    let later = split_inclusive_rest c.next.new.self in
    let first = steps.1.2 (λ (b : ℕ). eqb b 10) (always_returns_same _ _ _ (λ a r f' h. search rules)) in
    let next = next_line (sofar c.loop-ended.draft) c.loop-ended.line (split_inclusive_rest c.loop-ended.ended-iterator) c.in-Some.ended.now later
    c.unended.result.now steps.1.0 steps.0 steps.1.1 first.1 steps.2 c.unended.ensures c.loop-ended.invariant.1 in
    let p = err_from_is_err_and c.from_residual.result c.from_residual.ensures.1 in
    rw (p.1, p.2) (refused c.in_err-take.field-0.0 _ contents _ (λ t. read_on t (c.loop-ended.line + 1) (lines later)) _ c.in_err-take.ensures next)

pub loop-ended-preserved : goal.loop-ended-preserved
loop-ended-preserved c =
    let steps = c.in-Some.ensures.steps in
    let later = split_inclusive_rest c.next.new.self in
    let first = steps.1.2 (λ (b : ℕ). eqb b 10) (always_returns_same _ _ _ (λ a r f' h. search rules)) in
    let next = next_line (sofar c.loop-ended.draft) c.loop-ended.line (split_inclusive_rest c.loop-ended.ended-iterator) c.in-Some.ended.now later
    c.unended.result.now steps.1.0 steps.0 steps.1.1 first.1 steps.2 c.unended.ensures c.loop-ended.invariant.1 in
    let read = ap (λ r. and_then r (λ t. read_on t (c.loop-ended.line + 1) (lines later))) (sym c.in_ok-take.ensures) in
    (omega (arith, steps.1.1, steps.2, ap length steps.0, length-append c.in-Some.ended.now later, c.loop-ended.invariant.0), read ∙ next)
