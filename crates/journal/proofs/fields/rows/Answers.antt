-- Each turn reads one part, and refuses the word where it says no number.
use Rattle.std.proofs.Common.{rules, ◌≡◌, ℕ, cond, List, Ok, [], ◌∷◌, ◌++◌, ap, sym, ◌∙◌, ap₂, append-nil, eqb}
use Rattle.std.specs.Slice.Iter.{split_rest, split_done}
use Rattle.std.proofs.lemmas.Fn.{always_returns_same}
use Rattle.std.proofs.lemmas.Result.{err_from_is_err_and}
use Rattle.journal.specs.Calls.{parts, numbers, rows}
use Rattle.journal.proofs.Parts.{left, followed, none_before, one_number, no_number}
use Rattle.journal.proofs.fields.rows.Goals as goal

pub loop-part-init : goal.loop-part-init
loop-part-init c =
    let split = c.split-part-items.ensures in
    let all = ap (λ (s : _). left (split_rest s) (split_done s)) c.into_iter-part-iterator.ensures.into_iter_gives ∙ ap₂ left split.rest split.done in
    ap₂ followed c.new-rows.ensures.items all ∙ none_before (parts c.args.word.now)

pub returns-in_err-short_number : goal.returns-in_err-short_number
returns-in_err-short_number c =
    let it = c.loop-part.part-iterator in
    let later = c.next.new.self in
    let steps = c.in-Some.ensures.steps in
    let first = steps.2 (λ (b : ℕ). eqb b 44) (always_returns_same _ _ _ (λ a r f' h. search rules)) in
    let refused = no_number c.loop-part.rows.items (split_rest it) c.in-Some.part.now (split_rest later) (split_done it) (split_done later)
    steps.0 steps.1 first.1 c.loop-part.invariant _ c.in_err-short_number.ensures in
    let listed : rows c.args.word.now ≡ numbers (parts c.args.word.now) = search rules in
    let p = err_from_is_err_and c.from_residual.result c.from_residual.ensures.1 in
    rw (p.1, p.2) (listed ∙ refused)

pub loop-part-preserved : goal.loop-part-preserved
loop-part-preserved c =
    let it = c.loop-part.part-iterator in
    let later = c.next.new.self in
    let steps = c.in-Some.ensures.steps in
    let first = steps.2 (λ (b : ℕ). eqb b 44) (always_returns_same _ _ _ (λ a r f' h. search rules)) in
    let read = one_number c.loop-part.rows.items (split_rest it) c.in-Some.part.now (split_rest later) (split_done it) (split_done later)
    steps.0 steps.1 first.1 c.loop-part.invariant _ c.in_ok-short_number.ensures in
    let pushed : c.push.new.self.items ≡ c.loop-part.rows.items ++ c.in_ok-short_number.field-0 ∷ [] = search rules in
    ap (λ (ns : List ℕ). followed ns (left (split_rest later) (split_done later))) pushed ∙ read

pub returns : goal.returns
returns c =
    let listed : rows c.args.word.now ≡ numbers (parts c.args.word.now) = search rules in
    let ended : left (split_rest c.loop-part.part-iterator) (split_done c.loop-part.part-iterator) ≡ [] =
    ap (λ b. cond b [] (parts (split_rest c.loop-part.part-iterator))) c.in-None.ensures.steps.0 in
    listed ∙ sym c.loop-part.invariant ∙ ap (followed c.loop-part.rows.items) ended ∙ ap Ok (append-nil c.loop-part.rows.items)
