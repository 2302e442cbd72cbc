use Rattle.std.proofs.Common.{◌≡◌, ℕ, ◌<◌, Bool, true, ◌&&◌, arith}
use Rattle.std.proofs.lemmas.Bool.{and_from, and_parts, and_right, ltb-true}
use Rattle.graph.specs.Column.{marked}
use Rattle.graph.specs.Held.{held}
use Rattle.rowset.specs.Members.{is_number, contains}
use Rattle.rowset.proofs.Members.{within_numbers}
use Rattle.rowset.proofs.Loops.{up_to_insert}
use Rattle.rows.proofs.struck.marked_rows.Goals as goal

pub loop-number-preserved : goal.loop-number-preserved
loop-number-preserved c =
    let xs = held c.args.marks.now in
    let n = c.in-Some.number in
    let passes : ℕ → Bool = λ k. is_number k && marked xs k in
    let low : n < 257 = ltb-true n 257 (and_parts _ _ c.in-Some.ensures.1).0 in
    let number : is_number n ≡ true = within_numbers n (omega (arith, c.in-Some.ensures.0)) (omega arith) in
    let here : passes n ≡ true = and_from (is_number n) (marked xs n) number c.in-Some.ensures.1 in
    up_to_insert (marked xs) passes (λ k out. and_right (is_number k) (marked xs k) out) c.in-Some.ensures
    (contains c.loop-number.set) (contains c.insert.new.self) c.loop-number.invariant number here c.insert.ensures
