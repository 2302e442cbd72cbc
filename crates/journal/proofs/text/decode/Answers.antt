use Rattle.std.proofs.Common.{rules, ◌≡◌, ◌/◌, IfOk, length, map, ◌∙◌}
use Rattle.std.specs.Simd.{first_chunks}
use Rattle.std.proofs.lemmas.Result.{IfOk-weaker}
use Rattle.journal.proofs.Hex.{pair_of, chunks_paired}
use Rattle.journal.proofs.text.decode.Goals as goal

pub returns : goal.returns
returns c =
    let mapped : IfOk c.collect.result (λ v. v.items ≡ map pair_of (first_chunks 2 (length c.args.digits.now / 2) c.args.digits.now)) = search rules in
    IfOk-weaker c.collect.result _ _ (λ v h. h ∙ chunks_paired c.args.digits.now) mapped
