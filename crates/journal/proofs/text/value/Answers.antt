use Rattle.std.proofs.Common.{rules, ◌≡◌, fold, ◌∙◌}
use Rattle.journal.proofs.Digits.{more, saturated}
use Rattle.journal.proofs.text.value.Goals as goal

pub returns : goal.returns
returns c =
    let folded : c.fold.result ≡ fold (more 18446744073709551615) 0 c.args.digits.now = search rules in
    folded ∙ saturated 18446744073709551615 c.args.digits.now
