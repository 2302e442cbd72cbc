-- What is shown is ASCII, so each character is a byte.
use Rattle.std.proofs.Common.{rules, ◌≡◌, ℕ, ◌<◌, List, [], ◌∷◌, IfOk, map, string_bytes, refl, ◌∙◌, ap₂, ◌++◌, arith}
use Rattle.std.specs.Prelude.{encode_utf8_all}
use Rattle.std.proofs.lemmas.Str.{encode_ascii}
use Rattle.std.proofs.lemmas.Bool.Decides.{nat_tests}
use Rattle.std.proofs.lemmas.Result.{IfOk-weaker}
use Rattle.playing.specs.Spelled.{shown_byte, shown_name}
use Rattle.playing.proofs.summary.printable_name.Goals as goal

small : (b : ℕ) → shown_byte b < 128
small b = grind (arith, nat_tests)

shown_ascii : (name : List ℕ) → encode_utf8_all (map shown_byte name) ≡ shown_name name
shown_ascii [] = refl
shown_ascii (b ∷ bs) = ap₂ ◌++◌ (encode_ascii (shown_byte b) (small b)) (shown_ascii bs)

pub returns : goal.returns
returns c =
    let mapped : IfOk c.collect.result (λ t. string_bytes t ≡ encode_utf8_all (map shown_byte c.args.name.now)) = search rules in
    IfOk-weaker c.collect.result _ _ (λ t h. h ∙ shown_ascii c.args.name.now) mapped
