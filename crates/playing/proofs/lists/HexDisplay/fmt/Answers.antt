-- Each turn writes the two digits of one byte.
use Rattle.std.proofs.Common.{◌≡◌, ℕ, ◌+◌, ◌<◌, ◌/◌, ◌%◌, false, List, [], ◌∷◌, ◌++◌, length, get_or, take, rules, arith}
use Rattle.std.proofs.Output.{has_written_append, has_written_of_eq}
use Rattle.std.proofs.lemmas.Fmt.{hex_byte}
use Rattle.std.proofs.lemmas.Grind.{common_steps}
use Rattle.playing.specs.Spelled.{hex_digit, hex_text}
use Rattle.playing.proofs.lists.HexDisplay.fmt.Goals as goal

-- one byte more
hex_more : (bytes : List ℕ) (i : ℕ) → i < length bytes
    → hex_text (take i bytes) ++ hex_digit (get_or bytes i 0 / 16) ∷ hex_digit (get_or bytes i 0 % 16) ∷ [] ≡ hex_text (take (i + 1) bytes)
hex_more bytes i l = grind (arith, common_steps)

pub loop-byte-preserved : goal.loop-byte-preserved
loop-byte-preserved g c = λ p.
    let bytes = c.args.self.now.0.now in
    let i = c.loop-byte.byte-index in
    has_written_of_eq _ _ _ _ _ (hex_more bytes i c.loop-byte-test.true)
    (has_written_append _ _ _ _ _ _ (c.loop-byte.invariant p)
    (has_written_of_eq _ _ _ _ _ (hex_byte false (get_or bytes i 0) (search rules)) (search rules)))
