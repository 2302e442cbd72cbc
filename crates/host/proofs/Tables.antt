-- A table with room takes what is pushed.
use Rattle.std.proofs.Common.{◌≡◌, ℕ, ◌<◌, Bool, true, cond, List, ap, ◌∙◌, arith, nat_lt}
use Rattle.std.proofs.lemmas.Bool.Decides.{nat_tests}

pub has_room : {ok : Bool} {n : ℕ} → 0 < n → ok ≡ nat_lt 0 n → ok ≡ true
has_room room test = grind (arith, nat_tests)

pub all_pushed : {T : Type 0} {ok : Bool} {xs : List T} (ys zs : List T) → ok ≡ true → xs ≡ cond ok ys zs → xs ≡ ys
all_pushed ys zs ok is = is ∙ ap (λ b. cond b ys zs) ok
