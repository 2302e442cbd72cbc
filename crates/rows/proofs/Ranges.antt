-- What `all` answers over a list, in the words of the model. Assumes nothing.
use Rattle.std.proofs.Common.{◌≡◌, Bool, not, List, [], ◌∷◌, refl, arith}
use Rattle.std.specs.List.{list_all}
use Rattle.model.specs.Search.{any}

pub all_list : {X : Type 0} (p : X → Bool) (xs : List X) → list_all p xs ≡ not (any (λ x. not (p x)) xs)
all_list p [] = refl
all_list p (x ∷ xs) = let rest = all_list p xs in grind arith
