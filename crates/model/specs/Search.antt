-- Searches among numbers and in lists. Assumes nothing.
use Rattle.std.specs.Prelude.{ℕ, zero, suc, Bool, false, cond, ◌||◌, List, [], ◌∷◌, ◌++◌, Some, None, Option, ◌==◌, nat_eq}
use Rattle.std.specs.Option.{option_or}

-- some number below n passes the test
abbrev pub any_below : ℕ → (ℕ → Bool) → Bool
any_below zero p = false
any_below (suc n) p = any_below n p || p n

-- the least number below n that passes the test
abbrev pub first_below : ℕ → (ℕ → Bool) → Option ℕ
first_below zero p = None
first_below (suc n) p = option_or (first_below n p) (cond (p n) (Some n) None)

-- what each number below n gives, in rising order
abbrev pub each_below : {X : Type 0} → ℕ → (ℕ → List X) → List X
each_below zero f = []
each_below (suc n) f = each_below n f ++ f n

-- the numbers below n that pass the test, rising
abbrev pub all_below : ℕ → (ℕ → Bool) → List ℕ
all_below n p = each_below n (λ k. cond (p k) (k ∷ []) [])

-- the same, falling
abbrev pub down_from : ℕ → (ℕ → Bool) → List ℕ
down_from zero p = []
down_from (suc n) p = cond (p n) (n ∷ down_from n p) (down_from n p)

-- some element of a list passes the test
abbrev pub any : {X : Type 0} → (X → Bool) → List X → Bool
any p [] = false
any p (x ∷ xs) = p x || any p xs

-- the number is in the list
abbrev pub has : ℕ → List ℕ → Bool
has k xs = any (nat_eq k) xs

-- f, but x at one number
abbrev pub at_put : {X : Type 0} → (ℕ → X) → ℕ → X → ℕ → X
at_put f k x j = cond (j == k) x (f j)

-- x stands in the list
pub data In {X : Type 0} (x : X) : List X → Type 0 where
  here : {xs : List X} → In x (x ∷ xs)
  there : {y : X} {xs : List X} → In x xs → In x (y ∷ xs)
