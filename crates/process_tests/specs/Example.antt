-- A small competition: enter, pay the fee and hand in the card, publish, check. Assumes nothing.
use Rattle.std.specs.Prelude.{ℕ, true, false, List, [], ◌∷◌, codes}
use Rattle.values.specs.declared.Flow.TheVariants.{One, All}
use Rattle.values.specs.declared.Kind.TheVariants.{Score, Fee}
use Rattle.process.specs.declared.parts.Arrow.{Arrow}
use Rattle.process.specs.Stored.{Named, Plan}

-- a step of no other kind: a score, one way in and out, public, with a counterpart
abbrev plain : List ℕ → Named
plain name = record {
  step = record { savepoint = false; counterpart = true; private = false; entry = One; exit = One; kind = Score };
  name = name;
}

-- a savepoint, which is left by all its arrows, with a fee
abbrev enter : Named
enter = record {
  step = record { savepoint = true; counterpart = true; private = false; entry = One; exit = All; kind = Fee };
  name = codes "Enter";
}

-- what it holds is secret
abbrev card : Named
card = record {
  step = record { savepoint = false; counterpart = true; private = true; entry = One; exit = One; kind = Score };
  name = codes "Card";
}

-- it waits for all its arrows, and cannot be compensated
abbrev publish : Named
publish = record {
  step = record { savepoint = false; counterpart = false; private = false; entry = All; exit = One; kind = Score };
  name = codes "Publish";
}

abbrev arrow : ℕ → ℕ → Arrow
arrow a b = record { from = a; to = b }

abbrev pub competition : Plan
competition = record {
  steps = enter ∷ plain (codes "Fee") ∷ card ∷ publish ∷ plain (codes "Check") ∷ [];
  arrows = arrow 1 2 ∷ arrow 1 3 ∷ arrow 2 4 ∷ arrow 3 4 ∷ arrow 4 5 ∷ [];
}
