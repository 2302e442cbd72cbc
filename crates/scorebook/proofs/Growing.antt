-- Records stay where they are by one call. Assumes nothing.
use Rattle.std.proofs.Common.{◌≡◌, List, [], ◌∷◌, length, map, arith}
use Rattle.std.proofs.lemmas.Bool.Decides.{nat_tests}
use Rattle.values.specs.declared.HostState.{HostState}
use Rattle.host.specs.Keys.{RowKey}
use Rattle.scorebook.specs.declared.records.Record.{Record}
use Rattle.scorebook.specs.Records.{without_state, turned}

-- a record in another state is the same but for it
pub turned_same : (xs : List Record) (row : RowKey) (to : HostState) → map without_state (turned xs row to) ≡ map without_state xs
turned_same [] row to = grind arith
turned_same (x ∷ xs) row to = let ih = turned_same xs row to in grind (arith, nat_tests)

pub turned_length : (xs : List Record) (row : RowKey) (to : HostState) → length (turned xs row to) ≡ length xs
turned_length [] row to = grind arith
turned_length (x ∷ xs) row to = let ih = turned_length xs row to in grind (arith, nat_tests)
