-- The competition's world and its switches, after the line of the process.
use Rattle.playing.proofs.play.Play.of.Goals as goal

pub returns-clause-played : goal.returns-clause-played
returns-clause-played c =
    let none = c.default.ensures in
    λ i. record {
      world = c.in_ok-competition.ensures.world i;
      switches = c.in_ok-competition.ensures.on i;
      printed = c.in_ok-printed.ensures i;
      calls = record { all = none.0 i; accepted = none.1.0 i; declined = none.1.1 i };
    }

pub invariant_of-result : goal.invariant_of-result
invariant_of-result c = record { order = c.in_ok-competition.ensures.order }
