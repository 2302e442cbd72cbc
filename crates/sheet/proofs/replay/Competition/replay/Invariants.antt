-- The events so far were taken, and told of in their places; the other places are as they were.
use Rattle.std.proofs.Common.{◌≡◌, take, drop}
use Rattle.std.specs.List.{zip}
use Rattle.sheet.specs.Runs.{process_of, TakesAll}
use Rattle.sheet.proofs.replay.Competition.replay.Given as goal

abbrev pub invariant-loop-i : goal.invariant-loop-i
invariant-loop-i g l =
    record {
      taken : TakesAll g.X.Host.view g.X.Host.makes g.X.Host.goes g.X.Controls.declines g.X.Controls.shuts g.X.Controls.leaves
          l.initial.self (zip l.events (take l.i l.places)) l.self;
      rest : drop l.i l.places ≡ drop l.i l.initial.places;
      process : process_of l.self ≡ process_of l.initial.self;
    }
