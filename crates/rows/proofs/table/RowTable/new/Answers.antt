use Rattle.std.proofs.Common.{length, sym, ap, ◌∙◌}
use Rattle.rows.proofs.Highest.{none_highest}
use Rattle.rows.proofs.States.{none_in_any}
use Rattle.rows.proofs.Followers.{no_followers, tell}
use Rattle.rows.proofs.table.RowTable.new.Goals as goal

pub invariant_of-result-clause-told : goal.invariant_of-result-clause-told
invariant_of-result-clause-told c =
    let rows = c.in_ok-rows.ensures.items in
    let sets = c.in_ok-followers.ensures.items in
    tell (record {
      followers = no_followers _ _ sets rows;
      level = c.in_ok-followers.ensures.len ∙ sym (ap length rows);
      places = c.in_ok-followers.ensures.capacity;
      states = none_in_any _ _ rows c.new-states.ensures;
      highest = none_highest _ _ rows c.new-highest.ensures;
    })
