-- Each answer goes by what the column and the line are afterwards.
use Rattle.std.proofs.Common.{◌<◌, length, sym, rules}
use Rattle.graph.specs.Waiting.{waiting, places}
use Rattle.graph.proofs.Takings.{place_free, wide_taken, room_taken, admitted}
use Rattle.graph.proofs.traversal.Traversal.admit.Goals as goal

pub invariant_of-self-2 : goal.invariant_of-self-2
invariant_of-self-2 c =
    let s = c.args.self.now in
    let new = sym c.if-is_set.ensures in
    let free : length (waiting s.queue.now) < places s.queue.now = place_free s c.args.t c.requires new in
    record {
      few = s.few;
      wide = wide_taken s c.args.t c.requires new (search rules);
      room = room_taken s c.args.t c.requires new (search rules) (search rules) (search rules);
    }

pub returns-clause-taken : goal.returns-clause-taken
returns-clause-taken c =
    let s = c.args.self.now in
    let new = sym c.if-is_set.ensures in
    let free : length (waiting s.queue.now) < places s.queue.now = place_free s c.args.t c.requires new in
    admitted s _ c.args.t c.requires new (search rules) (search rules) (search rules)

pub returns-clause-waiting : goal.returns-clause-waiting
returns-clause-waiting c =
    let q = c.args.self.now.queue.now in
    let free : length (waiting q) < places q = place_free c.args.self.now c.args.t c.requires (sym c.if-is_set.ensures) in
    search rules
