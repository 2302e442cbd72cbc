use Rattle.std.proofs.Common.{◌≡◌, length, ap, arith}
use Rattle.graph.specs.Held.{held}
use Rattle.graph.specs.Waiting.{waiting}
use Rattle.graph.proofs.Searches.{unmarked_most, roomy_parts}
use Rattle.graph.proofs.reach.explore.Goals as goal

pub invariant_of-traversal : goal.invariant_of-traversal
invariant_of-traversal g c =
    let n = c.args.points in
    let enough = roomy_parts n (length c.args.line.now) (length (held c.args.marks.now)) c.requires.room in
    let most = unmarked_most n (held c.clear.new.self) in
    let none : length (waiting c.new-queue.result) ≡ 0 = ap length c.new-queue.ensures.waiting in
    record {
      few = enough.1;
      wide = omega (arith, enough.2, c.clear.ensures.wiped.size);
      room = omega (arith, enough.0, c.new-queue.ensures.places);
    }
