use Rattle.std.proofs.Common.{◌<◌, length, arith}
use Rattle.graph.proofs.Rings.{sound, ring_push}
use Rattle.graph.proofs.queue.Queue.push.Goals as goal

pub returns-clause-waiting : goal.returns-clause-waiting
returns-clause-waiting g c =
    let q = c.args.self.now in
    let free : q.count < length q.slots.now = omega arith in
    ring_push q.slots.now q.head q.count c.spot-place.result c.args.x (sound q) free c.spot-place.ensures
