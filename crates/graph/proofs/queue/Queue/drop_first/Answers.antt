-- The ring begins one place further on.
use Rattle.std.proofs.Common.{◌<◌, length, inl, inr, arith}
use Rattle.graph.proofs.Rings.{sound, ring_rest, Next}
use Rattle.graph.proofs.queue.Queue.drop_first.Goals as goal
use Rattle.graph.proofs.queue.Queue.drop_first.Goals.{then-self-n, else-self-n}

pub returns-clause-waiting : goal.returns-clause-waiting
returns-clause-waiting g c =
    let q = c.args.self.now in
    let pos : 0 < q.count = omega arith in
    let to : Next (length q.slots.now) q.head c.if-self-n.self =
    record {
      is = elim c.if-self-n.branch [
        | then-self-n w ↦ inl (w.self-is, w.if-self-n.true)
        | else-self-n w ↦ inr (w.self-is, w.if-self-n.false)
      ];
    } in
    ring_rest q.slots.now q.head q.count c.if-self-n.self (sound q) pos to
