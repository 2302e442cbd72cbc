-- The element at the head is the first of the ring.
use Rattle.std.proofs.Common.{◌<◌, ◌∷◌, drop, sym, ap, ◌∙◌, arith}
use Rattle.graph.specs.Waiting.{waiting}
use Rattle.graph.proofs.Rings.{sound, ring_first}
use Rattle.graph.proofs.queue.Queue.first.Goals as goal

pub returns : goal.returns
returns g c =
    let q = c.args.self.now in
    let x = c.index-slots-self.result in
    let pos : 0 < q.count = omega arith in
    ring_first q.slots.now q.head q.count x (sound q) pos ∙ ap (λ y. y ∷ drop 1 (waiting q)) (sym c.index-slots-self.is)
