use Rattle.std.proofs.Common.{◌≡◌, ℕ, ◌+◌, ◌<◌, get_or, sym, refl, ap, ◌∙◌, inl, inr, arith}
use Rattle.std.proofs.lemmas.Bool.{cases_lt}
use Rattle.graph.specs.Reach.{Within}
use Rattle.graph.proofs.Takings.{takes_one}
use Rattle.graph.proofs.traversal.Traversal.seed.Goals as goal

pub loop-s-preserved : goal.loop-s-preserved
loop-s-preserved c =
    let n = c.args.self.now.points in
    let starts = c.args.starts.now in
    let at = c.loop-s.s-index in
    let t = get_or starts at 0 in
    let within : Within n t = (omega arith, omega (arith, c.loop-s.invariant.same.points)) in
    takes_one (λ k. Within n k × ((i : ℕ) × ((i < at + 1) × (get_or starts i 0 ≡ k)))) t
    (λ k h. (h.0, (h.1.0, (omega (arith, h.1.1.0), h.1.1.1))))
    (within, (at, (omega arith, refl)))
    (λ k h. elim (cases_lt h.1.0 at) [
      | inl low ↦ inl (h.0, (h.1.0, (low, h.1.1.1)))
      | inr high ↦ inr (sym h.1.1.1 ∙ ap (λ (i : ℕ). get_or starts i 0) (omega (arith, h.1.1.0)))
    ])
    c.loop-s.invariant c.admit.ensures.taken
