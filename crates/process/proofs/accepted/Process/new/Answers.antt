-- The facts of an accepted process are those of a sound one.
use Rattle.std.proofs.Common.{ℕ, List, length, vec_items, vec_len, sym, subst, arith}
use Rattle.graph.specs.Reach.{Within}
use Rattle.process.specs.declared.parts.Arrow.{Arrow}
use Rattle.process.specs.Stored.{All, Placed, Rising, no_arrow, Fine}
use Rattle.process.proofs.Drafted.{draft_arrows, draft_steps, draft_count}
use Rattle.process.proofs.accepted.Process.new.Goals as goal

pub invariant_of-result : goal.invariant_of-result
invariant_of-result c =
    let d = c.args.draft in
    let p = c.requires.plan in
    let formed = c.requires.sound.formed in
    let n_is = draft_steps d p c.requires.holds in
    let m_is = draft_count d p c.requires.holds in
    let zs_is = draft_arrows d p c.requires.holds in
    let zs = vec_items d.arrows in
    let n = vec_len d.steps in
    let placed : All (Placed n) zs =
    subst (λ (k : ℕ). All (Placed k) zs) (sym n_is)
    (subst (λ (ys : List Arrow). All (Placed (length p.steps)) ys) (sym zs_is) formed.placed) in
    let rising = subst (λ (ys : List Arrow). Rising no_arrow ys) (sym zs_is) formed.rising in
    let fine : (k : ℕ) → Within n k → Fine zs n k =
    subst (λ (m : ℕ). (k : ℕ) → Within m k → Fine zs m k) (sym n_is)
    (subst (λ (ys : List Arrow). (k : ℕ) → Within (length p.steps) k → Fine ys (length p.steps) k) (sym zs_is) c.requires.sound.fine) in
    record {
      some_steps = omega (arith, formed.some_steps);
      few_steps = omega (arith, formed.few_steps);
      few_arrows = omega (arith, formed.few_arrows);
      placed = ∣ placed ∣₁;
      rising = ∣ rising ∣₁;
      out_few = λ k w. (fine k w).out_few;
      in_few = λ k w. (fine k w).in_few;
      reached = λ k w. ∣ (fine k w).reached ∣₁;
    }
