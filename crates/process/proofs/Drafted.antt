-- What tables that hold a process say of it. Assumes nothing.
use Rattle.std.proofs.Common.{◌≡◌, ℕ, suc, ◌<◌, List, [], ◌∷◌, length, get_or, vec_items, vec_len, Option, sym, ap, ◌∙◌, subst}
use Rattle.std.proofs.lemmas.List.{length-map}
use Rattle.process.specs.declared.parts.Step.{Step}
use Rattle.process.specs.declared.parts.Arrow.{Arrow}
use Rattle.process.specs.declared.tables.Draft.{Draft}
use Rattle.process.specs.Stored.{Named, Plan, Formed}
use Rattle.process.specs.Shape.{Inside, Shaped}
use Rattle.process.specs.Drafts.{bare, bare_plan, Filled}
use Rattle.process.specs.Front.{nothing_read}
use Rattle.process.proofs.Outcomes.{scan_outcome}
use Rattle.process.proofs.Forms.{Bytes}

-- elements that all fit eight bits are bytes
pub bytes_from : (xs : List ℕ) → ((i : ℕ) → get_or xs i 0 < 256) → Bytes xs
bytes_from [] h = tt
bytes_from (x ∷ xs) h = (h 0, bytes_from xs (λ i. h (suc i)))

module _ (d : Draft) (p : Plan) (h : bare d ≡ bare_plan p) where
  pub draft_arrows : vec_items d.arrows ≡ p.arrows
  draft_arrows = ap (λ (t : List Step × List Arrow). t.1) h

  pub draft_steps : vec_len d.steps ≡ length p.steps
  draft_steps =
      d.steps.ok.0 ∙ ap (λ (t : List Step × List Arrow). length t.0) h
      ∙ length-map p.steps (λ (s : Named). s.step)

  pub draft_count : vec_len d.arrows ≡ length p.arrows
  draft_count = d.arrows.ok.0 ∙ ap length draft_arrows

-- the shape of equal arrows and steps
pub shaped_at : {ys zs : List Arrow} {m n : ℕ} (r : Option ℕ) → ys ≡ zs → m ≡ n → Shaped ys m r → Shaped zs n r
shaped_at {ys = ys} {n = n} r e f s =
    subst (λ (a : List Arrow). Shaped a n r) e (subst (λ (k : ℕ). Shaped ys k r) f s)

-- arrows inside equal steps
pub inside_at : {ys zs : List Arrow} {m n : ℕ} → ys ≡ zs → m ≡ n → Inside n zs → Inside m ys
inside_at {ys = ys} {n = n} e f s =
    subst (λ (k : ℕ). Inside k ys) (sym f) (subst (λ (a : List Arrow). Inside n a) (sym e) s)

-- the steps and arrows that a draft shows are those of the process that it holds: rising, and with the shape that was found
module _ {xs : List ℕ} (d : Draft) (f : Filled xs d) where
  pub draft_formed : Bytes xs → Formed f.plan
  draft_formed b = (scan_outcome xs b nothing_read f.scan).0

  pub draft_shaped : {ys : List Arrow} {n : ℕ} (r : Option ℕ) → ys ≡ vec_items d.arrows → n ≡ vec_len d.steps
      → Shaped ys n r → Shaped f.plan.arrows (length f.plan.steps) r
  draft_shaped r e g =
      shaped_at r (e ∙ draft_arrows d f.plan f.holds) (g ∙ draft_steps d f.plan f.holds)
