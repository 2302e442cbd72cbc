-- Each way out is the one answer for the bytes.
use Rattle.std.proofs.Common.{Some, None, Err, Result, sym, ◌∙◌, subst, arith}
use Rattle.std.proofs.lemmas.Result.{err_from_is_err_and}
use Rattle.values.specs.declared.Fault.{Fault}
use Rattle.process.specs.declared.accepted.Process.{Process}
use Rattle.process.specs.Reading.{faulty, unfit, accepted}
use Rattle.process.specs.Stored.{no_arrow}
use Rattle.process.specs.Shape.{Sorted}
use Rattle.process.proofs.Targets.{rising_sorted, placed_inside}
use Rattle.process.proofs.Answered.{reading_from, Told}
use Rattle.process.proofs.Drafted.{bytes_from, draft_arrows, draft_steps, draft_formed, draft_shaped, inside_at}
use Rattle.process.proofs.accepted.read.read_with.Goals as goal

pub returns-in_err-draft-clause-reading : goal.returns-in_err-draft-clause-reading
returns-in_err-draft-clause-reading c =
    let xs = c.args.input.now in
    let p = err_from_is_err_and c.from_residual.result c.from_residual.ensures.1 in
    let told : Told c.from_residual.result (Err c.in_err-draft.field-0.0) =
    subst (λ (r : Result Process Fault). Told r (Err c.in_err-draft.field-0.0)) (sym p.1) p.2 in
    reading_from xs _ _ (bytes_from xs (λ i. (c.type_inv.input i).fits)) (faulty c.in_err-draft.ensures) told

pub invariant_of-graph : goal.invariant_of-graph
invariant_of-graph c =
    let xs = c.args.input.now in
    let d = c.in_ok-draft.draft in
    let f = c.in_ok-draft.ensures in
    let formed = draft_formed d f (bytes_from xs (λ i. (c.type_inv.input i).fits)) in
    let n_is = c.len.ensures ∙ draft_steps d f.plan f.holds in
    let zs_is = c.as_slice.ensures.value ∙ draft_arrows d f.plan f.holds in
    record {
      few = omega (arith, formed.few_steps);
      sorted = subst Sorted (sym zs_is) (rising_sorted no_arrow f.plan.arrows formed.rising);
      inside = inside_at zs_is n_is (placed_inside _ f.plan.arrows formed.placed);
    }

pub returns-in-Some-clause-reading : goal.returns-in-Some-clause-reading
returns-in-Some-clause-reading c =
    let xs = c.args.input.now in
    let d = c.in_ok-draft.draft in
    let f = c.in_ok-draft.ensures in
    let bytes = bytes_from xs (λ i. (c.type_inv.input i).fits) in
    let shaped = draft_shaped d f (Some c.in-Some.place) c.as_slice.ensures.value c.len.ensures c.in-Some.ensures.shaped in
    reading_from xs _ _ bytes (unfit f.scan shaped) c.fault.ensures

pub new-requires : goal.new-requires
new-requires c =
    let xs = c.args.input.now in
    let d = c.in_ok-draft.draft in
    let f = c.in_ok-draft.ensures in
    let bytes = bytes_from xs (λ i. (c.type_inv.input i).fits) in
    let shaped = draft_shaped d f None c.as_slice.ensures.value c.len.ensures c.in-None.ensures.shaped in
    record { plan = f.plan; sound = record { formed = draft_formed d f bytes; fine = shaped }; holds = f.holds }

pub returns-in-None-clause-reading : goal.returns-in-None-clause-reading
returns-in-None-clause-reading c =
    let xs = c.args.input.now in
    let d = c.in_ok-draft.draft in
    let f = c.in_ok-draft.ensures in
    let bytes = bytes_from xs (λ i. (c.type_inv.input i).fits) in
    let shaped = draft_shaped d f None c.as_slice.ensures.value c.len.ensures c.in-None.ensures.shaped in
    reading_from xs _ _ bytes (accepted f.scan shaped) (c.new.ensures ∙ f.holds)
