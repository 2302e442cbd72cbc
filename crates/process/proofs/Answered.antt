-- The answer for any bytes: one, and in the words of the stored form. Assumes nothing.
use Rattle.std.proofs.Common.{◌≡◌, ℕ, List, [], length, Ok, Err, Result, sym, refl, ap, ◌∙◌, subst, inl, inr, append-nil, arith}
use Rattle.std.proofs.lemmas.Bool.{cases_order}
use Rattle.values.specs.declared.Cause.TheVariants.{WrongStep}
use Rattle.values.specs.declared.Layer.TheVariants.{Reader}
use Rattle.values.specs.declared.Fault.{Fault}
use Rattle.graph.specs.Reach.{Within}
use Rattle.process.specs.declared.parts.Arrow.{Arrow}
use Rattle.process.specs.declared.accepted.Process.{Process}
use Rattle.process.specs.Reading.{NoRecord}
use Rattle.process.specs.Stored.{Plan, Fine, Formed, Sound, stored}
use Rattle.process.specs.Reading.{Scan, declined, ended, expected, FirstUnfit}
use Rattle.process.specs.Reading.{Answer, faulty, unfit, accepted}
use Rattle.process.specs.Good.{GoodEnd}
use Rattle.process.specs.Front.{Front, nothing_read, read_so_far, SoFar, cursor_after, FirstFault, in_record, in_step}
use Rattle.process.specs.Drafts.{bare_plan}
use Rattle.process.specs.Accepted.{tables_of, Reading}
use Rattle.process.proofs.Nexts.{next_declined}
use Rattle.process.proofs.Forms.{Bytes}
use Rattle.process.proofs.Outcomes.{scan_outcome, scans_same}
use Rattle.process.proofs.Absorbs.{next_by, front_scan}

plan_same : {p q : Plan} → ◌≡◌ {A = Result Plan Fault} (Ok p) (Ok q) → p ≡ q
plan_same e = cc

plan_not_fault : {p : Plan} {f : Fault} → ◌≡◌ {A = Result Plan Fault} (Ok p) (Err f) → ⊥
plan_not_fault e = let z : ◌≡◌ {A = ℕ} 0 1 = cc in omega arith

fault_same : {f g : Fault} → ◌≡◌ {A = Result Plan Fault} (Err f) (Err g) → f ≡ g
fault_same e = cc

-- the stored form of a process is read to its end
stored_scan : (xs : List ℕ) (p : Plan) → Formed p → xs ≡ stored p → Scan xs (Ok p)
stored_scan xs p f e =
    let n = length p.steps in
    let m = length p.arrows in
    let c = cursor_after n m p in
    let so : SoFar n m p = record {
      some_steps = f.some_steps;
      few_steps = f.few_steps;
      few_arrows = f.few_arrows;
      steps_in = omega arith;
      arrows_in = omega arith;
      steps_first = λ less. absurd (omega arith);
      named = f.named;
      placed = f.placed;
      rising = f.rising;
    } in
    let good : GoodEnd [] c = record { begun = refl; no_step = omega arith; no_arrow_left = omega arith; none_left = refl } in
    let front : Front xs [] c p = read_so_far n m so (e ∙ sym (append-nil (stored p))) in
    front_scan xs front (ended (next_by NoRecord [] c good))

-- the lowest step that is not fine is one
unfit_same : {zs : List Arrow} {n j k : ℕ} → FirstUnfit zs n j → FirstUnfit zs n k → j ≡ k
unfit_same {j = j} {k = k} u v =
    elim (cases_order j k) [
      | inl e ↦ e
      | inr (inl less) ↦ absurd (u.not_fine (v.below_fine j u.step_of.0 less))
      | inr (inr more) ↦ absurd (v.not_fine (u.below_fine k v.step_of.0 more))
    ]

-- a process with a step that is not fine is not one whose steps all are
not_both : {p q : Plan} {k : ℕ} → p ≡ q → FirstUnfit p.arrows (length p.steps) k
    → ((j : ℕ) → Within (length q.steps) j → Fine q.arrows (length q.steps) j) → ⊥
not_both {k = k} e u all =
    let v = subst (λ (x : Plan). FirstUnfit x.arrows (length x.steps) k) e u in
    v.not_fine (all k v.step_of)

-- the answer is one
pub answer_same : {xs : List ℕ} {r q : Result Plan Fault} → Answer xs r → Answer xs q → r ≡ q
answer_same (faulty s) (faulty t) = scans_same s t
answer_same (faulty s) (unfit t u) = absurd (plan_not_fault (scans_same t s))
answer_same (faulty s) (accepted t u) = absurd (plan_not_fault (scans_same t s))
answer_same (unfit s u) (faulty t) = absurd (plan_not_fault (scans_same s t))
answer_same (unfit {k = j} s u) (unfit {k = k} t v) =
    let w = subst (λ (x : Plan). FirstUnfit x.arrows (length x.steps) k) (plan_same (scans_same t s)) v in
    ap (λ (i : ℕ). Err (record { cause = WrongStep; layer = Reader; place = i })) (unfit_same u w)
answer_same (unfit s u) (accepted t v) = absurd (not_both (plan_same (scans_same s t)) u v)
answer_same (accepted s u) (faulty t) = absurd (plan_not_fault (scans_same s t))
answer_same (accepted s u) (unfit t v) = absurd (not_both (plan_same (scans_same t s)) v u)
answer_same (accepted s u) (accepted t v) = scans_same s t

-- the first fault that stands is the answer
pub fault_answer : {xs : List ℕ} {f : Fault} → FirstFault xs f → Answer xs (Err f)
fault_answer {xs = xs} (in_record {rest = rest} {c = c} {f = f} front e) =
    faulty (front_scan xs front (declined (next_declined (expected c) rest c f e)))
fault_answer {xs = xs} (in_step {p = p} formed e u) = unfit (stored_scan xs p formed e) u

-- a sound process is the answer for its stored form
pub sound_answer : (xs : List ℕ) (p : Plan) → Sound p → xs ≡ stored p → Answer xs (Ok p)
sound_answer xs p s e = accepted (stored_scan xs p s.formed e) s.fine

-- what the answer says of the bytes
abbrev Says : List ℕ → Result Plan Fault → Type 0
Says xs (Ok p) = Sound p × (xs ≡ stored p)
Says xs (Err f) = FirstFault xs f

answer_says : {xs : List ℕ} {r : Result Plan Fault} → Bytes xs → Answer xs r → Says xs r
answer_says {xs = xs} b (faulty s) = scan_outcome xs b nothing_read s
answer_says {xs = xs} b (unfit s u) = let w = scan_outcome xs b nothing_read s in in_step w.0 w.1 u
answer_says {xs = xs} b (accepted s u) =
    let w = scan_outcome xs b nothing_read s in (record { formed = w.0; fine = u }, w.1)

-- the answer in the program's values
abbrev pub Told : Result Process Fault → Result Plan Fault → Type 0
Told (Ok q) (Ok p) = tables_of q ≡ bare_plan p
Told (Ok q) (Err f) = ⊥
Told (Err g) (Ok p) = ⊥
Told (Err g) (Err f) = g ≡ f

pub reading_from : (xs : List ℕ) (r : Result Process Fault) (a : Result Plan Fault) → Bytes xs → Answer xs a → Told r a
    → Reading xs r
reading_from xs (Ok q) (Ok p) b ans told =
    let w = answer_says b ans in
    record {
      accepted = record { plan = p; sound = w.0; bytes = w.1; holds = told };
      gives_back = λ o s e. told ∙ ap bare_plan (plan_same (answer_same ans (sound_answer xs o s e)));
      declined = tt;
      faults = λ f h. absurd (plan_not_fault (answer_same ans (fault_answer h)));
    }
reading_from xs (Ok q) (Err f) b ans told = absurd told
reading_from xs (Err g) (Ok p) b ans told = absurd told
reading_from xs (Err g) (Err f) b ans told =
    record {
      accepted = tt;
      gives_back = λ o s e. plan_not_fault (answer_same (sound_answer xs o s e) ans);
      declined = subst (FirstFault xs) (sym told) (answer_says b ans);
      faults = λ h first. ap (λ (x : Fault). Err x) (told ∙ fault_same (answer_same ans (fault_answer first)));
    }
