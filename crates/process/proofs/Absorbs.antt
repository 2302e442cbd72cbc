-- The stored form of good records is read back record by record. Assumes nothing.
use Rattle.std.proofs.Common.{◌≡◌, ℕ, ◌+◌, ◌<◌, ◌≤◌, List, [], ◌∷◌, ◌++◌, length, get_or, drop, Some, Ok, Result, sym, refl, ap, ◌∙◌, subst, ap₂, ⊎_elim, append_assoc, append-nil, arith, length-append}
use Rattle.std.proofs.lemmas.List.{drop_at, length_push}
use Rattle.std.proofs.lemmas.Bool.{cases_lt}
use Rattle.values.specs.declared.Fault.{Fault}
use Rattle.values.specs.declared.Kind.{Kind}
use Rattle.values.specs.declared.Kind.TheVariants.{Score, Fee}
use Rattle.values.specs.Numbers.{kind_number}
use Rattle.process.specs.declared.parts.Arrow.{Arrow}
use Rattle.process.specs.declared.cursor.Cursor.{Cursor}
use Rattle.process.specs.Reading.{Expected}
use Rattle.process.specs.Reading.{HeaderRecord, StepRecord, ArrowRecord}
use Rattle.process.specs.Stored.{Named, Plan, All, Nameable, Placed, Before, Rising, no_arrow}
use Rattle.process.specs.Stored.{header_form, step_form, arrow_form, steps_form, arrows_form, step_fields, header_fields}
use Rattle.process.specs.Reading.{header, step, arrow, got, moved, next, next_of, start, no_plan, with_record}
use Rattle.process.specs.Reading.{last_arrow, header_done, header_at, step_at, name_length, read_arrow, Scans, Scan, more}
use Rattle.process.specs.Good.{Good, GoodHeader, GoodStep, GoodArrow}
use Rattle.process.specs.Front.{Front, nothing_read, read_so_far, SoFar, cursor_after, last_of}
use Rattle.process.proofs.Nexts.{next_given}
use Rattle.process.proofs.Checks.{good_passes}
use Rattle.process.proofs.Forms.{header_forth, step_forth, arrow_forth, step_read, arrow_read}
use Rattle.process.proofs.Fronts.{step_length, step_cursor, arrow_cursor, header_cursor, last_push, last_kept}

-- a good record is read
pub next_by : (e : Expected) (xs : List ℕ) (c : Cursor) → Good e xs c → next xs c ≡ Ok (got e xs c)
next_by e xs c g =
    let w = good_passes xs c e g in
    ap (λ (x : Expected). next_of x xs c) w.0 ∙ next_given e xs c w.1

-- the header of n steps and m arrows
header_absorbed : (n m : ℕ) (xs : List ℕ) → 1 ≤ n → n ≤ 64 → m ≤ 512
    → next (header_form n m ++ xs) start
    ≡ Ok (record { said = Some (header n m); rest = xs; cursor = cursor_after n m no_plan })
header_absorbed n m xs lo hi few =
    let ys = header_form n m ++ xs in
    let fs = header_forth n m xs (omega arith) (omega arith) in
    let at : (i : ℕ) → header_at ys i ≡ get_or (header_fields n m) i 0 = λ i. ap (λ (vs : List ℕ). get_or vs i 0) fs in
    let n_is : header_at ys 1 ≡ n = at 1 in
    let m_is : header_at ys 2 ≡ m = at 2 in
    let g : GoodHeader ys start = record {
      first = refl;
      long = omega (arith, length-append (header_form n m) xs);
      form_is = at 0;
      spare_is = at 3;
      some_steps = subst (λ (k : ℕ). 1 ≤ k) (sym n_is) lo;
      few_steps = subst (λ (k : ℕ). k ≤ 64) (sym n_is) hi;
      few_arrows = subst (λ (k : ℕ). k ≤ 512) (sym m_is) few;
    } in
    let cursor : moved HeaderRecord ys start ≡ cursor_after n m no_plan =
    ap₂ (λ (j k : ℕ). record { place = 4; progress = Some (header_done j k) }) n_is m_is
    ∙ sym (header_cursor n m) in
    next_by HeaderRecord ys start g
    ∙ λ i. Ok (record { said = Some (header (n_is i) (m_is i)); rest = xs; cursor = cursor i })

long_by : {f k all : ℕ} (rest : ℕ) → f ≡ k → all ≡ f + rest → k ≤ all
long_by rest e h = omega arith

kind_low : (k : Kind) → kind_number k ≤ 1
kind_low Score = omega arith
kind_low Fee = omega arith

module _ (n m : ℕ) (p : Plan) where
  -- one step more of n
  step_absorbed : (s : Named) (xs : List ℕ) → Nameable s → length p.steps < n
      → next (step_form s ++ xs) (cursor_after n m p)
      ≡ Ok (record {
        said = Some (step s ((cursor_after n m p).place + 2));
        rest = xs;
        cursor = cursor_after n m (with_record p (step s ((cursor_after n m p).place + 2)));
      })
  step_absorbed s xs named less =
      let c = cursor_after n m p in
      let ys = step_form s ++ xs in
      let short : length s.name < 32 = omega (arith, named.1) in
      let fs = step_forth s xs short in
      let at : (i : ℕ) → step_at ys i ≡ get_or (step_fields s) i 0 = λ i. ap (λ (vs : List ℕ). get_or vs i 0) fs in
      let len : name_length ys ≡ length s.name = at 6 in
      let size_is : length (step_form s) ≡ 2 + name_length ys = step_length s ∙ ap (λ (k : ℕ). 2 + k) (sym len) in
      let g : GoodStep ys c = record {
        begun = refl;
        wanted = omega arith;
        long = long_by (length xs) size_is (length-append (step_form s) xs);
        spare_is = at 7;
        kind_low = subst (λ (k : ℕ). k ≤ 1) (sym (at 5)) (kind_low s.step.kind);
        some_name = subst (λ (k : ℕ). 1 ≤ k) (sym len) named.0;
      } in
      let said = step_read s xs short in
      let rest : drop (2 + name_length ys) ys ≡ xs = drop_at (step_form s) xs (2 + name_length ys) size_is in
      let cursor = step_cursor n m p s (c.place + 2) ys len in
      next_by StepRecord ys c g
      ∙ λ i. Ok (record { said = Some (step (said i) (c.place + 2)); rest = rest i; cursor = cursor i })

  -- one arrow more of m
  arrow_absorbed : (a : Arrow) (xs : List ℕ) → Placed n a → Before (last_of no_arrow p.arrows) a → n ≤ 64
      → length p.steps ≡ n → length p.arrows < m
      → next (arrow_form a ++ xs) (cursor_after n m p)
      ≡ Ok (record { said = Some (arrow a); rest = xs; cursor = cursor_after n m (with_record p (arrow a)) })
  arrow_absorbed a xs placed rises few full less =
      let c = cursor_after n m p in
      let ys = arrow_form a ++ xs in
      let fh = placed.from_high in
      let th = placed.to_high in
      let tl = placed.to_low in
      let fs = arrow_forth a xs (omega arith) (omega arith) in
      let is : read_arrow ys ≡ a = arrow_read a xs placed.from_low (omega arith) (omega arith) (omega arith) in
      let g : GoodArrow ys c = record {
        begun = refl;
        no_step = omega arith;
        wanted = omega arith;
        long = omega (arith, length-append (arrow_form a) xs);
        spare_is = ap (λ (vs : List ℕ). get_or vs 2 0) fs;
        from_high = subst (λ (x : Arrow). x.from ≤ n) (sym is) fh;
        to_high = subst (λ (x : Arrow). x.to ≤ n) (sym is) th;
        to_low = subst (λ (x : Arrow). x.to ≡ 1 → ⊥) (sym is) (λ e. omega arith);
        rising = subst (λ (x : Arrow). Before (last_arrow c) x) (sym is)
            (subst (λ (x : Arrow). Before x a) (sym (last_kept p.arrows)) rises);
      } in
      let cursor = arrow_cursor n m p a ys is in
      next_by ArrowRecord ys c g
      ∙ λ i. Ok (record { said = Some (arrow (is i)); rest = xs; cursor = cursor i })

-- a plan with more steps, or more arrows
abbrev with_steps : Plan → List Named → Plan
with_steps p ss = record { steps = p.steps ++ ss; arrows = p.arrows }

abbrev with_arrows : Plan → List Arrow → Plan
with_arrows p zs = record { steps = p.steps; arrows = p.arrows ++ zs }

module _ (n m : ℕ) (rest : List ℕ) (r : Result Plan Fault) where
  -- the scan that goes on after p
  abbrev Goes_on : List ℕ → Plan → Type 0
  Goes_on xs p = Scans xs (cursor_after n m p) p r

  steps_absorbed : (ss : List Named) (p : Plan) → All Nameable ss → length p.steps + length ss ≤ n
      → Goes_on rest (with_steps p ss) → Goes_on (steps_form ss ++ rest) p
  steps_absorbed [] p named fits go =
      subst (λ (ts : List Named). Goes_on rest (record { steps = ts; arrows = p.arrows })) (append-nil p.steps) go
  steps_absorbed (s ∷ ss) p named fits go =
      let q : Plan = record { steps = p.steps ++ s ∷ []; arrows = p.arrows } in
      let regroup : p.steps ++ s ∷ ss ≡ q.steps ++ ss = sym (append_assoc p.steps (s ∷ []) ss) in
      let later = steps_absorbed ss q named.1 (omega (arith, length_push p.steps s))
      (subst (λ (ts : List Named). Goes_on rest (record { steps = ts; arrows = p.arrows })) regroup go) in
      subst (λ (xs : List ℕ). Goes_on xs p) (sym (append_assoc (step_form s) (steps_form ss) rest))
      (more (step_absorbed n m p s (steps_form ss ++ rest) named.0 (omega arith)) later)

  arrows_absorbed : (zs : List Arrow) (p : Plan) → All (Placed n) zs → Rising (last_of no_arrow p.arrows) zs → n ≤ 64
      → length p.steps ≡ n → length p.arrows + length zs ≤ m
      → Goes_on rest (with_arrows p zs) → Goes_on (arrows_form zs ++ rest) p
  arrows_absorbed [] p placed rises few full fits go =
      subst (λ (ts : List Arrow). Goes_on rest (record { steps = p.steps; arrows = ts })) (append-nil p.arrows) go
  arrows_absorbed (a ∷ zs) p placed rises few full fits go =
      let q : Plan = record { steps = p.steps; arrows = p.arrows ++ a ∷ [] } in
      let regroup : p.arrows ++ a ∷ zs ≡ q.arrows ++ zs = sym (append_assoc p.arrows (a ∷ []) zs) in
      let rises_on = subst (λ (x : Arrow). Rising x zs) (sym (last_push no_arrow p.arrows a)) rises.1 in
      let later = arrows_absorbed zs q placed.1 rises_on few full (omega (arith, length_push p.arrows a))
      (subst (λ (ts : List Arrow). Goes_on rest (record { steps = p.steps; arrows = ts })) regroup go) in
      subst (λ (xs : List ℕ). Goes_on xs p) (sym (append_assoc (arrow_form a) (arrows_form zs) rest))
      (more (arrow_absorbed n m p a (arrows_form zs ++ rest) placed.0 rises.0 few full (omega arith)) later)

  -- arrows come once all steps are there
  arrows_after : (p : Plan) → SoFar n m p → Goes_on rest p → Goes_on (arrows_form p.arrows ++ rest) (record { steps = p.steps; arrows = [] })
  arrows_after p s go =
      ⊎_elim
      (λ less. let none = s.steps_first less in
      subst (λ (zs : List Arrow). Goes_on (arrows_form zs ++ rest) (record { steps = p.steps; arrows = [] })) (sym none)
      (subst (λ (zs : List Arrow). Goes_on rest (record { steps = p.steps; arrows = zs })) none go))
      (λ all. arrows_absorbed p.arrows (record { steps = p.steps; arrows = [] }) s.placed s.rising s.few_steps
      (omega (arith, s.steps_in)) (omega (arith, s.arrows_in)) go)
      (cases_lt (length p.steps) n)

-- where bytes begin with the stored form of good records, the scan comes to what is left
pub front_scan : (xs : List ℕ) {rest : List ℕ} {c : Cursor} {p : Plan} {r : Result Plan Fault}
    → Front xs rest c p → Scans rest c p r → Scan xs r
front_scan xs nothing_read go = go
front_scan xs {rest = rest} {p = p} {r = r} (read_so_far n m s e) go =
    let sf = steps_form p.steps in
    let zf = arrows_form p.arrows in
    let head = header_form n m in
    let arrows = arrows_after n m rest r p s go in
    let steps = steps_absorbed n m (zf ++ rest) r p.steps no_plan s.named (omega (arith, s.steps_in)) arrows in
    let whole : Scan (head ++ (sf ++ (zf ++ rest))) r =
    more (header_absorbed n m (sf ++ (zf ++ rest)) s.some_steps s.few_steps s.few_arrows) steps in
    let regroup : head ++ (sf ++ (zf ++ rest)) ≡ xs =
    ap (λ (ys : List ℕ). head ++ ys) (sym (append_assoc sf zf rest)) ∙ sym (append_assoc head (sf ++ zf) rest) ∙ sym e in
    subst (λ (ys : List ℕ). Scan ys r) regroup whole
