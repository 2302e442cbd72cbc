-- What was read so far, with one record more. Assumes nothing.
use Rattle.std.proofs.Common.{◌≡◌, ℕ, ◌+◌, ◌-◌, List, [], ◌∷◌, ◌++◌, length, Some, None, sym, refl, ap, ◌∙◌, append_assoc, append-nil, arith, length-append}
use Rattle.std.proofs.lemmas.List.{length_push}
use Rattle.process.specs.declared.parts.Arrow.{Arrow}
use Rattle.process.specs.Reading.{StepRecord, ArrowRecord}
use Rattle.process.specs.Stored.{Named, Plan, All, Before, Rising, no_arrow}
use Rattle.process.specs.Bits.{pack, unpack, two_bytes}
use Rattle.process.specs.Stored.{step_widths, step_fields, header_form, step_form, arrow_form, steps_form, arrows_form, form_of}
use Rattle.process.specs.Reading.{arrow_or_none, header_done, moved, name_length, read_arrow, with_record, step, arrow, no_plan}
use Rattle.process.specs.Front.{last_of, last_in, cursor_after}

pub all_push : {X : Type 0} (P : X → Type 0) (xs : List X) (x : X) → All P xs → P x → All P (xs ++ x ∷ [])
all_push P [] x h p = (p, tt)
all_push P (y ∷ ys) x h p = (h.0, all_push P ys x h.1 p)

-- the forms of steps, and of arrows, with one more
pub steps_form_push : (ss : List Named) (s : Named) → steps_form (ss ++ s ∷ []) ≡ steps_form ss ++ step_form s
steps_form_push [] s = append-nil (step_form s)
steps_form_push (t ∷ ts) s =
    ap (λ (xs : List ℕ). step_form t ++ xs) (steps_form_push ts s) ∙ sym (append_assoc (step_form t) (steps_form ts) (step_form s))

pub arrows_form_push : (zs : List Arrow) (a : Arrow) → arrows_form (zs ++ a ∷ []) ≡ arrows_form zs ++ arrow_form a
arrows_form_push [] a = append-nil (arrow_form a)
arrows_form_push (z ∷ zs) a =
    ap (λ (xs : List ℕ). arrow_form z ++ xs) (arrows_form_push zs a)
    ∙ sym (append_assoc (arrow_form z) (arrows_form zs) (arrow_form a))

pub last_push : (none : Arrow) (zs : List Arrow) (a : Arrow) → last_of none (zs ++ a ∷ []) ≡ a
last_push none [] a = refl
last_push none (z ∷ zs) a = last_push z zs a

pub last_in_push : (zs : List Arrow) (a : Arrow) → last_in (zs ++ a ∷ []) ≡ Some a
last_in_push [] a = refl
last_in_push (z ∷ zs) a = ap (λ (x : Arrow). Some x) (last_push z zs a)

-- as the reader keeps it
pub last_kept : (zs : List Arrow) → arrow_or_none (last_in zs) ≡ last_of no_arrow zs
last_kept [] = refl
last_kept (z ∷ zs) = refl

pub rising_push : (none : Arrow) (zs : List Arrow) (a : Arrow) → Rising none zs → Before (last_of none zs) a
    → Rising none (zs ++ a ∷ [])
rising_push none [] a r b = (b, tt)
rising_push none (z ∷ zs) a r b = (r.0, rising_push z zs a r.1 b)

-- how long a form is
form_length : (n m : ℕ) (p : Plan) → length (form_of n m p) ≡ 4 + (length (steps_form p.steps) + length (arrows_form p.arrows))
form_length n m p =
    length-append (header_form n m) (steps_form p.steps ++ arrows_form p.arrows)
    ∙ ap (λ (k : ℕ). 4 + k) (length-append (steps_form p.steps) (arrows_form p.arrows))

pub step_length : (s : Named) → length (step_form s) ≡ 2 + length s.name
step_length s = length-append (unpack two_bytes (pack step_widths (step_fields s))) s.name

module _ (n m : ℕ) (p : Plan) where
  -- where the reader stands after a step more
  pub step_cursor : (s : Named) (place : ℕ) (xs : List ℕ) → name_length xs ≡ length s.name
      → moved StepRecord xs (cursor_after n m p) ≡ cursor_after n m (with_record p (step s place))
  step_cursor s place xs e =
      let q = with_record p (step s place) in
      let long : length (form_of n m p) + (2 + name_length xs) ≡ length (form_of n m q) =
      let whole = form_length n m q in
      let part = form_length n m p in
      let pushed = ap length (steps_form_push p.steps s) ∙ length-append (steps_form p.steps) (step_form s) in
      omega (arith, step_length s) in
      let left : (n - length p.steps) - 1 ≡ n - length q.steps = omega (arith, length_push p.steps s) in
      λ i. record {
        place = long i;
        progress = Some (record { steps = n; steps_left = left i; arrows_left = m - length p.arrows; last = last_in p.arrows });
      }

  -- and after an arrow more
  pub arrow_cursor : (a : Arrow) (xs : List ℕ) → read_arrow xs ≡ a
      → moved ArrowRecord xs (cursor_after n m p) ≡ cursor_after n m (with_record p (arrow a))
  arrow_cursor a xs e =
      let q = with_record p (arrow a) in
      let long : length (form_of n m p) + 2 ≡ length (form_of n m q) =
      let whole = form_length n m q in
      let part = form_length n m p in
      let pushed = ap length (arrows_form_push p.arrows a) ∙ length-append (arrows_form p.arrows) (arrow_form a) in
      omega arith in
      let left : (m - length p.arrows) - 1 ≡ m - length q.arrows = omega (arith, length_push p.arrows a) in
      let last_is = ap (λ (x : Arrow). Some x) e ∙ sym (last_in_push p.arrows a) in
      λ i. record {
        place = long i;
        progress = Some (record { steps = n; steps_left = n - length p.steps; arrows_left = left i; last = last_is i });
      }

-- where it stands after the header
pub header_cursor : (n m : ℕ) → cursor_after n m no_plan
    ≡ record { place = 4; progress = Some (header_done n m) }
header_cursor n m =
    let left : n - 0 ≡ n = omega arith in
    let more_left : m - 0 ≡ m = omega arith in
    λ i. record { place = 4; progress = Some (record { steps = n; steps_left = left i; arrows_left = more_left i; last = None }) }

-- the form with a step more, before the first arrow, and with an arrow more
pub form_step : (n m : ℕ) (p : Plan) (s : Named) (place : ℕ) → p.arrows ≡ []
    → form_of n m (with_record p (step s place)) ≡ form_of n m p ++ step_form s
form_step n m p s place none =
    let ss = p.steps in
    let head = header_form n m in
    let empty : (ts : List Named) → steps_form ts ++ arrows_form p.arrows ≡ steps_form ts =
    λ ts. ap (λ (zs : List Arrow). steps_form ts ++ arrows_form zs) none ∙ append-nil (steps_form ts) in
    ap (λ (xs : List ℕ). head ++ xs) (empty (ss ++ s ∷ []) ∙ steps_form_push ss s)
    ∙ sym (append_assoc head (steps_form ss) (step_form s))
    ∙ ap (λ (xs : List ℕ). (head ++ xs) ++ step_form s) (sym (empty ss))

pub form_arrow : (n m : ℕ) (p : Plan) (a : Arrow)
    → form_of n m (with_record p (arrow a)) ≡ form_of n m p ++ arrow_form a
form_arrow n m p a =
    let head = header_form n m in
    let sf = steps_form p.steps in
    let zf = arrows_form p.arrows in
    ap (λ (xs : List ℕ). head ++ (sf ++ xs)) (arrows_form_push p.arrows a)
    ∙ ap (λ (xs : List ℕ). head ++ xs) (sym (append_assoc sf zf (arrow_form a)))
    ∙ sym (append_assoc head (sf ++ zf) (arrow_form a))

-- a form that goes on with one record more
pub form_on : (f g h xs ys rest : List ℕ) → g ≡ f ++ h → rest ≡ h ++ ys → xs ≡ f ++ rest → xs ≡ g ++ ys
form_on f g h xs ys rest e r x =
    x ∙ ap (λ (zs : List ℕ). f ++ zs) r ∙ sym (append_assoc f h ys) ∙ ap (λ (zs : List ℕ). zs ++ ys) (sym e)
