-- No check of a record stands exactly if the record is good. Assumes nothing.
use Rattle.std.proofs.Common.{◌≡◌, ℕ, ◌+◌, ◌<◌, Bool, true, false, cond, not, ◌&&◌, ◌||◌, eqb, ltb, List, [], ◌∷◌, length, Some, None, Option, refl, inl, inr, ⊎_elim, arith}
use Rattle.std.proofs.lemmas.Bool.Decides.{nat_tests}
use Rattle.std.proofs.lemmas.Bool.{or_parts, or_from, or_cases, or_left, or_right, and_parts, and_from, not-false, not_from_true, ltb-true, ltb-false, eqb-true, eqb-false, lt-ltb, le-ltb, eq-eqb, ne_eqb}
use Rattle.values.specs.Checks.{first_fault}
use Rattle.values.specs.declared.Fault.{Fault}
use Rattle.process.specs.declared.parts.Arrow.{Arrow}
use Rattle.process.specs.declared.cursor.Cursor.{Cursor}
use Rattle.process.specs.Reading.{Expected}
use Rattle.process.specs.Reading.{HeaderRecord, StepRecord, ArrowRecord, NoRecord}
use Rattle.process.specs.Stored.{Before}
use Rattle.process.specs.Reading.{is_begun, step_count, steps_to_come, arrows_to_come, last_arrow, expected, checks, before, header_at, step_at, arrow_at, name_length, read_arrow}
use Rattle.process.specs.Good.{Good}

-- a check that stands if b, as `bad` has it
abbrev check : Bool → Fault → Option Fault
check b f = cond b (Some f) None

-- none of the checks stands if no test says so, and the other way round
none_stands : (a b d : Bool) (f g h : Fault) → first_fault (check a f ∷ check b g ∷ check d h ∷ []) ≡ None
    → (a ≡ false) × (b ≡ false) × (d ≡ false)
none_stands true b d f g h e = let z : ◌≡◌ {A = ℕ} 0 1 = cc in absurd (omega arith)
none_stands false true d f g h e = let z : ◌≡◌ {A = ℕ} 0 1 = cc in absurd (omega arith)
none_stands false false true f g h e = let z : ◌≡◌ {A = ℕ} 0 1 = cc in absurd (omega arith)
none_stands false false false f g h e = (refl, refl, refl)

all_pass : {a b d : Bool} (f g h : Fault) → a ≡ false → b ≡ false → d ≡ false
    → first_fault (check a f ∷ check b g ∷ check d h ∷ []) ≡ None
all_pass f g h p q r i = first_fault (check (p i) f ∷ check (q i) g ∷ check (r i) h ∷ [])

none_stands_one : (b : Bool) (f : Fault) → first_fault (check b f ∷ []) ≡ None → b ≡ false
none_stands_one true f e = let z : ◌≡◌ {A = ℕ} 0 1 = cc in absurd (omega arith)
none_stands_one false f e = refl

one_passes : {b : Bool} (f : Fault) → b ≡ false → first_fault (check b f ∷ []) ≡ None
one_passes f p i = first_fault (check (p i) f ∷ [])

-- the order of arrows as a test and as a fact
pub before_true : (a b : Arrow) → before a b ≡ true → Before a b
before_true a b e =
    ⊎_elim (λ l. inl (ltb-true a.from b.from l))
    (λ r. let p = and_parts (eqb a.from b.from) (ltb a.to b.to) r in
    inr (eqb-true a.from b.from p.0, ltb-true a.to b.to p.1))
    (or_cases (ltb a.from b.from) (eqb a.from b.from && ltb a.to b.to) e)

pub before_holds : (a b : Arrow) → Before a b → before a b ≡ true
before_holds a b (inl l) = or_left (ltb a.from b.from) _ (lt-ltb a.from b.from l)
before_holds a b (inr r) =
    or_right (ltb a.from b.from) _
    (and_from (eqb a.from b.from) (ltb a.to b.to) (eq-eqb a.from b.from r.0) (lt-ltb a.to b.to r.1))

-- which record is expected, by what is left
module _ (c : Cursor) where
  pub header_expected : is_begun c ≡ false → expected c ≡ HeaderRecord
  header_expected e = grind (arith, nat_tests)

  pub step_expected : is_begun c ≡ true → 0 < steps_to_come c → expected c ≡ StepRecord
  step_expected e l = grind (arith, nat_tests)

  pub arrow_expected : is_begun c ≡ true → steps_to_come c ≡ 0 → 0 < arrows_to_come c → expected c ≡ ArrowRecord
  arrow_expected e s l = grind (arith, nat_tests)

  pub none_expected : is_begun c ≡ true → steps_to_come c ≡ 0 → arrows_to_come c ≡ 0 → expected c ≡ NoRecord
  none_expected e s a = grind (arith, nat_tests)

  from_header : expected c ≡ HeaderRecord → is_begun c ≡ false
  from_header e = grind (arith, nat_tests)

  from_step : expected c ≡ StepRecord → (is_begun c ≡ true) × (0 < steps_to_come c)
  from_step e = (grind (arith, nat_tests), grind (arith, nat_tests))

  from_arrow : expected c ≡ ArrowRecord → (is_begun c ≡ true) × (steps_to_come c ≡ 0) × (0 < arrows_to_come c)
  from_arrow e = (grind (arith, nat_tests), grind (arith, nat_tests), grind (arith, nat_tests))

  from_none : expected c ≡ NoRecord → (is_begun c ≡ true) × (steps_to_come c ≡ 0) × (arrows_to_come c ≡ 0)
  from_none e = (grind (arith, nat_tests), grind (arith, nat_tests), grind (arith, nat_tests))

module _ (xs : List ℕ) (c : Cursor) where
  -- a record that no check declines is good
  pub good_from : (e : Expected) → expected c ≡ e → first_fault (checks e xs c) ≡ None → Good e xs c
  good_from HeaderRecord e h =
      let w = none_stands _ _ _ _ _ _ h in
      let long : ltb (length xs) 4 ≡ false = w.0 in
      let form : (not (eqb (header_at xs 0) 1) || ltb 0 (header_at xs 3)) ≡ false = w.1 in
      let values : (eqb (header_at xs 1) 0 || (ltb 64 (header_at xs 1) || ltb 512 (header_at xs 2))) ≡ false = w.2 in
      record {
        first = from_header c e;
        long = grind (arith, nat_tests);
        form_is = grind (arith, nat_tests);
        spare_is = grind (arith, nat_tests);
        some_steps = grind (arith, nat_tests);
        few_steps = grind (arith, nat_tests);
        few_arrows = grind (arith, nat_tests);
      }
  good_from StepRecord e h =
      let w = none_stands _ _ _ _ _ _ h in
      let long : (ltb (length xs) 2 || ltb (length xs) (2 + name_length xs)) ≡ false = w.0 in
      let form : ltb 0 (step_at xs 7) ≡ false = w.1 in
      let values : (ltb 1 (step_at xs 5) || eqb (name_length xs) 0) ≡ false = w.2 in
      record {
        begun = (from_step c e).0;
        wanted = (from_step c e).1;
        long = grind (arith, nat_tests);
        spare_is = grind (arith, nat_tests);
        kind_low = grind (arith, nat_tests);
        some_name = grind (arith, nat_tests);
      }
  good_from ArrowRecord e h =
      let w = none_stands _ _ _ _ _ _ h in
      let long : ltb (length xs) 2 ≡ false = w.0 in
      let form : ltb 0 (arrow_at xs 2) ≡ false = w.1 in
      let a = read_arrow xs in
      let late = eqb a.to 1 || not (before (last_arrow c) a) in
      let from = or_parts (ltb (step_count c) a.from) (ltb (step_count c) a.to || late) w.2 in
      let to = or_parts (ltb (step_count c) a.to) late from.1 in
      let order = or_parts (eqb a.to 1) (not (before (last_arrow c) a)) to.1 in
      record {
        begun = (from_arrow c e).0;
        no_step = (from_arrow c e).1;
        wanted = (from_arrow c e).2;
        long = grind (arith, nat_tests);
        spare_is = grind (arith, nat_tests);
        from_high = ltb-false (step_count c) a.from from.0;
        to_high = ltb-false (step_count c) a.to to.0;
        to_low = eqb-false a.to 1 order.0;
        rising = before_true (last_arrow c) a (not-false (before (last_arrow c) a) order.1);
      }
  good_from NoRecord e h =
      let none : ltb 0 (length xs) ≡ false = none_stands_one _ _ h in
      record {
        begun = (from_none c e).0;
        no_step = (from_none c e).1;
        no_arrow_left = (from_none c e).2;
        none_left = grind (arith, nat_tests);
      }

  -- no check declines a good record, and it is the one that is expected
  pub good_passes : (e : Expected) → Good e xs c → (expected c ≡ e) × (first_fault (checks e xs c) ≡ None)
  good_passes HeaderRecord g =
      let long = g.long in
      let form = g.form_is in
      let spare = g.spare_is in
      let some_steps = g.some_steps in
      let few_steps = g.few_steps in
      let few_arrows = g.few_arrows in
      let long_passes : ltb (length xs) 4 ≡ false = grind (arith, nat_tests) in
      let form_passes : (not (eqb (header_at xs 0) 1) || ltb 0 (header_at xs 3)) ≡ false = grind (arith, nat_tests) in
      let values_pass : (eqb (header_at xs 1) 0 || (ltb 64 (header_at xs 1) || ltb 512 (header_at xs 2))) ≡ false = grind (arith, nat_tests) in
      (header_expected c g.first, all_pass _ _ _ long_passes form_passes values_pass)
  good_passes StepRecord g =
      let long = g.long in
      let spare = g.spare_is in
      let kind = g.kind_low in
      let name = g.some_name in
      let long_passes : (ltb (length xs) 2 || ltb (length xs) (2 + name_length xs)) ≡ false = grind (arith, nat_tests) in
      let form_passes : ltb 0 (step_at xs 7) ≡ false = grind (arith, nat_tests) in
      let values_pass : (ltb 1 (step_at xs 5) || eqb (name_length xs) 0) ≡ false = grind (arith, nat_tests) in
      (step_expected c g.begun g.wanted, all_pass _ _ _ long_passes form_passes values_pass)
  good_passes ArrowRecord g =
      let a = read_arrow xs in
      let long = g.long in
      let spare = g.spare_is in
      let order = or_from (eqb a.to 1) (not (before (last_arrow c) a))
      (ne_eqb a.to 1 g.to_low) (not_from_true (before (last_arrow c) a) (before_holds (last_arrow c) a g.rising)) in
      let to = or_from (ltb (step_count c) a.to) _ (le-ltb (step_count c) a.to g.to_high) order in
      let from = or_from (ltb (step_count c) a.from) _ (le-ltb (step_count c) a.from g.from_high) to in
      let long_passes : ltb (length xs) 2 ≡ false = grind (arith, nat_tests) in
      let form_passes : ltb 0 (arrow_at xs 2) ≡ false = grind (arith, nat_tests) in
      (arrow_expected c g.begun g.no_step g.wanted, all_pass _ _ _ long_passes form_passes from)
  good_passes NoRecord g =
      let none = g.none_left in
      let passes : ltb 0 (length xs) ≡ false = grind (arith, nat_tests) in
      (none_expected c g.begun g.no_step g.no_arrow_left, one_passes _ passes)
