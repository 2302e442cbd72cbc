-- A scan of bytes, by the stored form of what it reads. Assumes nothing.
use Rattle.std.proofs.Common.{◌≡◌, ℕ, ◌+◌, ◌<◌, ◌≤◌, true, false, List, ◌++◌, length, drop, Some, None, Ok, Err, Result, sym, refl, ap, ◌∙◌, subst, ap₂, append-nil, arith}
use Rattle.std.proofs.lemmas.Bool.{both_ways}
use Rattle.std.proofs.lemmas.List.{length-take-le, length-drop, length_push, nil_from_length}
use Rattle.values.specs.declared.Fault.{Fault}
use Rattle.process.specs.declared.parts.Arrow.{Arrow}
use Rattle.process.specs.declared.cursor.Cursor.{Cursor}
use Rattle.process.specs.Reading.{Expected}
use Rattle.process.specs.Reading.{HeaderRecord, StepRecord, ArrowRecord, NoRecord}
use Rattle.process.specs.Stored.{Plan, All, Nameable, Placed, Before, Formed, stored, step_form, arrow_form, form_of, no_arrow}
use Rattle.process.specs.Reading.{Record, step, arrow, Got, says, size, moved, next, expected, no_plan, with_record}
use Rattle.process.specs.Reading.{checks, got, Scans, declined, more, ended}
use Rattle.process.specs.Reading.{header_at, word2, name_length, read_step, read_arrow}
use Rattle.process.specs.Good.{Good, GoodHeader, GoodStep, GoodArrow, GoodEnd}
use Rattle.process.specs.Front.{FirstFault, in_record, Front, nothing_read, read_so_far, SoFar, cursor_after}
use Rattle.process.proofs.Packing.{unpack_fit}
use Rattle.process.proofs.Forms.{Bytes, bytes_drop, header_back, step_back, arrow_back}
use Rattle.process.proofs.Fronts.{all_push, last_kept, rising_push, step_cursor, arrow_cursor, header_cursor, form_step, form_arrow, form_on}
use Rattle.process.proofs.Rooms.{some_same, next_good}
use Rattle.process.proofs.Nexts.{answer_err}
use Rattle.values.specs.Checks.{first_fault}
use Rattle.process.specs.Stored.{step_widths}

-- a name that was read has the length that the record says, which is at most 31
read_name : (xs : List ℕ) → 2 + name_length xs ≤ length xs → length (read_step xs).name ≡ name_length xs
read_name xs l = length-take-le (name_length xs) (drop 2 xs) (simp length-drop (omega arith))

name_low : (xs : List ℕ) → name_length xs < 32
name_low xs = (unpack_fit step_widths (word2 xs)).1.1.1.1.1.1.0

at_least_1 : (n : ℕ) → 1 ≤ n + 1
at_least_1 n = omega arith

two_if : (n : ℕ) → 1 ≤ n → (n ≡ 1 → ⊥) → 2 ≤ n
two_if n h ne = omega arith

-- after the header
so_far_none : (n m : ℕ) → 1 ≤ n → n ≤ 64 → m ≤ 512 → SoFar n m no_plan
so_far_none n m lo hi few = record {
  some_steps = lo;
  few_steps = hi;
  few_arrows = few;
  steps_in = omega arith;
  arrows_in = omega arith;
  steps_first = λ _. refl;
  named = tt;
  placed = tt;
  rising = tt;
}

module _ (xs : List ℕ) where
  front_header : (rest : List ℕ) (c : Cursor) (p : Plan) → Bytes rest → GoodHeader rest c → Front xs rest c p
      → Front xs (drop 4 rest) (moved HeaderRecord rest c) p
  front_header _ _ _ b g nothing_read =
      let n = header_at xs 1 in
      let m = header_at xs 2 in
      let bytes = header_back xs b g.long g.form_is g.spare_is in
      subst (λ (c : Cursor). Front xs (drop 4 xs) c no_plan) (header_cursor n m)
      (read_so_far n m (so_far_none n m g.some_steps g.few_steps g.few_arrows) bytes)
  front_header rest _ p b g (read_so_far n m s e) = absurd (both_ways true g.first refl)

  front_step : (rest : List ℕ) (c : Cursor) (p : Plan) → Bytes rest → GoodStep rest c → Front xs rest c p
      → Front xs (drop (size StepRecord rest) rest) (moved StepRecord rest c) (with_record p (step (read_step rest) (c.place + 2)))
  front_step _ _ _ b g nothing_read = absurd (both_ways false refl g.begun)
  front_step rest _ p b g (read_so_far n m s e) =
      let t = read_step rest in
      let place = (cursor_after n m p).place + 2 in
      let long = read_name rest g.long in
      let less : length p.steps < n = omega (arith, g.wanted) in
      let none = s.steps_first less in
      let short : length t.name ≤ 31 = omega (arith, name_low rest, long) in
      let some : 1 ≤ length t.name = omega (arith, g.some_name, long) in
      let so : SoFar n m (with_record p (step t place)) = record {
        some_steps = s.some_steps;
        few_steps = s.few_steps;
        few_arrows = s.few_arrows;
        steps_in = omega (arith, length_push p.steps t);
        arrows_in = s.arrows_in;
        steps_first = λ _. none;
        named = all_push Nameable p.steps t s.named (some, short);
        placed = s.placed;
        rising = s.rising;
      } in
      let bytes = form_on (form_of n m p) _ (step_form t) xs _ rest (form_step n m p t place none)
      (step_back rest b g.long g.kind_low g.spare_is) e in
      subst (λ (c : Cursor). Front xs (drop (size StepRecord rest) rest) c (with_record p (step t place)))
      (sym (step_cursor n m p t place rest (sym long))) (read_so_far n m so bytes)

  front_arrow : (rest : List ℕ) (c : Cursor) (p : Plan) → Bytes rest → GoodArrow rest c → Front xs rest c p
      → Front xs (drop 2 rest) (moved ArrowRecord rest c) (with_record p (arrow (read_arrow rest)))
  front_arrow _ _ _ b g nothing_read = absurd (both_ways false refl g.begun)
  front_arrow rest _ p b g (read_so_far n m s e) =
      let a = read_arrow rest in
      let placed : Placed n a = record {
        from_low = at_least_1 _;
        from_high = g.from_high;
        to_low = two_if _ (at_least_1 _) g.to_low;
        to_high = g.to_high;
      } in
      let full : length p.steps ≡ n = omega (arith, g.no_step, s.steps_in) in
      let so : SoFar n m (with_record p (arrow a)) = record {
        some_steps = s.some_steps;
        few_steps = s.few_steps;
        few_arrows = s.few_arrows;
        steps_in = s.steps_in;
        arrows_in = omega (arith, length_push p.arrows a, g.wanted);
        steps_first = λ less. absurd (omega arith);
        named = s.named;
        placed = all_push (Placed n) p.arrows a s.placed placed;
        rising = rising_push no_arrow p.arrows a s.rising
            (subst (λ (x : Arrow). Before x a) (last_kept p.arrows) g.rising);
      } in
      let bytes = form_on (form_of n m p) _ (arrow_form a) xs _ rest (form_arrow n m p a)
      (arrow_back rest b g.long g.spare_is) e in
      subst (λ (c : Cursor). Front xs (drop 2 rest) c (with_record p (arrow a)))
      (sym (arrow_cursor n m p a rest refl)) (read_so_far n m so bytes)

  -- one record more
  front_got : (e : Expected) (rest : List ℕ) (c : Cursor) (p : Plan) → Bytes rest → Good e rest c → Front xs rest c p
      → (i : Record) → says e rest c ≡ Some i → Front xs (drop (size e rest) rest) (moved e rest c) (with_record p i)
  front_got HeaderRecord rest c p b g f i s =
      subst (λ (j : Record). Front xs (drop 4 rest) (moved HeaderRecord rest c) (with_record p j)) (some_same s) (front_header rest c p b g f)
  front_got StepRecord rest c p b g f i s =
      subst (λ (j : Record). Front xs (drop (size StepRecord rest) rest) (moved StepRecord rest c) (with_record p j)) (some_same s)
      (front_step rest c p b g f)
  front_got ArrowRecord rest c p b g f i s =
      subst (λ (j : Record). Front xs (drop 2 rest) (moved ArrowRecord rest c) (with_record p j)) (some_same s) (front_arrow rest c p b g f)
  front_got NoRecord rest c p b g f i s = let z : ◌≡◌ {A = ℕ} 0 1 = cc in absurd (omega arith)

  pub front_more : {rest ys : List ℕ} {c d : Cursor} {p : Plan} (i : Record) → Bytes rest → Front xs rest c p
      → next rest c ≡ Ok (record { said = Some i; rest = ys; cursor = d }) → Front xs ys d (with_record p i) × Bytes ys
  front_more {rest = rest} {ys = ys} {c = c} {d = d} {p = p} i b f e =
      let w = next_good rest c _ e in
      let said : says (expected c) rest c ≡ Some i = sym (ap (λ (g : Got). g.said) w.1) in
      let left : drop (size (expected c) rest) rest ≡ ys = sym (ap (λ (g : Got). g.rest) w.1) in
      let cursor : moved (expected c) rest c ≡ d = sym (ap (λ (g : Got). g.cursor) w.1) in
      let more = front_got (expected c) rest c p b w.0 f i said in (
        subst (λ (v : List ℕ). Front xs v d (with_record p i)) left
            (subst (λ (u : Cursor). Front xs (drop (size (expected c) rest) rest) u (with_record p i)) cursor more),
        subst Bytes left (bytes_drop (size (expected c) rest) rest b),
      )

-- what a scan comes to: the stored form of a process, or the first fault in a record
abbrev pub Outcome : List ℕ → Result Plan Fault → Type 0
Outcome xs (Ok p) = Formed p × (xs ≡ stored p)
Outcome xs (Err f) = FirstFault xs f

-- nothing is said at the end alone
end_said : (e : Expected) (xs : List ℕ) (c : Cursor) → None ≡ says e xs c → Good e xs c → GoodEnd xs c
end_said HeaderRecord xs c s g = let z : ◌≡◌ {A = ℕ} 0 1 = cc in absurd (omega arith)
end_said StepRecord xs c s g = let z : ◌≡◌ {A = ℕ} 0 1 = cc in absurd (omega arith)
end_said ArrowRecord xs c s g = let z : ◌≡◌ {A = ℕ} 0 1 = cc in absurd (omega arith)
end_said NoRecord xs c s g = g

-- at the end, the bytes are the stored form
front_end : (xs rest : List ℕ) (c : Cursor) (p : Plan) → GoodEnd rest c → Front xs rest c p → Formed p × (xs ≡ stored p)
front_end xs _ _ _ g nothing_read = absurd (both_ways false refl g.begun)
front_end xs rest _ p g (read_so_far n m s e) =
    let n_is : n ≡ length p.steps = omega (arith, g.no_step, s.steps_in) in
    let m_is : m ≡ length p.arrows = omega (arith, g.no_arrow_left, s.arrows_in) in
    let all : xs ≡ form_of n m p = e ∙ ap (λ (ys : List ℕ). form_of n m p ++ ys) (nil_from_length rest g.none_left) ∙ append-nil (form_of n m p) in (
      record {
        some_steps = subst (λ (k : ℕ). 1 ≤ k) n_is s.some_steps;
        few_steps = subst (λ (k : ℕ). k ≤ 64) n_is s.few_steps;
        named = s.named;
        few_arrows = subst (λ (k : ℕ). k ≤ 512) m_is s.few_arrows;
        placed = subst (λ (k : ℕ). All (Placed k) p.arrows) n_is s.placed;
        rising = s.rising;
      },
      all ∙ ap₂ (λ (j k : ℕ). form_of j k p) n_is m_is,
    )

pub scan_outcome : (xs : List ℕ) {rest : List ℕ} {c : Cursor} {p : Plan} {r : Result Plan Fault}
    → Bytes rest → Front xs rest c p → Scans rest c p r → Outcome xs r
scan_outcome xs {rest = rest} {c = c} b f (declined e) =
    in_record f (answer_err (first_fault (checks (expected c) rest c)) (got (expected c) rest c) _ (sym e))
scan_outcome xs b f (more {i = i} e s) = let w = front_more xs i b f e in scan_outcome xs w.1 w.0 s
scan_outcome xs {rest = rest} {c = c} {p = p} b f (ended e) =
    let w = next_good rest c _ e in
    front_end xs rest c p (end_said (expected c) rest c (ap (λ (g : Got). g.said) w.1) w.0) f

ok_same : {x y : Got} → ◌≡◌ {A = Result Got Fault} (Ok x) (Ok y) → x ≡ y
ok_same e = cc

err_same : {f g : Fault} → ◌≡◌ {A = Result Got Fault} (Err f) (Err g) → f ≡ g
err_same e = cc

err_not_ok : {x : Got} {f : Fault} → ◌≡◌ {A = Result Got Fault} (Err f) (Ok x) → ⊥
err_not_ok e = let z : ◌≡◌ {A = ℕ} 0 1 = cc in omega arith

some_not_none : {i : Record} → Some i ≡ None → ⊥
some_not_none e = let z : ◌≡◌ {A = ℕ} 0 1 = cc in omega arith

said_apart : {x y : Got} {i : Record} → ◌≡◌ {A = Result Got Fault} (Ok x) (Ok y) → x.said ≡ Some i → y.said ≡ None → ⊥
said_apart e s n = some_not_none (sym s ∙ ap (λ (g : Got). g.said) (ok_same e) ∙ n)

-- a scan comes to one answer
pub scans_same : {xs : List ℕ} {c : Cursor} {p : Plan} {r q : Result Plan Fault} → Scans xs c p r → Scans xs c p q → r ≡ q
scans_same (declined e) (declined h) = ap (λ (x : Fault). Err x) (err_same (sym e ∙ h))
scans_same (declined e) (more h t) = absurd (err_not_ok (sym e ∙ h))
scans_same (declined e) (ended h) = absurd (err_not_ok (sym e ∙ h))
scans_same (more e s) (declined h) = absurd (err_not_ok (sym h ∙ e))
scans_same {p = p} {q = q} (more {i = i} {ys = ys} {d = d} e s) (more {i = j} {ys = zs} {d = f} h t) =
    let same = ok_same (sym h ∙ e) in
    let same_item : j ≡ i = some_same (ap (λ (g : Got). g.said) same) in
    let same_rest : zs ≡ ys = ap (λ (g : Got). g.rest) same in
    let same_cursor : f ≡ d = ap (λ (g : Got). g.cursor) same in
    scans_same s
    (subst (λ (k : Record). Scans ys d (with_record p k) q) same_item
    (subst (λ (k : Cursor). Scans ys k (with_record p j) q) same_cursor
    (subst (λ (v : List ℕ). Scans v f (with_record p j) q) same_rest t)))
scans_same (more e s) (ended h) = absurd (said_apart (sym e ∙ h) refl refl)
scans_same (ended e) (declined h) = absurd (err_not_ok (sym h ∙ e))
scans_same (ended e) (more h t) = absurd (said_apart (sym h ∙ e) refl refl)
scans_same (ended e) (ended h) = refl
