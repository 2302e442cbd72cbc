-- The reader's answers as steps of a scan, and the room in the tables along it. Assumes nothing.
use Rattle.std.proofs.Common.{◌≡◌, ℕ, ◌+◌, ◌-◌, ◌<◌, ◌≤◌, true, false, List, [], ◌∷◌, length, drop, Some, None, Ok, Err, Option, Result, sym, refl, ap, ◌∙◌, subst, arith, length-drop}
use Rattle.std.proofs.lemmas.Bool.{both_ways}
use Rattle.std.proofs.lemmas.List.{map-append}
use Rattle.values.specs.Checks.{first_fault}
use Rattle.values.specs.declared.Fault.{Fault}
use Rattle.std.specs.Option.{is_some, option_map, option_map_or}
use Rattle.process.specs.declared.cursor.Progress.{Progress}
use Rattle.process.specs.declared.cursor.Cursor.{Cursor}
use Rattle.process.specs.Reading.{Expected}
use Rattle.process.specs.Reading.{HeaderRecord, StepRecord, ArrowRecord, NoRecord}
use Rattle.process.specs.declared.parts.Step.{Step}
use Rattle.process.specs.declared.parts.Arrow.{Arrow}
use Rattle.process.specs.Stored.{Plan, Named}
use Rattle.process.specs.Good.{Good}
use Rattle.process.specs.Reading.{step_done, arrow_done, read_arrow, is_begun, steps_to_come, arrows_to_come, Record, header, step, arrow, Got, expected, checks, got, next, size, moved, says, name_length, with_record}
use Rattle.process.specs.Reading.{start, no_plan, Scans, Scan, declined, more, ended}
use Rattle.process.specs.declared.parts.Item.{Item}
use Rattle.process.specs.Items.{record_of, told, said_by, stand_after}
use Rattle.process.specs.Drafts.{bare_with, bare_plan, step_more, arrow_more}
use Rattle.process.proofs.Nexts.{answer_ok}
use Rattle.process.proofs.Checks.{good_from}

-- what the reader told, as the step that it made
pub read_on : (n : Result Got Fault) (s t : List ℕ × Cursor) (i : Record) → Ok (Some i) ≡ said_by n
    → t ≡ stand_after n s → n ≡ Ok (record { said = Some i; rest = t.0; cursor = t.1 })
read_on (Ok g) s t i e a = let said : g.said ≡ Some i = cc in
    let rest : g.rest ≡ t.0 = sym (ap (λ (u : List ℕ × Cursor). u.0) a) in
    let cursor : g.cursor ≡ t.1 = sym (ap (λ (u : List ℕ × Cursor). u.1) a) in
    λ j. Ok (record { said = said j; rest = rest j; cursor = cursor j })
read_on (Err f) s t i e a = let z : ◌≡◌ {A = ℕ} 0 1 = cc in absurd (omega arith)

pub read_end : (n : Result Got Fault) (s t : List ℕ × Cursor) → Ok None ≡ said_by n
    → t ≡ stand_after n s → n ≡ Ok (record { said = None; rest = t.0; cursor = t.1 })
read_end (Ok g) s t e a = let said : g.said ≡ None = cc in
    let rest : g.rest ≡ t.0 = sym (ap (λ (u : List ℕ × Cursor). u.0) a) in
    let cursor : g.cursor ≡ t.1 = sym (ap (λ (u : List ℕ × Cursor). u.1) a) in
    λ j. Ok (record { said = said j; rest = rest j; cursor = cursor j })
read_end (Err f) s t e a = let z : ◌≡◌ {A = ℕ} 0 1 = cc in absurd (omega arith)

pub read_fault : (n : Result Got Fault) (f : Fault) → Err f ≡ said_by n → n ≡ Err f
read_fault (Ok g) f e = let z : ◌≡◌ {A = ℕ} 0 1 = cc in absurd (omega arith)
read_fault (Err g) f e = cc

-- the same of an item
pub handed_out : (n : Result Got Fault) (s t : List ℕ × Cursor) (o : Option Item) (i : Item) → told (Ok o) ≡ said_by n
    → t ≡ stand_after n s → o ≡ Some i → n ≡ Ok (record { said = Some (record_of i); rest = t.0; cursor = t.1 })
handed_out n s t o i e a is = read_on n s t (record_of i) (sym (ap (λ (x : Option Item). told (Ok x)) is) ∙ e) a

-- a step of the scan is a good record
pub next_good : (xs : List ℕ) (c : Cursor) (g : Got) → next xs c ≡ Ok g
    → Good (expected c) xs c × (g ≡ got (expected c) xs c)
next_good xs c g e =
    let w = answer_ok (first_fault (checks (expected c) xs c)) (got (expected c) xs c) g (sym e) in
    (good_from xs c (expected c) refl w.0, w.1)

-- how many steps and arrows may still come, with those in the tables, is never too many
abbrev pub Room : Cursor → ℕ → ℕ → Type 0
Room c a b =
    (is_begun c ≡ false → (a ≡ 0) × (b ≡ 0))
    × (is_begun c ≡ true → (a + steps_to_come c ≤ 64) × (b + arrows_to_come c ≤ 512))

-- what holds after a step of the scan
pub record Onward (xs : List ℕ) (a b : ℕ) (i : Record) (ys : List ℕ) (d : Cursor) : Type 0 where
  pub steps_fit : a + step_more i ≤ 64
  pub arrows_fit : b + arrow_more i ≤ 512
  pub room : Room d (a + step_more i) (b + arrow_more i)
  pub shorter : length ys < length xs

-- room after the header, in empty tables
room_by : {a b m n : ℕ} → (a ≡ 0) × (b ≡ 0) → m ≤ 64 → n ≤ 512 → ((a + 0) + m ≤ 64) × ((b + 0) + n ≤ 512)
room_by z f g = (omega (arith, z.0), omega (arith, z.1))

at_least_2 : (n : ℕ) → 2 ≤ 2 + n
at_least_2 n = omega arith

-- the record that was said
pub some_same : {x i : Record} → Some x ≡ Some i → x ≡ i
some_same e = cc

-- what is left behind a record is shorter
shorter_by : (n : ℕ) (xs : List ℕ) → 2 ≤ n → n ≤ length xs → length (drop n xs) < length xs
shorter_by n xs lo hi = simp length-drop (omega arith)

-- what is still to come after a step, and after an arrow
still_begun : (f : Progress → Progress) (o : Option Progress) → is_some (option_map f o) ≡ is_some o
still_begun f None = refl
still_begun f (Some p) = refl

step_less : (o : Option Progress) → option_map_or (λ p. p.steps_left) (option_map step_done o) 0 ≡ option_map_or (λ p. p.steps_left) o 0 - 1
step_less None = refl
step_less (Some p) = refl

arrows_same : (o : Option Progress) → option_map_or (λ p. p.arrows_left) (option_map step_done o) 0 ≡ option_map_or (λ p. p.arrows_left) o 0
arrows_same None = refl
arrows_same (Some p) = refl

steps_same : (a : Arrow) (o : Option Progress) → option_map_or (λ p. p.steps_left) (option_map (arrow_done a) o) 0 ≡ option_map_or (λ p. p.steps_left) o 0
steps_same a None = refl
steps_same a (Some p) = refl

arrow_less : (a : Arrow) (o : Option Progress) → option_map_or (λ p. p.arrows_left) (option_map (arrow_done a) o) 0 ≡ option_map_or (λ p. p.arrows_left) o 0 - 1
arrow_less a None = refl
arrow_less a (Some p) = refl

module _ (xs : List ℕ) (c : Cursor) (a b : ℕ) (r : Room c a b) where
  onward_got : (e : Expected) → Good e xs c → (i : Record) → says e xs c ≡ Some i
      → Onward xs a b i (drop (size e xs) xs) (moved e xs c)
  onward_got HeaderRecord g i s =
      let none = r.0 g.first in
      subst (λ (j : Record). Onward xs a b j (drop 4 xs) (moved HeaderRecord xs c)) (some_same s) (record {
        steps_fit = omega (arith, none.0);
        arrows_fit = omega (arith, none.1);
        room = (λ (f : true ≡ false). absurd (both_ways true f refl), λ t. (room_by none g.few_steps g.few_arrows));
        shorter = shorter_by 4 xs (omega arith) g.long;
      })
  onward_got StepRecord g i s =
      let left = r.1 g.begun in
      subst (λ (j : Record). Onward xs a b j (drop (size StepRecord xs) xs) (moved StepRecord xs c)) (some_same s) (record {
        steps_fit = omega (arith, left.0, g.wanted);
        arrows_fit = omega (arith, left.1);
        room = (
          λ f. absurd (both_ways (is_begun c) (sym (still_begun step_done c.progress) ∙ f) g.begun),
          λ t. (omega (arith, left.0, g.wanted, step_less c.progress), omega (arith, left.1, arrows_same c.progress)),
        );
        shorter = shorter_by (size StepRecord xs) xs (at_least_2 (name_length xs)) g.long;
      })
  onward_got ArrowRecord g i s =
      let z = read_arrow xs in
      let left = r.1 g.begun in
      subst (λ (j : Record). Onward xs a b j (drop 2 xs) (moved ArrowRecord xs c)) (some_same s) (record {
        steps_fit = omega (arith, left.0);
        arrows_fit = omega (arith, left.1, g.wanted);
        room = (
          λ f. absurd (both_ways (is_begun c) (sym (still_begun (arrow_done z) c.progress) ∙ f) g.begun),
          λ t. (omega (arith, left.0, steps_same z c.progress), omega (arith, left.1, g.wanted, arrow_less z c.progress)),
        );
        shorter = shorter_by 2 xs (omega arith) g.long;
      })
  onward_got NoRecord g i s = let z : ◌≡◌ {A = ℕ} 0 1 = cc in absurd (omega arith)

  pub onward : (i : Record) (ys : List ℕ) (d : Cursor) → next xs c ≡ Ok (record { said = Some i; rest = ys; cursor = d })
      → Onward xs a b i ys d
  onward i ys d e =
      let w = next_good xs c _ e in
      let said : says (expected c) xs c ≡ Some i = sym (ap (λ (g : Got). g.said) w.1) in
      let rest : drop (size (expected c) xs) xs ≡ ys = sym (ap (λ (g : Got). g.rest) w.1) in
      let cursor : moved (expected c) xs c ≡ d = sym (ap (λ (g : Got). g.cursor) w.1) in
      subst (λ (v : List ℕ). Onward xs a b i v d) rest
      (subst (λ (u : Cursor). Onward xs a b i (drop (size (expected c) xs) xs) u) cursor (onward_got (expected c) w.0 i said))

-- the tables with one record more hold the plan with one record more
pub bare_more : (p : Plan) (t : List Step × List Arrow) (i : Record) → t ≡ bare_plan p
    → bare_with t i ≡ bare_plan (with_record p i)
bare_more p t (header n m) e = e
bare_more p t (step s place) e =
    ap (λ (u : List Step × List Arrow). bare_with u (step s place)) e
    ∙ ap (λ (ss : List Step). (ss, p.arrows)) (sym (map-append (λ (x : Named). x.step) p.steps (s ∷ [])))
bare_more p t (arrow a) e = ap (λ (u : List Step × List Arrow). bare_with u (arrow a)) e

-- a part of the bytes is read: the tables hold it, there is room for the rest, and the scan of the rest is the scan
pub record Partly (xs rest : List ℕ) (c : Cursor) (t : List Step × List Arrow) (a b : ℕ) : Type 0 where
  pub plan : Plan
  pub holds : t ≡ bare_plan plan
  pub room : Room c a b
  pub onwards : (r : Result Plan Fault) → Scans rest c plan r → Scan xs r

pub partly_begun : {xs rest : List ℕ} {c : Cursor} {t : List Step × List Arrow} {a b : ℕ}
    → ◌≡◌ {A = List ℕ × Cursor} (rest, c) (xs, start) → t ≡ ([], []) → a ≡ 0 → b ≡ 0 → Partly xs rest c t a b
partly_begun {xs = xs} {rest = rest} {c = c} {t = t} {a = a} {b = b} s e f g =
    let P : List ℕ × Cursor → Type 0 = λ u. Partly xs u.0 u.1 t a b in
    subst P (sym s) (record {
      plan = no_plan;
      holds = e;
      room = (λ _. (f, g), λ (z : false ≡ true). absurd (both_ways false refl z));
      onwards = λ r h. h;
    })

module _ {xs rest : List ℕ} {c : Cursor} {t : List Step × List Arrow} {a b : ℕ} (p : Partly xs rest c t a b) where
  pub partly_more : {ys : List ℕ} {d : Cursor} {u : List Step × List Arrow} {m n : ℕ} (i : Record)
      → next rest c ≡ Ok (record { said = Some i; rest = ys; cursor = d })
      → u ≡ bare_with t i → m ≡ a + step_more i → n ≡ b + arrow_more i → Partly xs ys d u m n
  partly_more {ys = ys} {d = d} {m = m} i e more_is m_is n_is =
      let w = onward rest c a b p.room i ys d e in
      record {
        plan = with_record p.plan i;
        holds = more_is ∙ bare_more p.plan t i p.holds;
        room = subst (λ (n : ℕ). Room d m n) (sym n_is) (subst (λ (k : ℕ). Room d k (b + arrow_more i)) (sym m_is) w.room);
        onwards = λ r h. p.onwards r (more e h);
      }

  pub partly_declined : {f : Fault} → next rest c ≡ Err f → Scan xs (Err f)
  partly_declined e = p.onwards _ (declined e)

  pub partly_ended : {ys : List ℕ} {d : Cursor} → next rest c ≡ Ok (record { said = None; rest = ys; cursor = d })
      → Scan xs (Ok p.plan)
  partly_ended e = p.onwards _ (ended e)
