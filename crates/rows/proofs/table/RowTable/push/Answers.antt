-- One row added: it follows only rows that are there.
use Rattle.std.proofs.Common.{◌≡◌, ℕ, ◌+◌, ◌<◌, ◌≤◌, true, false, cond, not, ◌&&◌, ◌||◌, eqb, ltb, leb, List, [], ◌∷◌, ◌++◌, length, sym, ap, ap₂, ◌∙◌, subst, inl, inr, arith}
use Rattle.std.proofs.lemmas.List.{length_push, take_all, with_items_is}
use Rattle.std.proofs.lemmas.Bool.{and_parts, leb-true, ltb-true, both_ways, not-true, cases_Bool, not_from_false}
use Rattle.values.specs.declared.RowState.{RowState}
use Rattle.model.specs.Search.{any, at_put, has}
use Rattle.model.proofs.Basics.{any_in}
use Rattle.rowset.specs.declared.RowSet.{RowSet}
use Rattle.rowset.specs.Members.{is_number, contains}
use Rattle.rows.specs.declared.row.Row.{Row}
use Rattle.model.specs.Sheets.{Lower}
use Rattle.rows.specs.Columns.{fits, columns, listed, preds_of, steps_of, row_at, Positive}
use Rattle.rows.specs.Followers.{HaveFollowers}
use Rattle.rows.specs.States.{set_at}
use Rattle.rows.proofs.Columns.{row_past, columns_added, rolled_added, preds_grown, states_grown, steps_grown, lower_added, positive_added}
use Rattle.values.specs.Numbers.{same_state}
use Rattle.values.specs.declared.RowState.TheVariants.{Absent, Running}
use Rattle.rows.proofs.Followers.{followers_added, told, tell}
use Rattle.rows.proofs.Highest.{highest_added}
use Rattle.rows.proofs.States.{none_there, of_state, put_back}
use Rattle.rows.proofs.table.RowTable.push.Goals as goal

-- what fits: a place, at most eight predecessors, none above the length
record Fitting (rows : List Row) (fs : List ℕ) : Type 0 where
  place : length rows < 256
  few : length fs ≤ 8
  inside : (x : ℕ) → has x fs ≡ true → (1 ≤ x) × (x ≤ length rows)

row_number : (x n : ℕ) → (leb 1 x && leb x n) ≡ true → (1 ≤ x) × (x ≤ n)
row_number x n h = let (a, b) = and_parts (leb 1 x) (leb x n) h in (leb-true 1 x a, leb-true x n b)

fitting : (rows : List Row) (fs : List ℕ) → fits (columns rows) fs ≡ true → Fitting rows fs
fitting rows fs h =
    let (a, b) = and_parts (ltb (length rows) 256) _ h in
    let (d, e) = and_parts (leb (length fs) 8) _ b in
    let is_inside : (x : ℕ) → has x fs ≡ true → any (λ y. not (leb 1 y && leb y (length rows))) fs ≡ false
    → (leb 1 x && leb x (length rows)) ≡ true =
    λ x m q. elim (cases_Bool (leb 1 x && leb x (length rows))) [
      | inl t ↦ t
      | inr t ↦ absurd (both_ways (any (λ y. not (leb 1 y && leb y (length rows))) fs) q
          (any_in (λ y. not (leb 1 y && leb y (length rows))) fs x m (not_from_false _ t)))
    ] in
    record {
      place = ltb-true (length rows) 256 a;
      few = leb-true (length fs) 8 d;
      inside = λ x m. row_number x (length rows) (is_inside x m (not-true _ e));
    }

pub add_follower-requires-clause-inside : goal.add_follower-requires-clause-inside
add_follower-requires-clause-inside c = λ k m.
    let s = c.args.self.now in
    let f = fitting s.rows.items c.args.predecessors.now (sym c.if-not-fits.ensures) in
    let (low, high) = f.inside k m in
    (low, omega (arith, high, c.deref_mut.ensures.len, (told s.told).level))

pub push_reserved-requires : goal.push_reserved-requires
push_reserved-requires c =
    let s = c.args.self.now in
    let f = fitting s.rows.items c.args.predecessors.now (sym c.if-not-fits.ensures) in
    omega (arith, f.place, (told s.told).level, (told s.told).places)

pub invariant_of-self : goal.invariant_of-self
invariant_of-self c =
    let s = c.args.self.now in
    let rows = s.rows.items in
    let fs = c.args.predecessors.now in
    let f = fitting rows fs (sym c.if-not-fits.ensures) in
    let p = c.push_reserved-2.ensures in
    let e : listed c.new-2.result ≡ fs = c.new-2.ensures ∙ take_all 8 fs f.few in
    let sets = c.add_follower.new.followers in
    let q = c.push_reserved.ensures in
    let preds : preds_of c.push_reserved-2.new.self.items ≡ at_put (preds_of rows) (length rows + 1) fs =
    ap preds_of p.items ∙ preds_grown rows c.args.step c.new-2.result fs c.args.entry e in
    let long : length sets ≡ length s.sets.followers.items = c.add_follower.ensures.len ∙ ap length c.deref_mut.ensures.value in
    let lent = with_items_is s.sets.followers sets (long ∙ sym s.sets.followers.ok.0) in
    let stored = q.items ∙ ap (λ (xs : List RowSet). xs ++ c.new.result ∷ []) lent in
    let linked : (k v : ℕ) → contains (set_at sets k) v
    ≡ (contains (set_at s.sets.followers.items k) v || (eqb v (length rows + 1) && has k fs)) =
    λ k v. c.add_follower.ensures.sets k v
    ∙ ap₂ (λ (xs : List RowSet) n. contains (set_at xs k) v || (eqb v (n + 1) && has k fs))
    c.deref_mut.ensures.value c.len-row.ensures in
    let level : length sets ≡ length rows = omega (arith, long, (told s.told).level, s.sets.followers.ok.0) in
    let linked_all = followers_added rows s.lower s.positive s.sets.followers.items sets fs (told s.told).followers f.inside linked level
    c.new.result c.new.ensures in
    let longer : length c.push_reserved-2.new.self.items ≡ length rows + 1 = ap length p.items ∙ length_push rows _ in
    record {
      lower = subst Lower (sym preds) (lower_added rows fs s.lower (λ x m. (f.inside x m).1));
      positive = subst Positive (sym preds) (positive_added rows fs s.positive (λ x m. (f.inside x m).0));
      few = omega (arith, p.len, f.place, s.rows.ok.0);
      reserved = omega (arith, p.capacity, s.reserved);
      told = tell (record {
        followers = subst (HaveFollowers c.push_reserved.new.self.items) (sym preds)
            (subst (λ (xs : List RowSet). HaveFollowers xs (at_put (preds_of rows) (length rows + 1) fs)) (sym stored) linked_all);
        level = omega (arith, q.len, (told s.told).level, longer);
        places = omega (arith, q.capacity, (told s.told).places);
        states = put_back rows _ (length rows + 1) Running s.sets.states _ (omega arith) (omega (arith, f.place))
            (ap {B = ℕ → RowState} (λ (xs : List Row) j. (row_at xs j).state) p.items
            ∙ states_grown rows c.args.step c.new-2.result fs c.args.entry e)
            (λ st j. c.put_in.ensures st j
            ∙ ap (λ n. cond (same_state st Running && eqb j (n + 1)) (not (same_state st Absent) && is_number j)
            (contains (of_state s.sets.states st) j)) c.len-row.ensures)
            (none_there rows (length rows + 1) s.sets.states
            (sym (ap (λ r. same_state r.state Absent) (row_past rows (length rows + 1) (inr (omega arith))))) (told s.told).states);
        highest = highest_added rows _ c.args.step f.place longer
            (ap {B = ℕ → ℕ} steps_of p.items ∙ steps_grown rows c.args.step c.new-2.result fs c.args.entry e)
            c.highest_of_others-highest.result _ c.highest_of_others-highest.ensures
            (λ k. c.insert.ensures k ∙ ap (λ n. contains c.highest_of_others-highest.result k || (eqb k (n + 1) && is_number k)) c.len-row.ensures);
      });
    }

pub returns : goal.returns
returns c =
    let s = c.args.self.now in
    let rows = s.rows.items in
    let fs = c.args.predecessors.now in
    let ok = sym c.if-not-fits.ensures in
    let f = fitting rows fs ok in
    let p = c.push_reserved-2.ensures in
    let e : listed c.new-2.result ≡ fs = c.new-2.ensures ∙ take_all 8 fs f.few in
    record {
      fits = sym ok;
      rows = ap columns p.items ∙ columns_added rows c.args.step c.new-2.result fs c.args.entry e;
      rolled = ap {B = ℕ → ℕ} (λ (xs : List Row) k. (row_at xs k).rolled) p.items
          ∙ rolled_added rows c.args.step c.new-2.result fs c.args.entry e;
    }
