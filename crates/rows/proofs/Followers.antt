-- The sets of followers, read and written. Assumes nothing.
use Rattle.std.proofs.Common.{◌≡◌, ℕ, ◌+◌, ◌-◌, ◌<◌, ◌≤◌, true, false, not, ◌&&◌, ◌||◌, eqb, leb, ◌⊎◌, List, [], ◌∷◌, ◌++◌, length, get_or, set, take, sym, ap, ap₂, ◌∙◌, subst, inl, inr, arith}
use Rattle.std.proofs.lemmas.Bool.{cases_Bool, cases_eq, eq-eqb, ne_eqb}
use Rattle.std.proofs.lemmas.List.{get_or_default}
use Rattle.model.specs.Search.{has, at_put}
use Rattle.model.specs.Sheets.{Lower}
use Rattle.model.proofs.Basics.{put_same, put_other}
use Rattle.rowset.specs.declared.RowSet.{RowSet}
use Rattle.rowset.specs.Members.{is_number, contains}
use Rattle.rowset.proofs.Members.{none_in_none}
use Rattle.rows.specs.declared.row.Row.{Row}
use Rattle.rows.specs.declared.table.Sets.{Sets}
use Rattle.rows.specs.Highest.{has_higher}
use Rattle.rows.specs.Columns.{no_row, listed, preds_of, steps_of, Positive}
use Rattle.rows.specs.Followers.{HaveFollowers, Told, Tell}
use Rattle.rows.specs.States.{no_set, set_at, HaveStates}
use Rattle.rows.proofs.Arrows.{no_preds, joins_forth}
use Rattle.rows.proofs.Lists.{any_more}
use Rattle.rows.proofs.Numbered.{inside as in_list, past, item_set, item_push}

-- ── what a table holds of its sets ──

pub told : {sets : Sets} {rows : List Row} → Tell sets rows → Told sets rows
unfolding Tell
told t = t

pub tell : {sets : Sets} {rows : List Row} → Told sets rows → Tell sets rows
unfolding Tell
tell t = t

-- rows whose predecessors and steps stay
pub told_kept : (sets : Sets) (states : List RowSet) (rows new : List Row) → preds_of rows ≡ preds_of new
    → steps_of rows ≡ steps_of new → length new ≡ length rows → HaveStates states new
    → Tell sets rows → Tell (record { followers = sets.followers; states = states; highest = sets.highest }) new
told_kept sets states rows new preds steps long have t = tell (record {
  followers = subst (HaveFollowers sets.followers.items) preds (told t).followers;
  level = (told t).level ∙ sym long;
  places = (told t).places;
  states = have;
  highest = λ k. (told t).highest k
      ∙ ap₂ (λ (step : ℕ → ℕ) n. (leb 1 k && leb k n) && not (has_higher step (n + 1) k)) steps (sym long);
})

-- ── a row made a follower of one more predecessor ──

module _ (before now : List RowSet) (row : ℕ) (number : is_number row ≡ true) (preds : List ℕ) (i p : ℕ) (here : i < length preds)
    (is : get_or preds i 0 ≡ p) (low : 1 ≤ p) (high : p ≤ length now)
    (so_far : (k v : ℕ) → contains (set_at now k) v ≡ (contains (set_at before k) v || (eqb v row && has k (take i preds))))
    (s d : RowSet) (put : (v : ℕ) → contains s v ≡ (contains (get_or now (p - 1) d) v || (eqb v row && is_number v))) where
  one_more : (k : ℕ) → has k (take (i + 1) preds) ≡ (has k (take i preds) || eqb k p)
  one_more k = any_more (eqb k) preds i here ∙ ap (λ x. has k (take i preds) || eqb k x) is

  read : get_or now (p - 1) d ≡ set_at now p
  read = in_list no_set now p _ low high (get_or_default now (p - 1) d _ (omega arith))

  pub follows_more : (k v : ℕ) → contains (set_at (set now (p - 1) s) k) v
      ≡ (contains (set_at before k) v || (eqb v row && has k (take (i + 1) preds)))
  follows_more k v =
      ap (λ f. contains (f k) v) (item_set no_set now p s low high)
      ∙ elim (cases_eq k p) [
        | inl e ↦
            ap (λ j. contains (at_put (set_at now) p s j) v) e ∙ ap (λ x. contains x v) (put_same (set_at now) p s) ∙ put v
            ∙ ap (λ x. contains x v || (eqb v row && is_number v)) read ∙ same e
        | inr ne ↦
            let other = ne_eqb k p ne in
            ap (λ x. contains x v) (put_other (set_at now) p s k ne) ∙ so_far k v ∙ (let m = one_more k in grind arith)
      ]
    where
      is_row : eqb v row ≡ true → is_number v ≡ true
      is_row t = grind arith

      same : k ≡ p → (contains (set_at now p) v || (eqb v row && is_number v))
          ≡ (contains (set_at before k) v || (eqb v row && has k (take (i + 1) preds)))
      same e =
          let at = eq-eqb k p e in
          let m = one_more k in
          let old = so_far k v in
          let there = ap (λ j. contains (set_at now j) v) e in grind arith

-- ── a row added ──

module _ (rows : List Row) (lower : Lower (preds_of rows)) (positive : Positive (preds_of rows)) (before now : List RowSet) (fs : List ℕ)
    (have : HaveFollowers before (preds_of rows)) (inside : (k : ℕ) → has k fs ≡ true → (1 ≤ k) × (k ≤ length rows))
    (linked : (k v : ℕ) → contains (set_at now k) v ≡ (contains (set_at before k) v || (eqb v (length rows + 1) && has k fs)))
    (level : length now ≡ length rows) (s : RowSet) (empty : (v : ℕ) → contains s v ≡ false) where
  abbrev n : ℕ
  n = length rows

  -- the new row has no follower
  last : (k v : ℕ) → k ≡ n + 1 → has k (at_put (preds_of rows) (n + 1) fs v) ≡ false
  last k v e = elim (cases_Bool (has k (at_put (preds_of rows) (n + 1) fs v))) [
    | inr f ↦ f
    | inl t ↦ elim (cases_eq v (n + 1)) [
      | inl new ↦
          let m : has k fs ≡ true =
          sym (ap (has k) (ap (at_put (preds_of rows) (n + 1) fs) new ∙ put_same (preds_of rows) (n + 1) fs)) ∙ t in
          let low = (inside k m).1 in absurd (omega arith)
      | inr old ↦
          let m : has k (preds_of rows v) ≡ true = sym (ap (has k) (put_other (preds_of rows) (n + 1) fs v old)) ∙ t in
          let low = (joins_forth rows lower positive k v m).0.1 in absurd (omega arith)
    ]
  ]

  -- and each other row those that it had, and maybe the new one
  earlier : (k v : ℕ) → contains (set_at now k) v ≡ has k (at_put (preds_of rows) (n + 1) fs v)
  earlier k v = linked k v ∙ elim (cases_eq v (n + 1)) [
    | inl new ↦
        let none = have k v ∙ ap (has k) (no_preds rows lower positive v (omega arith)) in
        let at = eq-eqb v (n + 1) new in grind arith
    | inr old ↦ let is = have k v in let at = ne_eqb v (n + 1) old in grind arith
  ]

  pub followers_added : HaveFollowers (now ++ s ∷ []) (at_put (preds_of rows) (n + 1) fs)
  followers_added k v =
      ap (λ f. contains (f k) v) (item_push no_set now s) ∙ ap (λ m. contains (at_put (set_at now) (m + 1) s k) v) level
      ∙ elim (cases_eq k (n + 1)) [
        | inl e ↦
            ap (λ x. contains x v) (ap (at_put (set_at now) (n + 1) s) e ∙ put_same (set_at now) (n + 1) s) ∙ empty v
            ∙ sym (last k v e)
        | inr ne ↦ ap (λ x. contains x v) (put_other (set_at now) (n + 1) s k ne) ∙ earlier k v
      ]

-- ── no rows ──

-- no number is inside an empty list
pub nowhere : {X : Type 0} (xs : List X) (k : ℕ) → xs ≡ [] → (k ≡ 0) ⊎ (length xs < k)
nowhere xs k e = elim (cases_eq k 0) [ inl z ↦ inl z | inr nz ↦ inr (omega (arith, ap length e)) ]

pub no_followers : (sets : List RowSet) (rows : List Row) → sets ≡ [] → rows ≡ [] → HaveFollowers sets (preds_of rows)
no_followers sets rows e f k v =
    ap (λ s. contains s v) (sym (past no_set sets k (nowhere sets k e))) ∙ none_in_none v
    ∙ ap (λ r. has k (listed r.predecessors)) (past no_row rows v (nowhere rows v f))
