-- The reader's records are told one by one. Assumes nothing.
use Rattle.std.proofs.Common.{◌≡◌, ℕ, suc, ◌+◌, ◌-◌, ◌<◌, List, [], ◌++◌, Some, None, Ok, Err, Result, sym, refl, ap, ◌∙◌, append_assoc, append-nil, arith}
use Rattle.values.specs.declared.Fault.{Fault}
use Rattle.process.specs.declared.cursor.Cursor.{Cursor}
use Rattle.process.specs.Items.{said_by, stand_after}
use Rattle.process.specs.Reading.{Record, header, step, arrow, Got, next}
use Rattle.playing.specs.Names.{name_before, name_if, names_after, names_handed}

-- a record that is handed out has its name, and the rest follows
some_record : (n : Result Got Fault) (s : List ℕ × Cursor) (i : Record) (on : List ℕ → Cursor → List (List ℕ))
    → Ok (Some i) ≡ said_by n → names_after n on ≡ name_before i (on (stand_after n s).0 (stand_after n s).1)
some_record (Ok g) s i on h = let e : g.said ≡ Some i = cc in ap (λ o. name_if o (on g.rest g.cursor)) e
some_record (Err f) s i on h = let z : ◌≡◌ {A = ℕ} 0 1 = cc in absurd (omega arith)

-- where none is handed out, there are no names
no_record : (n : Result Got Fault) (on : List ℕ → Cursor → List (List ℕ)) → Ok None ≡ said_by n → names_after n on ≡ []
no_record (Ok g) on h = let e : g.said ≡ None = cc in ap (λ o. name_if o (on g.rest g.cursor)) e
no_record (Err f) on h = refl

declined_record : (n : Result Got Fault) (on : List ℕ → Cursor → List (List ℕ)) (f : Fault) → Err f ≡ said_by n → names_after n on ≡ []
declined_record (Ok g) on f h = let z : ◌≡◌ {A = ℕ} 0 1 = cc in absurd (omega arith)
declined_record (Err e) on f h = refl

before_append : (it : Record) (rest : List (List ℕ)) → name_before it rest ≡ name_before it [] ++ rest
before_append (header n m) rest = refl
before_append (step s place) rest = refl
before_append (arrow a) rest = refl

-- the names so far, and those of the k - i records that are left, are all the names
module _ (k i : ℕ) (xs : List ℕ) (c : Cursor) (names whole : List (List ℕ)) (l : i < k)
    (inv : names ++ names_handed (k - i) xs c ≡ whole) where
  unrolled : names_handed (k - i) xs c ≡ names_after (next xs c) (names_handed (k - (i + 1)))
  unrolled = let e : k - i ≡ suc (k - (i + 1)) = omega arith in ap (λ n. names_handed n xs c) e

  pub one_more : (it : Record) (s : List ℕ × Cursor) {new : List (List ℕ)} → Ok (Some it) ≡ said_by (next xs c)
      → s ≡ stand_after (next xs c) (xs, c) → new ≡ names ++ name_before it [] → new ++ names_handed (k - (i + 1)) s.0 s.1 ≡ whole
  one_more it s said after new_is =
      let rest = names_handed (k - (i + 1)) s.0 s.1 in
      let told = unrolled ∙ some_record (next xs c) (xs, c) it (names_handed (k - (i + 1))) said
      ∙ ap (λ t. name_before it (names_handed (k - (i + 1)) t.0 t.1)) (sym after) ∙ before_append it rest in
      ap (λ n. n ++ rest) new_is ∙ append_assoc names (name_before it []) rest ∙ ap (λ t. names ++ t) (sym told) ∙ inv

  ends : names_handed (k - i) xs c ≡ [] → names ≡ whole
  ends none = sym (append-nil names) ∙ ap (λ t. names ++ t) (sym none) ∙ inv

  pub no_more : Ok None ≡ said_by (next xs c) → names ≡ whole
  no_more said = ends (unrolled ∙ no_record (next xs c) (names_handed (k - (i + 1))) said)

  pub faulty : (f : Fault) → Err f ≡ said_by (next xs c) → names ≡ whole
  faulty f said = ends (unrolled ∙ declined_record (next xs c) (names_handed (k - (i + 1))) f said)
