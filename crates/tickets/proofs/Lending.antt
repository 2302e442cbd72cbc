-- Memory that is lent to one undo after another. Assumes nothing.
use Rattle.std.proofs.Common.{◌≡◌, ℕ, ◌≤◌, Bool, true, false, cond, leb, List, ◌++◌, length, drop, replicate, Vec, Global, sym, refl, ap, ◌∙◌, arith, length-append}
use Rattle.std.specs.Vec.{with_items}
use Rattle.std.proofs.lemmas.Bool.{and_parts, leb-true}
use Rattle.std.proofs.lemmas.List.{length-drop, length-replicate, with_items_is}
use Rattle.std.proofs.lemmas.Slice.{drop-append-drop}
use Rattle.process.specs.Accepted.{enough}
use Rattle.model.specs.Run.{Lent, cleared, column_after, scratched}
use Rattle.sheet.specs.Lent.{lent_of}
use Rattle.sheet.specs.declared.memory.Memory.{Memory}
use Rattle.tickets.specs.Endings.{Scratches}

cleared_same : (column : List ℕ) → cleared (cleared column) ≡ cleared column
cleared_same column =
    ap (λ rest. replicate 257 0 ++ rest) (drop-append-drop 257 column (replicate 257 0) 257 (omega arith) (length-replicate {A = ℕ} 257 0))

length-cleared : (column : List ℕ) → 257 ≤ length column → length (cleared column) ≡ length column
length-cleared column long =
    let zeros = length-replicate {A = ℕ} 257 0 in
    let both = length-append {A = ℕ} (replicate 257 0) (drop 257 column) in
    let rest = length-drop 257 column in
    omega (arith, zeros, both, rest, long)

-- a column that one call left is left so by the next
pub column_again : (column : List ℕ) (line : ℕ) → column_after (column_after column line) line ≡ column_after column line
column_again column line = go (enough (length column) line) refl
  where
    go : (b : Bool) → enough (length column) line ≡ b → column_after (column_after column line) line ≡ column_after column line
    go false is =
        let same : column_after column line ≡ column = ap (λ b. cond b (cleared column) column) is in
        ap (λ c. column_after c line) same
    go true is =
        let same : column_after column line ≡ cleared column = ap (λ b. cond b (cleared column) column) is in
        let long = leb-true 257 (length column) (and_parts (leb 257 (length column)) _ is).0 in
        let still : enough (length (cleared column)) line ≡ true = ap (λ n. enough n line) (length-cleared column long) ∙ is in
        ap (λ c. column_after c line) same ∙ ap (λ b. cond b (cleared (cleared column)) (cleared column)) still
        ∙ cleared_same column ∙ sym same

-- a column and a line that undos were lent of a memory, and left
pub record Used (m : Memory) (column line : Vec ℕ Global) : Type 0 where
  pub wide : column.len ≡ m.column.len
  pub long : line.len ≡ m.line.len
  pub again : column_after column.items m.line.len ≡ column_after m.column.items m.line.len
  pub kept : enough m.column.len m.line.len ≡ false → line.items ≡ m.line.items

pub used_none : (m : Memory) → Used m m.column m.line
used_none m = record { wide = refl; long = refl; again = refl; kept = λ _. refl }

-- lent to one undo more
module _ (m : Memory) (column line : Vec ℕ Global) (u : Used m column line)
    {cs ls : List ℕ} (is_column : cs ≡ column.items) (is_line : ls ≡ line.items) where
  pub width : length cs ≡ m.column.len
  width = ap length is_column ∙ sym column.ok.0 ∙ u.wide

  pub length_of : length ls ≡ m.line.len
  length_of = ap length is_line ∙ sym line.ok.0 ∙ u.long

  pub used_column : {cs' : List ℕ} → cs' ≡ column_after cs (length ls) → length cs' ≡ length cs
      → (with_items column cs').items ≡ column_after m.column.items m.line.len
  used_column {cs'} left same =
      with_items_is column cs' (same ∙ width ∙ sym u.wide) ∙ left ∙ (λ i. column_after (is_column i) (length_of i)) ∙ u.again

  pub used_more : {cs' ls' : List ℕ} → cs' ≡ column_after cs (length ls) → length cs' ≡ length cs → length ls' ≡ length ls
      → (enough (length cs) (length ls) ≡ false → ls' ≡ ls) → Used m (with_items column cs') (with_items line ls')
  used_more {cs'} {ls'} left same_width same_length kept = record {
    wide = u.wide;
    long = u.long;
    again = ap (λ c. column_after c m.line.len) (used_column left same_width) ∙ column_again m.column.items m.line.len;
    kept = λ short. with_items_is line ls' (same_length ∙ length_of ∙ sym u.long)
        ∙ kept ((λ i. enough (width i) (length_of i)) ∙ short) ∙ is_line ∙ u.kept short;
  }

-- what is left of the memory in the end
pub scratched_by : (m : Memory) (column line : Vec ℕ Global) → Used m column line
    → column.items ≡ column_after m.column.items m.line.len
    → Scratches m (record { column = column; line = line; arrows = m.arrows; restarts = m.restarts; buffer = m.buffer })
scratched_by m column line u is = record {
  lent = λ i. record {
    column = (is ∙ ap (column_after m.column.items) m.line.ok.0) i;
    line = (sym line.ok.0 ∙ u.long ∙ m.line.ok.0) i;
    arrows = m.arrows.items;
    restarts = m.restarts.items;
    buffer = m.buffer.items;
  };
  line = λ short. u.kept ((λ i. enough (m.column.ok.0 i) (m.line.ok.0 i)) ∙ short);
}

-- one after another
pub scratches_then : {m m' m'' : Memory} → Scratches m m' → Scratches m' m'' → Scratches m m''
scratches_then {m} {m'} {m''} h k =
    let is : (l : Lent) → scratched (scratched l) ≡ scratched l = λ l i. record {
      column = column_again l.column l.line i;
      line = l.line;
      arrows = l.arrows;
      restarts = l.restarts;
      buffer = l.buffer;
    } in
    record {
      lent = k.lent ∙ ap scratched h.lent ∙ is (lent_of m);
      line = λ short.
          let same = h.lent ∙ (λ i. record {
            column = cond (short i) (cleared m.column.items) m.column.items;
            line = length m.line.items;
            arrows = m.arrows.items;
            restarts = m.restarts.items;
            buffer = m.buffer.items;
          }) in
          k.line (ap (λ (l : Lent). enough (length l.column) l.line) same ∙ short) ∙ h.line short;
    }
