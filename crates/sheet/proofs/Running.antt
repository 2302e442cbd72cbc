-- A call is the event that it is. Assumes nothing.
use Rattle.std.proofs.Common.{◌≡◌, ℕ, List, length, Some, None, Option, Result, sym, refl, ap, ◌∙◌, subst, Vec}
use Rattle.std.specs.Vec.{with_items}
use Rattle.std.proofs.lemmas.List.{with_items_is}
use Rattle.values.specs.Checks.{answer, after}
use Rattle.values.specs.declared.Answer.{Answer}
use Rattle.values.specs.declared.Answer.TheVariants.{Done, Listed}
use Rattle.values.specs.declared.Fault.{Fault}
use Rattle.values.specs.declared.RowArrow.{RowArrow}
use Rattle.host.specs.View.{View}
use Rattle.model.specs.Calls.{reply_fault}
use Rattle.model.specs.Chart.{Chart}
use Rattle.model.specs.Report.{reply_of}
use Rattle.model.specs.Run.{Lent, world, decide, column_after, over, written_at, scratched, listed, replied}
use Rattle.model.specs.Sheet.{Sheet, graph_arrows}
use Rattle.sheet.specs.Calls.{Comes}
use Rattle.sheet.specs.Happenings.{told}
use Rattle.sheet.specs.Lent.{lent_of}
use Rattle.sheet.specs.Reports.{Lists, Replies, listing_fault_in, points_of}
use Rattle.sheet.specs.declared.memory.Memory.{Memory}

-- what a vector holds that was lent and written
written : {X Z : Type 0} (v : Vec X Z) {lent : List X} (xs : List X) → lent ≡ v.items → length xs ≡ length lent
    → (with_items v xs).items ≡ xs
written v xs is long = with_items_is v xs (long ∙ ap length is ∙ sym v.ok.0)

module _ {X : Type 0} (say : X → Answer) where
  -- a call decides what is told, and which world is left
  pub comes_decides : (f : Option Fault) {x : X} {s new s' : Sheet} {v moved v' : View} {r : Result X Fault}
      (l : Lent) → Comes f x s new v moved r s' v'
      → decide f (world s v l) (world new moved l) (say x) ≡ (world s' v' l, told say r)
  comes_decides None l h = rw (h.answers, h.sheet, h.host) refl
  comes_decides (Some f) l h = rw (h.answers, h.sheet, h.host) refl

  -- the same of a call that is lent the column and the line of a memory
  pub comes_scratching : (fault : ℕ → ℕ → Option Fault) {x : X} {s new s' : Sheet} {v moved v' : View} {r : Result X Fault}
      (m : Memory) {column column' line : List ℕ} (line' : List ℕ) → column ≡ m.column.items → line ≡ m.line.items
      → Comes (fault (length column) (length line)) x s new v moved r s' v'
      → column' ≡ column_after column (length line) → length column' ≡ length column → length line' ≡ length line
      → decide (fault (length m.column.items) (length m.line.items)) (world s v (scratched (lent_of m)))
      (world new moved (scratched (lent_of m))) (say x)
      ≡ (world s' v' (lent_of (record { column = with_items m.column column'; line = with_items m.line line'; arrows = m.arrows; restarts = m.restarts; buffer = m.buffer })), told say r)
  comes_scratching fault {x} {s} {new} {s'} {v} {moved} {v'} {r} m {column} {column'} {line} line' is long h left wide same =
      let come = subst (λ f. Comes f x s new v moved r s' v') (λ i. fault (length (is i)) (length (long i))) h in
      let lent : scratched (lent_of m)
      ≡ lent_of (record { column = with_items m.column column'; line = with_items m.line line'; arrows = m.arrows; restarts = m.restarts; buffer = m.buffer }) =
      λ i. record {
        column = (sym (written m.column column' is wide ∙ left ∙ (λ j. column_after (is j) (length (long j))))) i;
        line = (sym (ap length (written m.line line' long same) ∙ same ∙ ap length long)) i;
        arrows = m.arrows.items;
        restarts = m.restarts.items;
        buffer = m.buffer.items;
      } in
      comes_decides (fault (length m.column.items) (length m.line.items)) (scratched (lent_of m)) come
      ∙ ap (λ l. (world s' v' l, told say r)) lent

-- either way of a listing
listing_decides : (f : Option Fault) (c : Chart) (s : Sheet) (v : View) (l : Lent) {r : Result (ℕ × ℕ) Fault} {bs' : List RowArrow} {ps' : List ℕ}
    → r ≡ answer f (length (graph_arrows s), length (points_of c s))
    → bs' ≡ after f l.arrows (over (graph_arrows s) l.arrows) → ps' ≡ after f l.restarts (over (points_of c s) l.restarts)
    → decide f (world s v (scratched l)) (world s v (listed c s l)) (Listed (length (graph_arrows s)) (length (points_of c s)))
    ≡ (
      world s v (record { column = column_after l.column l.line; line = l.line; arrows = bs'; restarts = ps'; buffer = l.buffer }),
      told (λ (x : ℕ × ℕ). Listed x.0 x.1) r,
    )
listing_decides None c s v l a p q = rw (a, p, q) refl
listing_decides (Some f) c s v l a p q = rw (a, p, q) refl

-- a listing in the memory that it is lent
pub lists_decides : (c : Chart) (s : Sheet) (v : View) (m : Memory) {column column' line : List ℕ} (line' : List ℕ)
    {bs bs' : List RowArrow} {ps ps' : List ℕ} {r : Result (ℕ × ℕ) Fault}
    → column ≡ m.column.items → line ≡ m.line.items → bs ≡ m.arrows.items → ps ≡ m.restarts.items
    → Lists c s (length column) (length line) bs ps r bs' ps'
    → column' ≡ column_after column (length line)
    → length column' ≡ length column → length line' ≡ length line → length bs' ≡ length bs → length ps' ≡ length ps
    → decide (listing_fault_in c s (length m.column.items) (length m.line.items) (length m.arrows.items) (length m.restarts.items))
    (world s v (scratched (lent_of m))) (world s v (listed c s (lent_of m)))
    (Listed (length (graph_arrows s)) (length (points_of c s)))
    ≡ (
      world s v (lent_of (record {
        column = with_items m.column column';
        line = with_items m.line line';
        arrows = with_items m.arrows bs';
        restarts = with_items m.restarts ps';
        buffer = m.buffer;
      })),
      told (λ (x : ℕ × ℕ). Listed x.0 x.1) r,
    )
lists_decides c s v m {column} {column'} {line} line' {bs} {bs'} {ps} {ps'} {r} is long arrows points h left wide same width height =
    let lists : Lists c s (length m.column.items) (length m.line.items) m.arrows.items m.restarts.items r bs' ps' =
    coe 0 1 (i. Lists c s (length (is i)) (length (long i)) (arrows i) (points i) r bs' ps') h in
    let fault = listing_fault_in c s (length m.column.items) (length m.line.items) (length m.arrows.items) (length m.restarts.items) in
    listing_decides fault c s v (lent_of m) lists.answers lists.arrow_table lists.point_table
    ∙ (λ i. (
      world s v (record {
        column = (sym (written m.column column' is wide ∙ left ∙ (λ j. column_after (is j) (length (long j))))) i;
        line = (sym (ap length (written m.line line' long same) ∙ same ∙ ap length long)) i;
        arrows = (sym (written m.arrows bs' arrows width)) i;
        restarts = (sym (written m.restarts ps' points height)) i;
        buffer = m.buffer.items;
      }),
      told (λ (x : ℕ × ℕ). Listed x.0 x.1) r,
    ))

-- either way of a reply
reply_decides : (f : Option Fault) (c : Chart) (s : Sheet) (v : View) (l : Lent) (place : ℕ) {r : Result (Unit {0}) Fault} {buffer' : List ℕ}
    → r ≡ answer f tt → buffer' ≡ after f l.buffer (written_at place (reply_of c s) l.buffer)
    → decide f (world s v l) (world s v (replied c s place l)) Done
    ≡ (world s v (record { column = l.column; line = l.line; arrows = l.arrows; restarts = l.restarts; buffer = buffer' }), told (λ _. Done) r)
reply_decides None c s v l place a b = rw (a, b) refl
reply_decides (Some f) c s v l place a b = rw (a, b) refl

-- a reply in the memory that it is lent
pub replies_decides : (c : Chart) (s : Sheet) (v : View) (m : Memory) (place : ℕ) {buffer buffer' : List ℕ} {r : Result (Unit {0}) Fault}
    → buffer ≡ m.buffer.items → Replies c s place buffer r buffer' → length buffer' ≡ length buffer
    → decide (reply_fault place (length m.buffer.items)) (world s v (lent_of m)) (world s v (replied c s place (lent_of m))) Done
    ≡ (
      world s v (lent_of (record {
        column = m.column;
        line = m.line;
        arrows = m.arrows;
        restarts = m.restarts;
        buffer = with_items m.buffer buffer';
      })),
      told (λ _. Done) r,
    )
replies_decides c s v m place {buffer} {buffer'} {r} is h size =
    let replies : Replies c s place m.buffer.items r buffer' = coe 0 1 (i. Replies c s place (is i) r buffer') h in
    reply_decides (reply_fault place (length m.buffer.items)) c s v (lent_of m) place replies.answers replies.bytes
    ∙ (λ i. (
      world s v (record {
        column = m.column.items;
        line = length m.line.items;
        arrows = m.arrows.items;
        restarts = m.restarts.items;
        buffer = (sym (written m.buffer buffer' is size)) i;
      }),
      told (λ _. Done) r,
    ))
