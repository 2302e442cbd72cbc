-- A listing in memory that is long enough. Assumes nothing.
use Rattle.std.proofs.Common.{◌≡◌, ℕ, ◌<◌, ◌≤◌, ◌⊎◌, true, List, length, Some, None, Ok, Err, inl, inr, sym, subst, ap, ◌∙◌, ap₂, arith}
use Rattle.std.proofs.lemmas.Bool.Decides.{nat_tests}
use Rattle.values.specs.Checks.{answer, after}
use Rattle.values.specs.declared.Cause.TheVariants.{ShortMemory}
use Rattle.values.specs.declared.Fault.{Fault}
use Rattle.values.specs.declared.Layer.TheVariants.{Sheet as OfSheet}
use Rattle.values.specs.declared.RowArrow.{RowArrow}
use Rattle.process.specs.Accepted.{enough}
use Rattle.model.specs.Chart.{Chart}
use Rattle.model.specs.Run.{over}
use Rattle.model.specs.Sheet.{Sheet, graph_arrows}
use Rattle.sheet.specs.Listings.{graph_check, Puts}
use Rattle.sheet.specs.Reports.{points_of, listing_fault_in, Lists}
use Rattle.sheet.proofs.Comings.{Passes, none_stands}
use Rattle.sheet.proofs.Puts.{count_is, puts_over}

no_fault : (c : Chart) (s : Sheet) (column line arrow_room point_room : ℕ) → enough column line ≡ true → graph_check s ≡ None
    → length (graph_arrows s) ≤ arrow_room → length (points_of c s) ≤ point_room
    → listing_fault_in c s column line arrow_room point_room ≡ None
no_fault c s column line arrow_room point_room memory graph arrows points = grind (arith, nat_tests)

-- too many of the one or the other
abbrev short : Fault
short = record { cause = ShortMemory; layer = OfSheet; place = 0 }

too_many : (c : Chart) (s : Sheet) (column line arrow_room point_room : ℕ) → enough column line ≡ true → graph_check s ≡ None
    → (arrow_room < length (graph_arrows s))
    ⊎ ((length (graph_arrows s) ≤ arrow_room) × (point_room < length (points_of c s)))
    → listing_fault_in c s column line arrow_room point_room ≡ Some short
too_many c s column line arrow_room point_room memory graph (inl arrows) = grind (arith, nat_tests)
too_many c s column line arrow_room point_room memory graph (inr (arrows, points)) = grind (arith, nat_tests)

-- both are counted by way of tables that may be any
module _ {c : Chart} {s : Sheet} {column line n m : ℕ} {none arrows none' : List RowArrow} {no points no' : List ℕ}
    (ps : List ℕ) (is : ps ≡ points_of c s) (memory : enough column line ≡ true) (graph : Passes (graph_check s))
    (arrow_count : Puts (graph_arrows s) 0 none n none') (point_count : Puts ps 0 no m no') where
  -- where there are too many both tables stay as they are
  pub lists_short : (length arrows < n) ⊎ ((n ≤ length arrows) × (length points < m)) → (f : Fault) → f ≡ short
      → Lists c s column line arrows points (Err f) arrows points
  lists_short many f fault =
      let arrows_are = count_is arrow_count in
      let points_are = count_is point_count ∙ ap length is in
      let stands = too_many c s column line (length arrows) (length points) memory (none_stands (graph_check s) graph)
      (subst (λ k. (length arrows < k) ⊎ ((k ≤ length arrows) × (length points < length (points_of c s)))) arrows_are
      (subst (λ k. (length arrows < n) ⊎ ((n ≤ length arrows) × (length points < k))) points_are many)) in
      record {
        answers = ap Err fault ∙ ap (λ o. answer o (length (graph_arrows s), length (points_of c s))) (sym stands);
        arrow_table = ap (λ o. after o arrows (over (graph_arrows s) arrows)) (sym stands);
        point_table = ap (λ o. after o points (over (points_of c s) points)) (sym stands);
      }

  -- where there is room both are put
  pub lists_all : {n' m' : ℕ} {arrows' : List RowArrow} {points' : List ℕ} → n ≤ length arrows → m ≤ length points
      → Puts (graph_arrows s) 0 arrows n' arrows' → Puts ps 0 points m' points'
      → Lists c s column line arrows points (Ok (n, m)) arrows' points'
  lists_all {n'} {m'} {arrows'} {points'} arrow_room point_room arrow_put point_put =
      let arrows_are = count_is arrow_count in
      let points_are = count_is point_count ∙ ap length is in
      let arrows_fit : length (graph_arrows s) ≤ length arrows = omega (arith, arrows_are) in
      let points_fit : length (points_of c s) ≤ length points = omega (arith, points_are) in
      let checked = none_stands (graph_check s) graph in
      let free = no_fault c s column line (length arrows) (length points) memory checked arrows_fit points_fit in
      record {
        answers = ap Ok (ap₂ (λ (x y : ℕ). (x, y)) arrows_are points_are)
            ∙ ap (λ o. answer o (length (graph_arrows s), length (points_of c s))) (sym free);
        arrow_table = puts_over (graph_arrows s) arrows arrows_fit arrow_put
            ∙ ap (λ o. after o arrows (over (graph_arrows s) arrows)) (sym free);
        point_table = puts_over (points_of c s) points points_fit (subst (λ xs. Puts xs 0 points m' points') is point_put)
            ∙ ap (λ o. after o points (over (points_of c s) points)) (sym free);
      }
