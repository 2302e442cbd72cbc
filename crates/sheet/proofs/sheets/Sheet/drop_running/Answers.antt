use Rattle.std.proofs.Common.{◌≡◌, ℕ, ◌+◌, ◌≤◌, [], ◌∷◌, map, Bool, true, false, refl, sym, subst, ap, ◌∙◌, rules, arith}
use Rattle.values.specs.declared.RowState.TheVariants.{Running}
use Rattle.std.proofs.lemmas.Bool.{false_from_ne_true}
use Rattle.std.proofs.lemmas.List.{map-append}
use Rattle.host.specs.Keys.{key_of}
use Rattle.host.specs.Made.{Made, none}
use Rattle.host.specs.declared.calls.Call.TheVariants.{Drop}
use Rattle.host.proofs.Made.{made_more}
use Rattle.model.specs.Rows.{in_state}
use Rattle.model.specs.Calls.{dropped_below}
use Rattle.rowset.specs.Members.{contains}
use Rattle.rowset.proofs.Iteration.{top_more, given_all, next_member, no_next_member}
use Rattle.sheet.specs.SheetOf.{sheet_of}
use Rattle.sheet.proofs.Aborting.{still_droppable, dropped_one, dropped_to, dropped_all, runs_within}
use Rattle.sheet.proofs.Listing.{members_to}
use Rattle.sheet.proofs.sheets.Sheet.drop_running.Goals as goal

pub unwrap-requires : goal.unwrap-requires
unwrap-requires g c =
    let runs : ℕ → Bool = in_state (sheet_of c.args.self.now).rows Running in
    let member : ℕ → Bool = contains c.rows_in-to_drop.result in
    let is : (k : ℕ) → member k ≡ runs k = c.rows_in-to_drop.ensures in
    let n = c.in-Some.row in
    let next = next_member c.rows_in-to_drop.result _ _ c.into_iter-row-iterator.ensures.into_iter_gives c.iter-row-items.ensures
    c.loop-row.yielded_by c.in-Some.ensures.steps in
    let v = g.X.Host.view c.args.host.now in
    let drops = simp c.row_key.ensures at c.drop_row.ensures.does.answers in
    let here = dropped_to runs member is v next c.loop-row.invariant.dropped in
    let may = c.requires n (sym (is n) ∙ next.1) in
    let none = still_droppable runs n v (g.X.Host.view c.loop-row.host) here may in
    search rules

pub loop-row-init : goal.loop-row-init
loop-row-init g c = record { dropped = refl; made = none; goes = g.met.X.Host.stays c.args.host.now; within = omega arith }

pub loop-row-preserved : goal.loop-row-preserved
loop-row-preserved g c =
    let runs : ℕ → Bool = in_state (sheet_of c.args.self.now).rows Running in
    let member : ℕ → Bool = contains c.rows_in-to_drop.result in
    let is : (k : ℕ) → member k ≡ runs k = c.rows_in-to_drop.ensures in
    let n = c.in-Some.row in
    let next = next_member c.rows_in-to_drop.result _ _ c.into_iter-row-iterator.ensures.into_iter_gives c.iter-row-items.ensures
    c.loop-row.yielded_by c.in-Some.ensures.steps in
    let v = g.X.Host.view c.args.host.now in
    let here = dropped_to runs member is v next c.loop-row.invariant.dropped in
    let running : runs n ≡ true = sym (is n) ∙ next.1 in
    let b = simp c.row_key.ensures at c.drop_row.ensures in
    record {
      dropped = dropped_one runs n v _ _ (c.requires n running) (sym running) here
          (simp c.row_key.ensures at c.drop_row.ensures.does.shows)
          ∙ ap (λ m. dropped_below runs (m + 1) v) (sym (top_more 0 c.loop-row.yielded n));
      made = subst (λ cs. Made g.X.Host.view g.X.Host.makes c.args.host.now cs c.drop_row.new.self)
          (sym (map-append (λ k. Drop (key_of k)) c.loop-row.yielded (n ∷ [])))
          (made_more g.X.Host.view g.X.Host.makes (Drop (key_of n)) c.drop_row.result c.drop_row.new.self c.loop-row.invariant.made
          (record { shows = record { answers = b.does.answers; shows = b.does.shows }; made = b.made }));
      goes = g.met.X.Host.goes_on c.args.host.now c.loop-row.host c.drop_row.new.self c.loop-row.invariant.goes c.drop_row.ensures.goes;
      within = subst (λ m. m ≤ (sheet_of c.args.self.now).rows.count) (sym (top_more 0 c.loop-row.yielded n))
          (runs_within c.args.self.now.table n running);
    }

pub returns-clause-drops : goal.returns-clause-drops
returns-clause-drops g c =
    let runs : ℕ → Bool = in_state (sheet_of c.args.self.now).rows Running in
    let member : ℕ → Bool = contains c.rows_in-to_drop.result in
    let is : (k : ℕ) → member k ≡ runs k = c.rows_in-to_drop.ensures in
    let r = (sheet_of c.args.self.now).rows in
    let past = no_next_member c.rows_in-to_drop.result _ _ c.into_iter-row-iterator.ensures.into_iter_gives c.iter-row-items.ensures
    c.loop-row.yielded_by c.in-None.ensures.steps.0 in
    let v = g.X.Host.view c.args.host.now in
    dropped_all runs member is v (r.count + 1) (omega arith) past c.loop-row.invariant.dropped

pub returns-clause-made : goal.returns-clause-made
returns-clause-made g c =
    let r = (sheet_of c.args.self.now).rows in
    let set = c.rows_in-to_drop.result in
    let none : (k : ℕ) → r.count + 1 ≤ k → in_state r Running k ≡ false =
    λ k above. false_from_ne_true (in_state r Running k) (λ runs. let low = runs_within c.args.self.now.table k runs in omega (arith, above, low)) in
    let all = sym (given_all set _ _ c.into_iter-row-iterator.ensures.into_iter_gives c.iter-row-items.ensures c.loop-row.yielded_by
    c.in-None.ensures.steps.0)
    ∙ members_to set (r.count + 1) (in_state r Running) (omega arith) c.rows_in-to_drop.ensures none in
    subst (λ ks. Made g.X.Host.view g.X.Host.makes c.args.host.now (map (λ k. Drop (key_of k)) ks) c.loop-row.host) all c.loop-row.invariant.made
