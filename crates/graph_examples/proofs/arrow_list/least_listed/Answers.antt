use Rattle.std.proofs.Common.{◌≡◌, ℕ, Option, sym, ◌∙◌, subst, rules, tests}
use Rattle.std.proofs.lemmas.Iterator.{YieldsList-from_slice, YieldsList-from_map}
use Rattle.std.proofs.lemmas.Iterator.Adapters.{option_map_id}
use Rattle.std.proofs.lemmas.Iterator.Consumers.{YieldsList-from_filter, YieldsList-at, min_from_yields_List}
use Rattle.std.specs.List.{reduce}
use Rattle.std.specs.Option.{option_map}
use Rattle.std.specs.Prelude.{min}
use Rattle.graph.specs.Reach.{Least}
use Rattle.graph_examples.proofs.Leasts.{targets, Seen, least_target}
use Rattle.graph_examples.proofs.arrow_list.least_listed.Goals as goal

pub returns : goal.returns
returns c =
    let xs = c.args.arrows.now in
    let from = c.args.from in
    let points = c.args.points in
    let after = c.args.after in
    let P : Option ℕ → Type 0 = Least (Seen from points after xs) after in
    let is : option_map (λ x. x) c.min.result ≡ reduce min (targets from points after xs) =
    min_from_yields_List _ c.min.result c.min.ensures.ran (YieldsList-from_map _ _
    (YieldsList-at c.map.ensures.source (YieldsList-from_filter _ _ (YieldsList-from_slice xs cc)
    c.filter.ensures.closure (λ x r q k. search (rules, tests)))) c.map.ensures.closure (λ x r q k. search rules)) in
    subst P (sym is ∙ option_map_id c.min.result) (least_target from points after xs)
