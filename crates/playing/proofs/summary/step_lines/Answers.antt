-- Each pair of a name and a standing makes a line.
use Rattle.std.proofs.Common.{rules, ◌≡◌, List, [], ◌∷◌, map, vec_items, string_bytes, String, Option, refl, ap, ◌∙◌}
use Rattle.std.specs.List.{zip}
use Rattle.std.specs.declared.alloc.Global.{Global}
use Rattle.std.proofs.lemmas.Iterator.{YieldsList-from_zip, YieldsList-from_map, items_from_collect}
use Rattle.std.proofs.lemmas.Iterator.Adapters.{YieldsList-from_vec}
use Rattle.std.proofs.lemmas.Iterator.Consumers.{YieldsList-at}
use Rattle.std.proofs.lemmas.Result.{IfOk-weaker}
use Rattle.values.specs.declared.RowState.{RowState}
use Rattle.playing.specs.declared.summary.StepLine.{StepLine}
use Rattle.playing.specs.Summaries.{line_shown}
use Rattle.playing.proofs.summary.step_lines.Goals as goal

abbrev line_of : String Global × Option RowState → StepLine
line_of p = record { name = p.0; standing = p.1 }

shown_zip : (names : List (String Global)) (standings : List (Option RowState))
    → map line_shown (map line_of (zip names standings)) ≡ zip (map string_bytes names) standings
shown_zip [] ys = refl
shown_zip (x ∷ xs) [] = refl
shown_zip (x ∷ xs) (y ∷ ys) = ap (λ t. (string_bytes x, y) ∷ t) (shown_zip xs ys)

pub returns : goal.returns
returns c =
    let names = vec_items c.args.names in
    let standings = vec_items c.args.standings in
    let first = YieldsList-at c.zip.ensures.first
    (YieldsList-from_vec names c.into_iter.ensures.rest (c.into_iter.ensures.len ∙ c.args.names.ok.0)) in
    let second = YieldsList-from_vec standings c.zip.ensures.second.0 (c.zip.ensures.second.1 ∙ c.args.standings.ok.0) in
    let pairs = YieldsList-at c.map.ensures.source (YieldsList-from_zip first second) in
    IfOk-weaker c.collect.result _ _ (λ v h. ap (map line_shown) h ∙ shown_zip names standings)
    (items_from_collect c.collect.result c.collect.ensures.ran
    (YieldsList-from_map _ line_of pairs c.map.ensures.closure (λ x r q k. search rules)))
