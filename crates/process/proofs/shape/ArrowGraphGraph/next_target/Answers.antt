-- The first arrow past those from the step to at most `after`, if it leads from the step.
use Rattle.std.proofs.Common.{eqb, rules, tests, arith}
use Rattle.std.proofs.lemmas.Bool.Decides.{nat_tests}
use Rattle.std.proofs.lemmas.List.Sorted.{IsPartitionPoint-from_clause}
use Rattle.process.proofs.Targets.{is_past, past_parts, next_by, filtered_by, mapped_by}
use Rattle.process.proofs.shape.ArrowGraphGraph.next_target.Goals as goal

pub returns : goal.returns
returns c =
    let g = c.args.self.now in
    let point = IsPartitionPoint-from_clause (is_past c.args.from c.args.after) g.arrows.now c.partition_point-next.result
    c.partition_point-next.ensures.partitioned (past_parts c.args.from c.args.after g.arrows.now g.sorted)
    (λ a r f k. (grind (arith, nat_tests), search (rules, tests))) in
    next_by g.arrows.now g.steps c.args.from c.args.after g.sorted g.inside c.partition_point-next.result point
    (λ a. a.now) c.get.result c.filter.result c.map.result c.get.ensures.lookup.3
    (filtered_by (λ a. eqb a.now.from c.args.from) c.get.result c.filter.result c.filter.ensures (λ x b k. search (rules, tests)))
    (mapped_by (λ a. a.now.to) c.filter.result c.map.result c.map.ensures.cases (λ x u k. search (rules, tests)))
