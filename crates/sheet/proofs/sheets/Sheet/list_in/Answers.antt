use Rattle.sheet.specs.Listings.{listed}
use Rattle.sheet.proofs.Lists.{lists_all, lists_short}
use Rattle.sheet.proofs.sheets.Sheet.list_in.Goals as goal

pub returns-then-arrow_count-arrows-clause-lists : goal.returns-then-arrow_count-arrows-clause-lists
returns-then-arrow_count-arrows-clause-lists c =
    lists_short (listed c.points-points.result) c.points-points.ensures.points c.requires c.in_ok-wants_graph.ensures
    c.put_arrows-arrow_count.ensures c.put-restart_count.ensures c.then-arrow_count-arrows.either
    c.fault.result c.fault.ensures

pub returns-clause-lists : goal.returns-clause-lists
returns-clause-lists c =
    lists_all (listed c.points-points.result) c.points-points.ensures.points c.requires c.in_ok-wants_graph.ensures
    c.put_arrows-arrow_count.ensures c.put-restart_count.ensures c.if-arrow_count-arrows.false
    c.if-restart_count-restarts.false c.put_arrows.ensures c.put.ensures
