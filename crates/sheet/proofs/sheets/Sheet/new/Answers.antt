use Rattle.sheet.proofs.Graphs.{kept_blank, graph_blank}
use Rattle.sheet.proofs.sheets.Sheet.new.Goals as goal

pub invariant_of-result : goal.invariant_of-result
invariant_of-result c =
    let table = c.in_ok-table in
    record {
      kept = kept_blank table.table c.args.serial table.ensures.rows table.ensures.rolled;
      holds = graph_blank table.table c.args.serial table.ensures.rows c.new-2.result c.new-2.ensures;
    }
