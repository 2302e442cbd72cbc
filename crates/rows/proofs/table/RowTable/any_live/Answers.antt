use Rattle.std.proofs.Common.{ℕ, ◌+◌, Bool, length, vec_items, ◌∙◌}
use Rattle.rowset.specs.Members.{contains}
use Rattle.model.specs.Rows.{live}
use Rattle.rows.specs.Tables.{rows_of}
use Rattle.rows.proofs.Searches.{all_rows, some_above, live_within}
use Rattle.rows.proofs.table.RowTable.any_live.Goals as goal

pub returns : goal.returns
returns c =
    let rows = vec_items c.args.self.now.rows in
    let set = c.live.result in
    let q : ℕ → Bool = λ k. live ((rows_of c.args.self.now).state k) in
    c.is_some.ensures
    ∙ some_above (length rows + 1) 0 (contains set) q (all_rows rows set q c.live.ensures (live_within rows))
    c.next_above.result c.next_above.ensures
