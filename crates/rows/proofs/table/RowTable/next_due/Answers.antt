use Rattle.std.proofs.Common.{◌≡◌, true, sym, ◌∙◌}
use Rattle.rowset.specs.Members.{contains}
use Rattle.model.specs.Rows.{in_state}
use Rattle.values.specs.declared.RowState.TheVariants.{Due}
use Rattle.rows.specs.Tables.{rows_of}
use Rattle.rows.proofs.Leasts.{least_like}
use Rattle.rows.proofs.table.RowTable.next_due.Goals as goal

pub returns : goal.returns
returns c =
    let r = rows_of c.args.self.now in
    let is = c.rows_in.ensures in
    least_like (λ k. contains c.rows_in.result k ≡ true) (λ k. in_state r Due k ≡ true) c.args.after c.next_above.result
    (λ k m. sym (is k) ∙ m) (λ k m. is k ∙ m) c.next_above.ensures
