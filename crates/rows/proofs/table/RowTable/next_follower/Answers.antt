use Rattle.std.proofs.Common.{◌≡◌, true, sym, ◌∙◌}
use Rattle.rowset.specs.Members.{contains}
use Rattle.model.specs.Search.{has}
use Rattle.rows.specs.Tables.{rows_of}
use Rattle.rows.proofs.Leasts.{least_like}
use Rattle.rows.proofs.table.RowTable.next_follower.Goals as goal

pub returns : goal.returns
returns c =
    let r = rows_of c.args.self.now in
    let is = c.followers.ensures in
    least_like (λ k. contains c.followers.result k ≡ true) (λ k. has c.args.earlier (r.preds k) ≡ true) c.args.after c.next_above.result
    (λ k m. sym (is k) ∙ m) (λ k m. is k ∙ m) c.next_above.ensures
