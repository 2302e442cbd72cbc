use Rattle.std.proofs.Common.{Some, None, sym, ap, ◌∙◌}
use Rattle.rowset.specs.Members.{contains}
use Rattle.rowset.proofs.Members.{none_in_none}
use Rattle.rows.specs.States.{no_set, set_at}
use Rattle.rows.proofs.Followers.{told}
use Rattle.rows.proofs.Numbered.{found}
use Rattle.rows.proofs.table.RowTable.rows_in.Goals as goal

pub returns-in-Some : goal.returns-in-Some
returns-in-Some c = λ k.
    let t = c.args.self.now in
    let n = c.set_number.result in
    let is = found no_set t.sets.states n (Some c.in-Some.set) c.in-Some.ensures in
    ap (λ s. contains s k) (is ∙ ap (set_at t.sets.states) c.set_number.ensures) ∙ (told t.told).states c.args.state k

pub returns-in-None : goal.returns-in-None
returns-in-None c = λ k.
    let t = c.args.self.now in
    let n = c.set_number.result in
    let is = found no_set t.sets.states n None c.in-None.ensures in
    c.new.ensures k ∙ sym (none_in_none k)
    ∙ ap (λ s. contains s k) (sym is ∙ ap (set_at t.sets.states) c.set_number.ensures) ∙ (told t.told).states c.args.state k
