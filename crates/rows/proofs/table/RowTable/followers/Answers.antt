use Rattle.std.proofs.Common.{List, Some, None, sym, ap, ◌∙◌}
use Rattle.rowset.specs.declared.RowSet.{RowSet}
use Rattle.rowset.specs.Members.{contains}
use Rattle.rowset.proofs.Members.{none_in_none}
use Rattle.rows.specs.States.{no_set, set_at}
use Rattle.rows.proofs.Followers.{told}
use Rattle.rows.proofs.Numbered.{found}
use Rattle.rows.proofs.table.RowTable.followers.Goals as goal

pub returns-in-Some : goal.returns-in-Some
returns-in-Some c = λ v.
    let t = c.args.self.now in
    let k = c.args.earlier in
    let is = found no_set c.deref.result.now k (Some c.in-Some.followers) c.in-Some.ensures in
    ap (λ s. contains s v) (is ∙ ap (λ (sets : List RowSet). set_at sets k) c.deref.ensures.value) ∙ (told t.told).followers k v

pub returns-in-None : goal.returns-in-None
returns-in-None c = λ v.
    let t = c.args.self.now in
    let k = c.args.earlier in
    let is = found no_set c.deref.result.now k None c.in-None.ensures in
    c.new.ensures v ∙ sym (none_in_none v)
    ∙ ap (λ s. contains s v) (sym is ∙ ap (λ (sets : List RowSet). set_at sets k) c.deref.ensures.value)
    ∙ (told t.told).followers k v
