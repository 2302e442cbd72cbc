use Rattle.std.proofs.Common.{◌≡◌, false, eqb, sym, ap, ◌∙◌, inl, inr, arith}
use Rattle.std.proofs.lemmas.Bool.{cases_Bool, cases_eq, eq-eqb, ne_eqb}
use Rattle.rows.specs.Highest.{is_highest}
use Rattle.rows.specs.Tables.{rows_of}
use Rattle.rows.proofs.Highest.{one_highest}
use Rattle.rows.proofs.table.RowTable.highest_of_others.Goals as goal

pub returns-in-Some : goal.returns-in-Some
returns-in-Some c = λ k.
    let r = rows_of c.args.self.now in
    let s = c.args.step in
    let row = c.in-Some.row in
    let (there, same) = c.in-Some.ensures in
    let without = c.remove.ensures k in
    let was = c.highest-others.ensures k in
    elim (cases_eq k row) [
      | inl e ↦
          let at = eq-eqb k row e in
          let step = eq-eqb (r.step k) s (ap r.step e ∙ same) in grind arith
      | inr ne ↦ let other = ne_eqb k row ne in elim (cases_Bool (is_highest r k)) [
        | inr no_highest ↦ grind arith
        | inl highest ↦
            let another : eqb (r.step k) s ≡ false =
            ne_eqb (r.step k) s (λ e. ne (one_highest r k row highest there (e ∙ sym same))) in
            grind arith
      ]
    ]
