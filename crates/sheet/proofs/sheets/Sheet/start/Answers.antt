-- A row is begun at the host, and added.
use Rattle.std.proofs.Common.{[], ◌∷◌, ◌+◌, Ok, refl, ap, ◌∙◌, rules}
use Rattle.values.specs.Checks.{first_fault}
use Rattle.host.specs.Keys.{key_of}
use Rattle.host.specs.declared.calls.Call.TheVariants.{Begin}
use Rattle.sheet.specs.SheetOf.{sheet_of}
use Rattle.sheet.proofs.Asking.{not_asked, asked_one}
use Rattle.sheet.proofs.Comings.{own_declines, host_declines, both_accept}
use Rattle.sheet.proofs.Starting.{start_own, start_asked, room, pushed, start_kept, start_holds}
use Rattle.sheet.proofs.sheets.Sheet.start.Goals as goal

pub returns-in_err-may_start-clause-comes : goal.returns-in_err-may_start-clause-comes
returns-in_err-may_start-clause-comes g c =
    let x = c.args.self.now in
    own_declines (start_own x c.args.step c.args.predecessors.now c.args.entry) (start_asked x (g.X.Host.view c.args.host.now) c.args.entry)
    c.in_err-may_start.ensures (search rules) refl refl

pub returns-in_err-begin-clause-comes : goal.returns-in_err-begin-clause-comes
returns-in_err-begin-clause-comes g c =
    let x = c.args.self.now in
    let b = simp (c.row_key.ensures, c.len-row.ensures) at c.in_err-begin.ensures.does in
    host_declines (start_own x c.args.step c.args.predecessors.now c.args.entry) (start_asked x (g.X.Host.view c.args.host.now) c.args.entry)
    c.in_ok-may_start.ensures b.answers (search rules) refl b.shows

pub invariant_of-self : goal.invariant_of-self
invariant_of-self g c =
    let b = simp (c.row_key.ensures, c.len-row.ensures) at c.in_ok-begin.ensures.does in
    record {
      kept = start_kept c.args.self.now (g.X.Host.view c.args.host.now) c.args.step c.args.predecessors.now c.args.entry
          c.in_ok-may_start.ensures b.answers c.push.new.self c.push.ensures.fits c.push.ensures.rows c.push.ensures.rolled;
      holds = start_holds c.args.self.now (g.X.Host.view c.args.host.now) c.args.step c.args.predecessors.now c.args.entry
          c.in_ok-may_start.ensures b.answers c.push.new.self c.push.ensures.fits c.push.ensures.rows c.push.ensures.rolled;
    }

pub unwrap-requires : goal.unwrap-requires
unwrap-requires g c =
    let b = simp (c.row_key.ensures, c.len-row.ensures) at c.in_ok-begin.ensures.does in
    let fits = c.push.ensures.fits
    ∙ room c.args.self.now (g.X.Host.view c.args.host.now) c.args.step c.args.predecessors.now c.args.entry c.in_ok-may_start.ensures b.answers in
    search rules

pub returns-clause-comes : goal.returns-clause-comes
returns-clause-comes g c =
    let x = c.args.self.now in
    let v = g.X.Host.view c.args.host.now in
    let k = c.args.step in
    let fs = c.args.predecessors.now in
    let e = c.args.entry in
    let b = simp (c.row_key.ensures, c.len-row.ensures) at c.in_ok-begin.ensures.does in
    let is = pushed x v k fs e c.in_ok-may_start.ensures b.answers c.push.new.self c.push.ensures.fits c.push.ensures.rows c.push.ensures.rolled in
    both_accept (start_own x k fs e) (start_asked x v e)
    c.in_ok-may_start.ensures b.answers (ap (λ n. Ok (n + 1)) c.len-row.ensures) is b.shows

pub returns-in_err-may_start-clause-made : goal.returns-in_err-may_start-clause-made
returns-in_err-may_start-clause-made g c =
    let x = c.args.self.now in
    let own = first_fault (start_own x c.args.step c.args.predecessors.now c.args.entry) in
    not_asked g.X.Host.view g.X.Host.makes own (Begin (key_of ((sheet_of x).rows.count + 1)) c.args.entry ∷ []) c.args.host.now
    c.in_err-may_start.ensures

pub returns-in_err-begin-clause-made : goal.returns-in_err-begin-clause-made
returns-in_err-begin-clause-made g c =
    let x = c.args.self.now in
    let own = first_fault (start_own x c.args.step c.args.predecessors.now c.args.entry) in
    let b = simp (c.row_key.ensures, c.len-row.ensures) at c.begin.ensures in
    asked_one g.X.Host.view g.X.Host.makes own (Begin (key_of ((sheet_of x).rows.count + 1)) c.args.entry) c.args.host.now c.begin.new.self
    c.begin.result c.in_ok-may_start.ensures (record { shows = record { answers = b.does.answers; shows = b.does.shows }; made = b.made })

pub returns-clause-made : goal.returns-clause-made
returns-clause-made g c =
    let x = c.args.self.now in
    let own = first_fault (start_own x c.args.step c.args.predecessors.now c.args.entry) in
    let b = simp (c.row_key.ensures, c.len-row.ensures) at c.begin.ensures in
    asked_one g.X.Host.view g.X.Host.makes own (Begin (key_of ((sheet_of x).rows.count + 1)) c.args.entry) c.args.host.now c.begin.new.self
    c.begin.result c.in_ok-may_start.ensures (record { shows = record { answers = b.does.answers; shows = b.does.shows }; made = b.made })
