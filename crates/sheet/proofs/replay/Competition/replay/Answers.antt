-- One event more was taken, and told of in its place.
use Rattle.std.proofs.Common.{◌≡◌, ◌+◌, ◌<◌, length, drop, take, sym, ap, refl, subst, ◌∙◌, arith}
use Rattle.std.proofs.lemmas.List.{drop-drop, drop-set-lt}
use Rattle.sheet.specs.Happenings.{history_of}
use Rattle.sheet.specs.Runs.{world_of, process_of, GoesOn}
use Rattle.sheet.proofs.Belonging.{belong, taken_sorts}
use Rattle.sheet.proofs.Going.{goes_on, taken_none, taken_more, taken_leads}
use Rattle.sheet.proofs.replay.Competition.replay.Goals as goal

pub loop-i-init : goal.loop-i-init
loop-i-init g c =
    record {
      taken = taken_none g.X.Host.view g.X.Host.makes g.X.Host.goes g.X.Controls.declines g.X.Controls.shuts g.X.Controls.leaves
          c.args.self.now c.args.events.now c.args.places.now;
      rest = refl;
      process = refl;
    }

pub loop-i-preserved : goal.loop-i-preserved
loop-i-preserved g c =
    let i = c.loop-i.i in
    let low : i < length c.args.events.now = omega (arith, c.loop-i-test.true, c.min-most.ensures) in
    let room : i < length c.loop-i.places = omega (arith, c.loop-i-test.true, c.min-most.ensures, c.loop-i.auto.places) in
    record {
      taken = taken_more g.X.Host.view g.X.Host.makes g.X.Host.goes g.X.Controls.declines g.X.Controls.shuts g.X.Controls.leaves
          c.args.self.now c.loop-i.self c.take.new.self c.args.events.now c.loop-i.places i c.index-events-i.result c.in-Ok.taken
          low room c.index-events-i.is c.in-Ok.ensures.takes c.loop-i.invariant.taken;
      rest = drop-set-lt (i + 1) c.loop-i.places i c.in-Ok.taken (omega arith)
          ∙ sym (drop-drop 1 i c.loop-i.places) ∙ ap (drop 1) c.loop-i.invariant.rest ∙ drop-drop 1 i c.args.places.now;
      process = c.in-Ok.ensures.process ∙ c.loop-i.invariant.process;
    }

pub returns-clause-law : goal.returns-clause-law
returns-clause-law g c =
    let x = c.args.self.now in
    let y = c.loop-i.self in
    let view = g.X.Host.view in
    let end : c.loop-i.i ≡ c.min-most.result = omega (arith, c.loop-i-test.false, c.loop-i.auto.i-end) in
    subst (λ n. GoesOn (process_of x) (world_of view x) (history_of c.args.events.now (take n c.loop-i.places)) (world_of view y)) end
    (goes_on (process_of x) (world_of view x)
    (taken_leads view g.X.Host.makes g.X.Host.goes g.X.Controls.declines g.X.Controls.shuts g.X.Controls.leaves x c.loop-i.invariant.taken))

pub returns-clause-sorted : goal.returns-clause-sorted
returns-clause-sorted g c =
    let x = c.args.self.now in
    let y = c.loop-i.self in
    let view = g.X.Host.view in
    let taken = c.loop-i.invariant.taken in
    taken_sorts view g.X.Host.holds g.met.X.Host.sound g.met.X.Host.whole g.X.Host.makes g.X.Host.goes
    g.X.Controls.declines g.X.Controls.shuts g.X.Controls.leaves g.met.X.Host.stays_sorted g.met.X.Controls.moves_no_row taken

pub returns-clause-belong : goal.returns-clause-belong
returns-clause-belong g c =
    let x = c.args.self.now in
    let y = c.loop-i.self in
    let view = g.X.Host.view in
    let taken = c.loop-i.invariant.taken in
    belong view g.X.Host.holds g.met.X.Host.sound g.met.X.Host.whole x y
    (goes_on (process_of x) (world_of view x)
    (taken_leads view g.X.Host.makes g.X.Host.goes g.X.Controls.declines g.X.Controls.shuts g.X.Controls.leaves x taken))
    (taken_sorts view g.X.Host.holds g.met.X.Host.sound g.met.X.Host.whole g.X.Host.makes g.X.Host.goes
    g.X.Controls.declines g.X.Controls.shuts g.X.Controls.leaves g.met.X.Host.stays_sorted g.met.X.Controls.moves_no_row taken)

pub returns-in-Err-clause-law : goal.returns-in-Err-clause-law
returns-in-Err-clause-law g c =
    let x = c.args.self.now in
    let y = c.loop-i.self in
    let view = g.X.Host.view in
    let taken = c.loop-i.invariant.taken in
    rw c.in-Err.ensures.same (goes_on (process_of x) (world_of view x)
    (taken_leads view g.X.Host.makes g.X.Host.goes g.X.Controls.declines g.X.Controls.shuts g.X.Controls.leaves x taken))

pub returns-in-Err-clause-sorted : goal.returns-in-Err-clause-sorted
returns-in-Err-clause-sorted g c =
    let x = c.args.self.now in
    let y = c.loop-i.self in
    let view = g.X.Host.view in
    let taken = c.loop-i.invariant.taken in
    rw c.in-Err.ensures.same (taken_sorts view g.X.Host.holds g.met.X.Host.sound g.met.X.Host.whole g.X.Host.makes g.X.Host.goes
    g.X.Controls.declines g.X.Controls.shuts g.X.Controls.leaves g.met.X.Host.stays_sorted g.met.X.Controls.moves_no_row taken)

pub returns-in-Err-clause-belong : goal.returns-in-Err-clause-belong
returns-in-Err-clause-belong g c =
    let x = c.args.self.now in
    let y = c.loop-i.self in
    let view = g.X.Host.view in
    let taken = c.loop-i.invariant.taken in
    rw c.in-Err.ensures.same (belong view g.X.Host.holds g.met.X.Host.sound g.met.X.Host.whole x y
    (goes_on (process_of x) (world_of view x)
    (taken_leads view g.X.Host.makes g.X.Host.goes g.X.Controls.declines g.X.Controls.shuts g.X.Controls.leaves x taken))
    (taken_sorts view g.X.Host.holds g.met.X.Host.sound g.met.X.Host.whole g.X.Host.makes g.X.Host.goes
    g.X.Controls.declines g.X.Controls.shuts g.X.Controls.leaves g.met.X.Host.stays_sorted g.met.X.Controls.moves_no_row taken))
