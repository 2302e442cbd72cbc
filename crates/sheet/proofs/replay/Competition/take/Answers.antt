-- One event carries the law on, and leaves rows where they belong.
use Rattle.sheet.specs.Runs.{world_of, process_of}
use Rattle.sheet.specs.Happenings.{happening, command_of}
use Rattle.sheet.proofs.Belonging.{belong, host_sorts}
use Rattle.sheet.proofs.Going.{goes_one}
use Rattle.sheet.proofs.replay.Competition.take.Goals as goal

pub returns-clause-law : goal.returns-clause-law
returns-clause-law g c =
    let x = c.args.self.now in
    let y = c.answer.new.self in
    rw c.is_shut-shut.ensures (goes_one (process_of x) (world_of g.X.Host.view x)
    (happening (g.X.Host.view y.host).shut c.args.event.now) c.in_ok-answer.answer (world_of g.X.Host.view y) c.in_ok-answer.ensures.does)

pub returns-clause-sorted : goal.returns-clause-sorted
returns-clause-sorted g c =
    host_sorts g.X.Host.view g.X.Host.holds g.met.X.Host.sound g.met.X.Host.whole g.X.Host.makes g.X.Host.goes
    g.X.Controls.declines g.X.Controls.shuts g.X.Controls.leaves g.met.X.Host.stays_sorted g.met.X.Controls.moves_no_row
    (command_of c.args.event.now) _ c.args.self.now.host c.answer.new.self.host c.in_ok-answer.ensures.host

pub returns-clause-belong : goal.returns-clause-belong
returns-clause-belong g c =
    let x = c.args.self.now in
    let y = c.answer.new.self in
    let view = g.X.Host.view in
    belong view g.X.Host.holds g.met.X.Host.sound g.met.X.Host.whole x y
    (goes_one (process_of x) (world_of view x) (happening (view y.host).shut c.args.event.now) c.in_ok-answer.answer (world_of view y)
    c.in_ok-answer.ensures.does)
    (host_sorts view g.X.Host.holds g.met.X.Host.sound g.met.X.Host.whole g.X.Host.makes g.X.Host.goes
    g.X.Controls.declines g.X.Controls.shuts g.X.Controls.leaves g.met.X.Host.stays_sorted g.met.X.Controls.moves_no_row
    (command_of c.args.event.now) _ x.host y.host c.in_ok-answer.ensures.host)
