-- One call more leads to a later view, and leaves one call less.
use Rattle.std.proofs.Common.{true, false, sym, refl, subst, ◌∙◌, arith}
use Rattle.std.proofs.lemmas.List.{take_all}
use Rattle.host.specs.Made.{Made, none}
use Rattle.host.proofs.Along.{later_same, come_more, come_all}
use Rattle.host.proofs.Made.{made_next}
use Rattle.host.proofs.calls.make_all.Goals as goal
use Rattle.host.proofs.calls.make_all.Goals.{then-is_ok, else-is_ok}

pub loop-call-init : goal.loop-call-init
loop-call-init g c = ((omega arith, omega arith, refl, later_same _), g.met.X.Host.stays c.args.host.now, none)

pub loop-call-preserved : goal.loop-call-preserved
loop-call-preserved g c =
    let u = g.X.Host.view c.args.host.now in
    let v = g.X.Host.view c.loop-call.host in
    let w = g.X.Host.view c.make.new.host in
    let made = c.make.ensures.does in
    let was = sym c.is_ok.ensures.value in
    let more = come_more u v w c.args.calls.now c.loop-call.call-index c.loop-call.count c.if-is_ok.count _ c.make.result in
    let sound = g.met.X.Host.sound c.loop-call.host in (
      elim c.if-is_ok.branch [
        | then-is_ok x ↦ more true c.loop-call-test.true sound made.shows made.answers (was ∙ x.if-is_ok.true) x.count-is c.loop-call.invariant.0
        | else-is_ok x ↦ more false c.loop-call-test.true sound made.shows made.answers (was ∙ x.if-is_ok.false) x.count-is c.loop-call.invariant.0
      ],
      g.met.X.Host.goes_on c.args.host.now c.loop-call.host c.make.new.host c.loop-call.invariant.1 c.make.ensures.goes,
      made_next g.X.Host.view g.X.Host.makes c.args.calls.now c.loop-call.call-index _ c.make.result c.make.new.host c.loop-call-test.true
          c.loop-call.invariant.2 (record { shows = made; made = c.make.ensures.made }),
    )

pub returns : goal.returns
returns g c =
    let u = g.X.Host.view c.args.host.now in
    let v = g.X.Host.view c.loop-call.host in
    let all = come_all u v c.args.calls.now c.loop-call.call-index c.loop-call.count c.loop-call-test.false c.loop-call.invariant.0 in
    record {
      answers = all.0;
      shows = all.1;
      later = c.loop-call.invariant.0.3;
      made = subst (λ cs. Made g.X.Host.view g.X.Host.makes c.args.host.now cs c.loop-call.host)
          (take_all c.loop-call.call-index c.args.calls.now c.loop-call-test.false) c.loop-call.invariant.2;
      goes = c.loop-call.invariant.1;
    }
