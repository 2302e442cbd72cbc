-- The event that was taken and told of is the call of the line.
use Rattle.std.proofs.Common.{◌≡◌, ◌++◌, string_bytes, ap, sym, subst, ◌∙◌}
use Rattle.std.proofs.lemmas.Result.{on_ok_weaker}
use Rattle.model.specs.Book.{accepted}
use Rattle.model.specs.Run.{said}
use Rattle.sheet.specs.Happenings.{command_of}
use Rattle.sheet.specs.Lent.{lent_of}
use Rattle.sheet.specs.Runs.{world_of}
use Rattle.sheet.specs.declared.replay.Competition.{Competition}
use Rattle.journal.specs.Calls.{call_of, call_text}
use Rattle.club.specs.Hosts.{Hosts, hosts_view, switches_of, InOrder}
use Rattle.playing.specs.Played.{part_of, counted, told_text, told_line}
use Rattle.playing.specs.Playing.{played_of, process_of}
use Rattle.club.proofs.Leaving.{shut_by}
use Rattle.playing.proofs.Playing.{steers, keeps_order, refuses_none, plays_one}
use Rattle.playing.proofs.play.Play.take.Goals as goal

pub returns-clause-played : goal.returns-clause-played
returns-clause-played c =
    let x = c.args.self.now in
    let y = c.take.new.self in
    let t = c.in_ok-take.field-0 in
    let line = c.args.line.now in
    let call = call_of line.event in
    let taken = c.in_ok-take.ensures.takes in
    let told : c.told-told.result ≡ t.answer =
    c.told-told.ensures ∙ ap (λ f. said f t.answer) (taken.refused ∙ refuses_none x.competition.host (command_of line.event)) in
    let shown : string_bytes x.printed ++ told_line (part_of call) line.number (call_text call)
    (told_text call c.told-told.result (lent_of c.memory.result.now))
    ≡ string_bytes x.printed ++ told_line (part_of call) line.number (call_text call) (told_text call t.answer (lent_of y.memory)) =
    (λ i. string_bytes x.printed ++ told_line (part_of call) line.number (call_text call)
    (told_text call (told i) (lent_of (c.memory.ensures i)))) in
    on_ok_weaker c.print.result (λ printed.
    plays_one (process_of x) (played_of x) line.number line.event t.shut t.answer (world_of hosts_view y) (switches_of y.host) _ _
    taken.does (taken.shut ∙ shut_by y.host) (steers line.event _ x.competition.host y.host taken.host)
    (printed ∙ shown) (c.add.ensures ∙ ap (λ a. counted (part_of call) (accepted a) x.calls) told))
    c.print.ensures

pub invariant_of-self : goal.invariant_of-self
invariant_of-self c =
    record { order = subst (λ (k : Competition Hosts). InOrder k.host) (sym c.in_err-take.ensures.same) c.args.self.now.order }

pub invariant_of-self-2 : goal.invariant_of-self-2
invariant_of-self-2 c =
    let x = c.args.self.now in record {
      order = keeps_order (command_of c.args.line.now.event) _ x.competition.host c.take.new.self.host c.in_ok-take.ensures.takes.host
          c.in_ok-take.ensures.sorted x.order;
    }
