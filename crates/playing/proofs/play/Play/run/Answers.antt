-- Each line's call leads on.
use Rattle.std.proofs.Common.{◌≡◌, ℕ, ◌∷◌, ◌+◌, ◌-◌, List, drop, length, map, sym, refl, ap, ◌∙◌, subst, arith}
use Rattle.std.proofs.lemmas.List.{at_drop_more, at_drop_all}
use Rattle.model.specs.Chart.{Chart}
use Rattle.journal.specs.Calls.{line_read}
use Rattle.playing.specs.Played.{Fits, Played, play, play_one}
use Rattle.playing.specs.Playing.{played_of, process_of}
use Rattle.journal.specs.declared.events.Line.{Line}
use Rattle.playing.proofs.Playing.{fits_one, fits_played}
use Rattle.playing.proofs.play.Play.run.Goals as goal

pub loop-line-init : goal.loop-line-init
loop-line-init c =
    let all : length c.args.lines.now ≡ length c.args.lines.now - 0 = omega arith in
    record { played = refl; process = refl; fits = subst (λ (n : ℕ). Fits n c.args.self.now.calls) all c.requires }

pub take-requires : goal.take-requires
take-requires c = fits_one _ c.loop-line.self.calls (omega (arith, c.loop-line-test.true)) c.loop-line.invariant.fits

pub returns-in_err-take-clause-process : goal.returns-in_err-take-clause-process
returns-in_err-take-clause-process c = c.take.ensures.process ∙ c.loop-line.invariant.process

pub loop-line-preserved : goal.loop-line-preserved
loop-line-preserved c =
    let x = c.args.self.now in
    let y = c.loop-line.self in
    let z = c.take.new.self in
    let i = c.loop-line.line-index in
    let lines = c.args.lines.now in
    let line = c.line-item.result in
    let one : played_of z ≡ play_one (process_of x) (played_of y) (line_read line) =
    c.in_ok-take.ensures.played ∙ ap (λ (p : Chart). play_one p (played_of y) (line_read line)) c.loop-line.invariant.process in
    let rest = drop (i + 1) lines in
    let more = at_drop_more (λ (ls : List Line). play (process_of x) (played_of y) (map line_read ls)) lines i line c.loop-line-test.true in
    record {
      played = ap (λ (p : Played). play (process_of x) p (map line_read rest)) one
          ∙ ap (λ (l : Line). play (process_of x) (played_of y) (map line_read (l ∷ rest))) c.line-item.is ∙ sym more ∙ c.loop-line.invariant.played;
      process = c.in_ok-take.ensures.process ∙ c.loop-line.invariant.process;
      fits = subst (Fits (length lines - (i + 1))) (sym (ap (λ (p : Played). p.calls) one))
          (fits_played (process_of x) (played_of y) (line_read line) _ _ (omega (arith, c.loop-line-test.true)) c.loop-line.invariant.fits);
    }

pub returns-clause-played : goal.returns-clause-played
returns-clause-played c =
    let x = c.args.self.now in
    let y = c.loop-line.self in
    sym (at_drop_all (λ (ls : List Line). play (process_of x) (played_of y) (map line_read ls)) c.args.lines.now c.loop-line.line-index
    (omega (arith, c.loop-line-test.false)))
    ∙ c.loop-line.invariant.played

pub returns-clause-process : goal.returns-clause-process
returns-clause-process c = c.loop-line.invariant.process
