-- What is played of an accepted process is told.
use Rattle.std.proofs.Common.{◌≡◌, ◌+◌, length, map, Ok, ◌∙◌, refl, subst}
use Rattle.std.proofs.lemmas.Result.{IfOk-weaker}
use Rattle.process.specs.Accepted.{Reading, tables_of}
use Rattle.process.specs.Reading.{start}
use Rattle.journal.specs.Calls.{line_read}
use Rattle.playing.specs.Names.{names_handed}
use Rattle.playing.specs.Played.{play}
use Rattle.playing.specs.Playing.{process_of, played_of}
use Rattle.playing.specs.Run.{concluded, played_out}
use Rattle.journal.specs.Settings.{contents}
use Rattle.playing.proofs.replay.replay.Goals as goal

pub returns-in_ok-run-in-Ok : goal.returns-in_ok-run-in-Ok
returns-in_ok-run-in-Ok c =
    let j = contents c.args.journal.now in
    let q = c.in-Ok.process in
    let stored = c.as_slice-stored.ensures.value in
    let opened = c.in_ok-play-in-Ok.ensures in
    let ran = c.in_ok-run-in-Ok.ensures in
    let process : process_of c.run.new.self ≡ tables_of q = ran.process ∙ opened.process in
    let played : played_of c.run.new.self ≡ played_out j (tables_of q) =
    ran.played ∙ (λ i. play (opened.process i) (opened.played i) (map line_read (c.deref.ensures.value i))) in
    let names = c.in_ok-names-in-Ok.ensures ∙ (λ i. names_handed (length (c.steps.ensures i) + 1) (stored i) start) in
    IfOk-weaker c.outcome.result _ _
    (λ x told. record {
      answer = Ok q;
      reading = subst (λ bytes. Reading bytes (Ok q)) stored (c.in-Ok.ensures.answer refl);
      told = told ∙ (λ i. concluded c.args.treasurer (process i) (played i) (names i));
    })
    c.outcome.ensures
