-- What is left of the lines leads on to the end, and the numbers of calls fit.
use Rattle.std.proofs.Common.{◌≡◌, ◌-◌, drop, length, map}
use Rattle.journal.specs.Calls.{line_read}
use Rattle.playing.specs.Played.{Fits, play}
use Rattle.playing.specs.Playing.{played_of, process_of}
use Rattle.playing.proofs.play.Play.run.Given as goal

abbrev pub invariant-loop-line : goal.invariant-loop-line
invariant-loop-line l =
    record {
      played : play (process_of l.fn.self) (played_of l.self) (map line_read (drop l.line-index l.lines))
          ≡ play (process_of l.fn.self) (played_of l.fn.self) (map line_read l.lines);
      process : process_of l.self ≡ process_of l.fn.self;
      fits : Fits (length l.lines - l.line-index) l.self.calls;
    }
