-- What both iterators have left leads to all the counts, and those fit.
use Rattle.std.proofs.Common.{◌≡◌, fold, length}
use Rattle.std.specs.Iterator.Adapters.{zip_first, zip_second}
use Rattle.std.specs.List.{zip}
use Rattle.std.specs.Slice.Iter.{iter_rest}
use Rattle.playing.specs.Played.{Fits, counted_event, counts_along}
use Rattle.playing.proofs.summary.CallCounts.of.Given as goal

abbrev pub invariant-loop-event : goal.invariant-loop-event
invariant-loop-event l =
    let events = iter_rest (zip_first l.event-iterator) in
    let taken = iter_rest (zip_second l.event-iterator) in
    record {
      counted : fold counted_event l.calls (zip events taken) ≡ counts_along l.events l.taken;
      fits : Fits (length events) l.calls;
    }
