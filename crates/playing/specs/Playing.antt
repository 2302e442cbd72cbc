-- A journal under way, as far as it was played. Assumes nothing.
use Rattle.std.specs.Prelude.{string_bytes}
use Rattle.model.specs.Chart.{Chart}
use Rattle.sheet.specs.Runs.{world_of, process_of as process_in}
use Rattle.club.specs.Hosts.{hosts_view, switches_of}
use Rattle.playing.specs.Played.{Played}
use Rattle.playing.specs.declared.play.Play.{Play}

abbrev pub played_of : Play → Played
played_of p = record {
  world = world_of hosts_view p.competition;
  switches = switches_of p.competition.host;
  printed = string_bytes p.printed;
  calls = p.calls;
}

abbrev pub process_of : Play → Chart
process_of p = process_in p.competition
