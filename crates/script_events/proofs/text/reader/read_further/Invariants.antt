use Rattle.std.proofs.Common.{◌+◌, ◌^◌, ◌<◌, length}
use Rattle.script_events.specs.LinesAfter.{lines_after}
use Rattle.script_events.proofs.Further.{Further}
use Rattle.script_events.proofs.text.reader.read_further.Given as goal

abbrev pub invariant-loop-rest : goal.invariant-loop-rest
invariant-loop-rest l = record {
  few : l.number + length (lines_after l.rest) < 2 ^ 64;
  so_far : Further l.fn.servers (l.fn.above + 1) (lines_after l.fn.further) l.events.items l.lines.items l.reloads.items l.number (lines_after l.rest);
}

abbrev pub decreases-loop-rest : goal.decreases-loop-rest
decreases-loop-rest l = length (lines_after l.rest)
