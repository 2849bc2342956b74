use Rattle.std.proofs.Common.{◌≡◌, ◌+◌, ◌^◌, ◌<◌, length}
use Rattle.script_events.specs.LinesAfter.{lines_after}
use Rattle.fault_words.specs.Lines.{line_numbered}
use Rattle.fault_words.proofs.script.lines.line_numbered.Given as goal

abbrev pub invariant-loop-rest : goal.invariant-loop-rest
invariant-loop-rest l = record {
  few : l.at + length (lines_after l.rest) < 2 ^ 64;
  there : line_numbered (l.fn.above + 1) (lines_after l.fn.further) l.fn.number ≡ line_numbered (l.at + 1) (lines_after l.rest) l.fn.number;
}

abbrev pub decreases-loop-rest : goal.decreases-loop-rest
decreases-loop-rest l = length (lines_after l.rest)
