use Rattle.std.proofs.Common.{take, map}
use Rattle.std.specs.Io.KnownBytes.{Appends}
use Rattle.script_events.specs.Scripted.{output_shown}
use Rattle.script_events.specs.Printed.{shown_lines}
use Rattle.script_events.proofs.text.printer.write_outputs.Given as goal

abbrev pub invariant-loop-output : goal.invariant-loop-output
invariant-loop-output g l = Appends (g.W.Write.contents l.initial.out) (g.W.Write.contents l.out) (shown_lines (map output_shown (take l.output-index l.outputs)))
