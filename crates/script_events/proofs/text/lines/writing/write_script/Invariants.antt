use Rattle.std.proofs.Common.{All, take, map}
use Rattle.std.specs.Io.KnownBytes.{Appends}
use Rattle.script_events.specs.declared.script.Event.{Event}
use Rattle.script_events.specs.Scripted.{scripted_of}
use Rattle.script_events.specs.ScriptLines.{script_lines}
use Rattle.script_events.specs.LineLaws.{HasWidths}
use Rattle.script_events.proofs.text.lines.writing.write_script.Given as goal

abbrev pub invariant-loop-event : goal.invariant-loop-event
invariant-loop-event g l = record {
  lines : Appends (g.W.Write.contents l.initial.out) (g.W.Write.contents l.out) (script_lines (map scripted_of (take l.event-index l.event-items)));
  widths : All (λ (event : Event). HasWidths (scripted_of event)) (take l.event-index l.event-items);
}
