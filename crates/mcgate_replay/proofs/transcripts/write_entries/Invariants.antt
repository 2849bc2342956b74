use Rattle.std.proofs.Common.{◌≤◌, ◌-◌, ℕ, List, Option, map}
use Rattle.std.specs.Io.KnownBytes.{Appends}
use Rattle.script_events.specs.Scripted.{output_shown}
use Rattle.mcgate_replay.specs.Replay.{transcript_lines}
use Rattle.mcgate_replay.proofs.Printing.{left}
use Rattle.mcgate_replay.proofs.transcripts.write_entries.Given as goal

abbrev pub decreases-loop-number : goal.decreases-loop-number
decreases-loop-number g l = l.count - l.number

abbrev pub invariant-loop-number : goal.invariant-loop-number
invariant-loop-number g l = record {
  within : l.number ≤ l.count;
  so_far : (new : Option (List ℕ)) → Appends (g.W.Write.contents l.out) new (left l.any l.reloads l.loadings l.marks l.number l.before l.rest) → Appends (g.W.Write.contents l.initial.out) new (transcript_lines l.any l.reloads l.loadings (map output_shown l.outputs) l.marks);
}
