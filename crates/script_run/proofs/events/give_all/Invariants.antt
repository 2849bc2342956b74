use Rattle.std.proofs.Common.{◌≡◌, ◌<◌, ◌≤◌, length}
use Rattle.script_events.specs.Scripted.{transcript_of}
use Rattle.script_run.specs.Running.{KeepStalled}
use Rattle.script_run.specs.Stepping.{HandsOut}
use Rattle.script_run.proofs.Rising.{AddsBelow}
use Rattle.script_run.proofs.events.give_all.Given as goal

abbrev pub invariant-loop-client : goal.invariant-loop-client
invariant-loop-client l = record {
  hands : HandsOut (λ c. c < l.client) (transcript_of l.fn.transcript) (transcript_of l.transcript) l.fn.runner l.runner;
  longer : length l.fn.transcript.shown.items ≤ length l.transcript.shown.items;
  clients : l.runner.clients ≡ l.fn.runner.clients;
  stalled : KeepStalled l.fn.runner l.runner;
  adds : AddsBelow l.client (transcript_of l.fn.transcript) (transcript_of l.transcript);
}
