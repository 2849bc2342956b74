use Rattle.std.proofs.Common.{◌≡◌, take, map}
use Rattle.std.specs.Prelude.{sum_by}
use Rattle.script_events.specs.Bad.{len_of}
use Rattle.script_events.specs.Scripted.{scripted_of}
use Rattle.fault_words.proofs.script.misfit.bytes_of.Given as goal

abbrev pub invariant-loop-event : goal.invariant-loop-event
invariant-loop-event l = l.bytes ≡ sum_by len_of (map scripted_of (take l.event-index l.events))
