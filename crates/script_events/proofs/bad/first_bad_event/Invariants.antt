use Rattle.std.proofs.Common.{◌≡◌, take, map}
use Rattle.script_events.specs.Scripted.{scripted_of}
use Rattle.script_events.specs.Bad.{IsBefore, first_bad}
use Rattle.script_events.proofs.BadEvents.{bad_from}
use Rattle.script_events.proofs.bad.first_bad_event.Given as goal

abbrev pub invariant-loop-index : goal.invariant-loop-index
invariant-loop-index l = record {
  before : IsBefore (map scripted_of (take l.index l.script.events.items)) l.before;
  ahead : bad_from l.servers l.script.events.items l.index ≡ first_bad l.servers (map scripted_of l.script.events.items);
}
