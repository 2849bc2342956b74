use Rattle.std.proofs.Common.{◌≡◌, map}
use Rattle.script_events.specs.Scripted.{scripted_of}
use Rattle.mcgate_replay.specs.Growing.{first_excluded}
use Rattle.mcgate_replay.proofs.Opens.{excluded_from}
use Rattle.mcgate_replay.proofs.holds.first_excluded.Given as goal

abbrev pub invariant-loop-index : goal.invariant-loop-index
invariant-loop-index l = first_excluded l.begun l.config 0 (map scripted_of l.events) ≡ excluded_from l.begun l.config l.events l.index
