use Rattle.std.proofs.Common.{◌≡◌, ◌++◌, map}
use Rattle.script_events.specs.Scripted.{scripted_of}
use Rattle.gate_gaps.specs.Scripts.{fail_lines}
use Rattle.mcgate_check.proofs.leaks.script.add_failures.Given as goal

abbrev pub invariant-loop-made : goal.invariant-loop-made
invariant-loop-made l = map scripted_of l.events.items ≡ map scripted_of l.initial.events.items ++ fail_lines l.made
