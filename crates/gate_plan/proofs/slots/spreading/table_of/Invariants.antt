use Rattle.std.proofs.Common.{◌≡◌}
use Rattle.gate_plan.proofs.Repeated.{repeated}
use Rattle.gate_plan.proofs.slots.spreading.table_of.Given as goal

abbrev pub invariant-loop-time : goal.invariant-loop-time
invariant-loop-time l = l.table.items ≡ repeated l._time l.slots
