use Rattle.std.proofs.Common.{IfSome}
use Rattle.std.specs.List.{IsAmong}
use Rattle.fault_configs.proofs.names.nearest.Given as goal

abbrev pub invariant-loop-name : goal.invariant-loop-name
invariant-loop-name l = IfSome l.found (IsAmong l.names)
