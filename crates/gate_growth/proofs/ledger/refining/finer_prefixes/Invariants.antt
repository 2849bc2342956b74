use Rattle.std.proofs.Common.{◌≡◌, ◌++◌, drop}
use Rattle.gate_growth.specs.Classes.{given, class_prefixes}
use Rattle.gate_growth.proofs.ledger.refining.finer_prefixes.Given as goal

abbrev pub invariant-loop-class : goal.invariant-loop-class
invariant-loop-class l = l.list.items ++ given (class_prefixes (drop l.class-index l.classes)) ≡ given (class_prefixes l.classes)
