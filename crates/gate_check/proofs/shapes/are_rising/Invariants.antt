use Rattle.std.proofs.Common.{◌≡◌, drop}
use Rattle.gate_check.specs.Shapes.{is_rising}
use Rattle.gate_check.proofs.shapes.are_rising.Given as goal

abbrev pub invariant-loop-run : goal.invariant-loop-run
invariant-loop-run l = is_rising l.last l.modulus l.runs ≡ is_rising l.before l.modulus (drop l.run-index l.runs)
