use Rattle.std.proofs.Common.{take}
use Rattle.gate_check.specs.Valid.{EachClass}
use Rattle.gate_check.specs.Proposed.{AreProposed}
use Rattle.gate_check.proofs.places.proposing.propose_by.Given as goal

abbrev pub invariant-loop-index : goal.invariant-loop-index
invariant-loop-index l = EachClass (AreProposed l.tree l.table.modulus) (take l.index l.table.classes.items) l.classes.items
