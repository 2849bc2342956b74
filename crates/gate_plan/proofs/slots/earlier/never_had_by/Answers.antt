use Rattle.std.proofs.Common.{arith}
use Rattle.gate_plan.proofs.Residues.{never, not_true}
use Rattle.gate_plan.proofs.slots.earlier.never_had_by.Goals as goal

pub returns : goal.returns
returns c = λ none.
    never c.args.count c.args.slot c.args.server c.common_divisor-divisor.result c.args.slots.now (omega (arith, c.if-count-divisor-ne0.false)) (omega (arith, c.if-slots-divisor-ne0.false)) (c.has_residue.ensures (not_true c.has_residue.result none))
