use Rattle.std.proofs.Common.{◌∙◌, sym, arith}
use Rattle.std.proofs.lemmas.Option.{slice_get_within}
use Rattle.gate_plan.proofs.Residues.{apart_more}
use Rattle.gate_plan.proofs.slots.earlier.has_residue.Goals as goal

pub loop-at-preserved : goal.loop-at-preserved
loop-at-preserved c =
    apart_more c.args.slots.now c.args.server c.args.slot c.args.modulus c.loop-at.at c.index-slots-at.result c.loop-at.invariant c.index-slots-at.is (sym c.is_residue.ensures ∙ c.if-is_residue.false)

pub returns : goal.returns
returns c = λ none i at. c.loop-at.invariant i (omega (arith, c.loop-at-test.false, slice_get_within c.args.slots.now i c.args.server at)) at
