use Rattle.std.proofs.Common.{length, map, arith}
use Rattle.std.proofs.lemmas.Option.{slice_get_within}
use Rattle.gate_plan.specs.Slots.{MayBecome}
use Rattle.gate_plan.proofs.Residues.{slots_more}
use Rattle.gate_plan.proofs.slots.testing.are_moves.Goals as goal

pub loop-slot-preserved : goal.loop-slot-preserved
loop-slot-preserved c =
    slots_more c.args.old.now c.args.new.now (MayBecome c.args.change.now c.args.others.now (map (λ v. v.items) c.args.earlier.now) (length c.args.old.now)) c.loop-slot.slot c.index-old-slot.result c.index-new-slot.result c.loop-slot.invariant c.index-old-slot.is c.index-new-slot.is (c.may_become.ensures c.if-not-may_become.false)

pub returns : goal.returns
returns c = λ _ slot holder to a b.
    c.loop-slot.invariant slot (omega (arith, c.loop-slot-test.false, slice_get_within c.args.old.now slot holder a)) holder to a b
