use Rattle.mc_types.proofs.KeyLemmas.{holds_opaque}
use Rattle.mc_types.proofs.token.opaque_of.Goals as goal

pub invariant_of-result : goal.invariant_of-result
invariant_of-result c = rw c.copy_from_slice.ensures.after (holds_opaque c.args.text.now c.requires)
