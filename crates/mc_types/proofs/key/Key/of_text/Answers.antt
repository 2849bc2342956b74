use Rattle.mc_types.proofs.KeyLemmas.{holds}
use Rattle.mc_types.proofs.key.Key.of_text.Goals as goal

pub invariant_of-result : goal.invariant_of-result
invariant_of-result c = rw c.copy_from_slice.ensures.after (holds c.args.text.now c.requires)
