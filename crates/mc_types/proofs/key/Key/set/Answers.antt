use Rattle.mc_types.proofs.KeyLemmas.{holds_before}
use Rattle.mc_types.proofs.key.Key.set.Goals as goal

pub invariant_of-self : goal.invariant_of-self
invariant_of-self c = rw c.copy_from_slice.ensures.after (holds_before c.args.text.now c.clear_after.new.bytes c.requires c.clear_after.ensures)
