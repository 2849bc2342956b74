use Rattle.fresh_theory.proofs.Machines.{at_machines_fresh}
use Rattle.fresh_theory.proofs.core_laws.core_at_machines_is_fresh.Goals as goal

pub returns : goal.returns
returns c = at_machines_fresh c.args.core.now c.accepted_trees_are_sound.ensures
