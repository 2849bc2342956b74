use Rattle.fresh_theory.proofs.LateCores.{emptied_late_core}
use Rattle.fresh_theory.proofs.core_laws.emptied_late_core_is_fresh.Goals as goal

pub returns : goal.returns
returns c = emptied_late_core c.args.core.now c.accepted_trees_are_sound.ensures
