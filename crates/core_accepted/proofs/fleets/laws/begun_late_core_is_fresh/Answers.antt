use Rattle.core_accepted.proofs.LateCores.{begun_late_core}
use Rattle.core_accepted.proofs.fleets.laws.begun_late_core_is_fresh.Goals as goal

pub returns : goal.returns
returns c = begun_late_core c.args.core.now c.accepted_trees_are_sound.ensures
