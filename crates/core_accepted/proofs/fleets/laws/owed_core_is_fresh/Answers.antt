use Rattle.core_accepted.proofs.OwedCores.{begun_owed_core}
use Rattle.core_accepted.proofs.fleets.laws.owed_core_is_fresh.Goals as goal

pub returns : goal.returns
returns c = begun_owed_core c.args.core.now c.accepted_trees_are_sound.ensures
