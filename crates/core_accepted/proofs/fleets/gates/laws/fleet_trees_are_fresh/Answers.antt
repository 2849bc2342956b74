use Rattle.core_accepted.proofs.Rollout.{fleet_trees}
use Rattle.core_accepted.proofs.fleets.gates.laws.fleet_trees_are_fresh.Goals as goal

pub returns : goal.returns
returns c = fleet_trees
