use Rattle.fresh_theory.proofs.Cores.{fleet_of_cores}
use Rattle.fresh_theory.proofs.core_laws.fleet_of_cores_is_fresh.Goals as goal

pub returns : goal.returns
returns c = fleet_of_cores
