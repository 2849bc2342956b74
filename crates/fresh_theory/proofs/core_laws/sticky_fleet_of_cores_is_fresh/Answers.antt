use Rattle.fresh_theory.proofs.Cores.{sticky_fleet_of_cores}
use Rattle.fresh_theory.proofs.core_laws.sticky_fleet_of_cores_is_fresh.Goals as goal

pub returns : goal.returns
returns c = sticky_fleet_of_cores
