use Rattle.fresh_theory.proofs.Cores.{late_fleet_of_cores}
use Rattle.fresh_theory.proofs.core_laws.late_fleet_of_cores_is_fresh.Goals as goal

pub returns : goal.returns
returns c = late_fleet_of_cores
