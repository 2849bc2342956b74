use Rattle.core_accepted.proofs.FleetGate.{accepted}
use Rattle.core_accepted.proofs.fleets.gates.laws.accepted_fleet_is_fresh.Goals as goal

pub returns : goal.returns
returns c = accepted
