use Rattle.fresh_theory.proofs.FleetExamples.{fleet_copies}
use Rattle.fresh_theory.proofs.stale_laws.fleet_copies_race.Goals as goal

pub returns : goal.returns
returns c = fleet_copies
