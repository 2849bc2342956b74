use Rattle.fresh_theory.proofs.FleetExamples.{given_up}
use Rattle.fresh_theory.proofs.stale_laws.given_up_is_stale.Goals as goal

pub returns : goal.returns
returns c = given_up
