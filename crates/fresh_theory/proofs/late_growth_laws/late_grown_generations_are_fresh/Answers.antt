use Rattle.core_accepted.proofs.LateGrown.{late_generations}
use Rattle.fresh_theory.proofs.late_growth_laws.late_grown_generations_are_fresh.Goals as goal

pub returns : goal.returns
returns g c = late_generations g.W.HasLateOpening.bars
