use Rattle.fresh_theory.proofs.Parts.{part_laws}
use Rattle.fresh_theory.proofs.fleet_laws.fleet_is_parts.Goals as goal

pub returns : goal.returns
returns g c = part_laws g.W.HasLate.words g.W.HasLate.bars
