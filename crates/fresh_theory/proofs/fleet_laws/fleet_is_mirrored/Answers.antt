use Rattle.fresh_theory.proofs.Mirror.{mirrored}
use Rattle.fresh_theory.proofs.fleet_laws.fleet_is_mirrored.Goals as goal

pub returns : goal.returns
returns g c = mirrored g.W.HasLate.words g.W.HasLate.bars
