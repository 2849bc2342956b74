use Rattle.gate_growth.proofs.Since.{grown_are_fresh}
use Rattle.gate_growth.proofs.laws.grown_generations_are_fresh.Goals as goal

pub returns : goal.returns
returns g c = grown_are_fresh g.W.HasBars.bars
