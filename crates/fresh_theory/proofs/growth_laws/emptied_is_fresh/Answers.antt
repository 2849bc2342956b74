use Rattle.fresh_theory.proofs.Emptied as lemmas
use Rattle.fresh_theory.proofs.growth_laws.emptied_is_fresh.Goals as goal

pub returns : goal.returns
returns g c = lemmas.emptied_is_fresh g.W.HasOpening.words g.W.HasOpening.bars g.W.HasOpening.opening
