use Rattle.core_accepted.proofs.LateGrown.{grown_pipes}
use Rattle.fresh_theory.proofs.late_growth_laws.grown_pipes_are_fresh.Goals as goal

pub returns : goal.returns
returns g c = grown_pipes g.W.HasLateOpening.words g.W.HasLateOpening.bars g.W.HasLateOpening.opening
