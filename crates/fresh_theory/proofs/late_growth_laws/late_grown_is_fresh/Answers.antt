use Rattle.fresh_theory.proofs.LateEmptied.{late_grown}
use Rattle.fresh_theory.proofs.late_growth_laws.late_grown_is_fresh.Goals as goal

pub returns : goal.returns
returns g c = late_grown g.W.HasLateOpening.words g.W.HasLateOpening.bars g.W.HasLateOpening.over g.W.HasLateOpening.opening
