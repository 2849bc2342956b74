use Rattle.fresh_theory.proofs.LateEmptied.{late_emptied}
use Rattle.fresh_theory.proofs.late_growth_laws.late_emptied_is_fresh.Goals as goal

pub returns : goal.returns
returns g c = late_emptied g.W.HasLateOpening.words g.W.HasLateOpening.bars g.W.HasLateOpening.over g.W.HasLateOpening.opening
