use Rattle.fresh_theory.proofs.Arbitrary as lemmas
use Rattle.fresh_theory.proofs.growth_laws.arbitrary_is_today.Goals as goal

pub returns : goal.returns
returns c = lemmas.arbitrary_is_today
