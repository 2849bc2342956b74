use Rattle.fresh_theory.proofs.Spelled as lemmas
use Rattle.fresh_theory.proofs.walk_laws.spelled_tell_always.Goals as goal

pub returns : goal.returns
returns c = lemmas.spelled_tell_always
