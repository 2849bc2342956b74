use Rattle.fresh_theory.proofs.Spelled as lemmas
use Rattle.fresh_theory.proofs.walk_laws.in_order_happens_along.Goals as goal

pub returns : goal.returns
returns c = lemmas.in_order_happens
