use Rattle.fresh_theory.proofs.Flushed as lemmas
use Rattle.fresh_theory.proofs.walk_laws.flushed_begin_so.Goals as goal

pub returns : goal.returns
returns c = lemmas.flushed_begin_so
