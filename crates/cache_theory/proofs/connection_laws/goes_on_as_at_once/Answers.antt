use Rattle.cache_theory.proofs.Whole.{goes_on}
use Rattle.cache_theory.proofs.connection_laws.goes_on_as_at_once.Goals as goal

pub returns : goal.returns
returns c = goes_on
