use Rattle.cache_theory.proofs.Determined.{after_end}
use Rattle.cache_theory.proofs.connection_laws.nothing_after_end.Goals as goal

pub returns : goal.returns
returns c = after_end
