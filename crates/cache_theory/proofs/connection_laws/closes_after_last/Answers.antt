use Rattle.cache_theory.proofs.Closing.{closes}
use Rattle.cache_theory.proofs.connection_laws.closes_after_last.Goals as goal

pub returns : goal.returns
returns c = closes
