use Rattle.cache_theory.proofs.Determined.{determined}
use Rattle.cache_theory.proofs.connection_laws.feed_is_determined.Goals as goal

pub returns : goal.returns
returns c = determined
