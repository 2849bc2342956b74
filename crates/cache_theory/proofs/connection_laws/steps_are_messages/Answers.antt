use Rattle.cache_theory.proofs.Whole.{whole}
use Rattle.cache_theory.proofs.connection_laws.steps_are_messages.Goals as goal

pub returns : goal.returns
returns c = whole
