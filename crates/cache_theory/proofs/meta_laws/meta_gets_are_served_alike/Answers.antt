use Rattle.cache_theory.proofs.ServedAlike.{served_alike}
use Rattle.cache_theory.proofs.meta_laws.meta_gets_are_served_alike.Goals as goal

pub returns : goal.returns
returns c = served_alike
