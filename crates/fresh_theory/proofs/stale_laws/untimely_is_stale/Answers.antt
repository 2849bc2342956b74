use Rattle.fresh_theory.proofs.Weakest.{untimely}
use Rattle.fresh_theory.proofs.stale_laws.untimely_is_stale.Goals as goal

pub returns : goal.returns
returns c = untimely
