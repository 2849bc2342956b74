use Rattle.fresh_theory.proofs.Example.{stale_run}
use Rattle.fresh_theory.proofs.stale_laws.some_run_is_stale.Goals as goal

pub returns : goal.returns
returns c = stale_run
