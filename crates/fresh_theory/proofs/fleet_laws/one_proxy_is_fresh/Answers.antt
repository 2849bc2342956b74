use Rattle.fresh_theory.proofs.FleetsFresh.{one_fresh}
use Rattle.fresh_theory.proofs.fleet_laws.one_proxy_is_fresh.Goals as goal

pub returns : goal.returns
returns g c = one_fresh g.W.HasLate.words g.W.HasLate.bars
