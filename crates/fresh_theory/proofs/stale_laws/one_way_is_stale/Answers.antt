use Rattle.fresh_theory.proofs.OneWay.{one_way}
use Rattle.fresh_theory.proofs.stale_laws.one_way_is_stale.Goals as goal

pub returns : goal.returns
returns c = one_way
