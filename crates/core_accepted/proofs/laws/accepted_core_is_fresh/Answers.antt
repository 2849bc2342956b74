use Rattle.core_accepted.proofs.Keeping.{any_are_fresh}
use Rattle.core_accepted.proofs.laws.accepted_core_is_fresh.Goals as goal

pub returns : goal.returns
returns c = any_are_fresh c.args.core.now c.begun_core_is_fresh.ensures
