use Rattle.core_accepted.proofs.Keeping.{unchecked_is_led}
use Rattle.core_accepted.proofs.served.ServedCore.unchecked.Goals as goal

pub returns : goal.returns
returns c = unchecked_is_led c.args.tree c.args.limits c.unchecked.result c.tally_for.result c.unchecked.ensures c.tally_for.ensures
