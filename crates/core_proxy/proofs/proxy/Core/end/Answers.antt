use Rattle.core_proxy.proofs.Polls.{ended_unshown, still_on}
use Rattle.core_proxy.proofs.proxy.Core.end.Goals as goal

pub returns-in-None-clause-ended : goal.returns-in-None-clause-ended
returns-in-None-clause-ended c = ended_unshown c.args.self.now c.end_at_once.new.self c.end_unshown.new.self c.args.client c.end_unshown.result c.in-None.ensures.none.0 c.end_unshown.ensures.ended

pub returns-in-None-clause-still : goal.returns-in-None-clause-still
returns-in-None-clause-still c = still_on c.args.self.now c.end_at_once.new.self c.end_unshown.new.self c.end_at_once.ensures.still c.end_unshown.ensures.still
