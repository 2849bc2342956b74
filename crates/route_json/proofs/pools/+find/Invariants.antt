use Rattle.std.proofs.Common.{length}
use Rattle.route_json.proofs.pools.+find.Given as goal

abbrev pub decreases-find : goal.decreases-find
decreases-find l = length l.list.now
