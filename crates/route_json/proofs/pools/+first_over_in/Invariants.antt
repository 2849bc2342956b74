use Rattle.std.proofs.Common.{length}
use Rattle.route_json.proofs.pools.+first_over_in.Given as goal

abbrev pub decreases-first_over_in : goal.decreases-first_over_in
decreases-first_over_in l = length l.list.now
