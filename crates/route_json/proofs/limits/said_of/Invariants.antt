use Rattle.std.proofs.Common.{◌≡◌}
use Rattle.serde_json.specs.View.{members_view}
use Rattle.route_json.specs.Limits.{no_limits, limits_said_after}
use Rattle.route_json.specs.Reading.{members}
use Rattle.route_json.proofs.limits.said_of.Given as goal

abbrev pub invariant-loop-pool : goal.invariant-loop-pool
invariant-loop-pool l = limits_said_after l.server no_limits (members (members_view l.pools.entries)) ≡ limits_said_after l.server l.said (members (members_view l.pool-iterator))
