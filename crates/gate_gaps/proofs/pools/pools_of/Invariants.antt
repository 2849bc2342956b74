use Rattle.std.proofs.Common.{◌≡◌, ◌++◌}
use Rattle.route_json.specs.Reading.{members}
use Rattle.serde_json.specs.View.{members_view}
use Rattle.gate_gaps.specs.Pools.{named_pools_of}
use Rattle.gate_gaps.proofs.pools.pools_of.Given as goal

abbrev pub invariant-loop-name : goal.invariant-loop-name
invariant-loop-name l =
    l.pools.items ++ named_pools_of l.servers (members (members_view l.name-iterator)) ≡ named_pools_of l.servers (members (members_view l.map.entries))
