use Rattle.std.proofs.Common.{Ok}
use Rattle.serde_json.specs.View.{members_view}
use Rattle.route_json.specs.Pools.{pools_of, pool_of, pools_in}
use Rattle.route_json.specs.Reading.{members, named}
use Rattle.route_json.proofs.Numbers.{ManyPools}
use Rattle.route_json.proofs.pools.Pools.read.Given as goal

abbrev pub invariant-loop-name : goal.invariant-loop-name
invariant-loop-name l = ManyPools (named Ok pool_of) (pools_in (members_view l.map.entries) l.initial.servers) (members (members_view l.name-iterator)) (pools_of l.list.items) l.servers
