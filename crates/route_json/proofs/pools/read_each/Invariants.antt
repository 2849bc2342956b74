use Rattle.std.proofs.Common.{drop}
use Rattle.serde_json.specs.View.{items_view}
use Rattle.route_json.specs.Pools.{server_named}
use Rattle.route_json.specs.Reading.{each, values}
use Rattle.route_json.proofs.Numbers.{Numbers}
use Rattle.route_json.proofs.pools.read_each.Given as goal

abbrev pub invariant-loop-item : goal.invariant-loop-item
invariant-loop-item l = Numbers (server_named l.name) (each (server_named l.name) (values (items_view l.items)) l.initial.servers) (values (items_view (drop l.item-index l.items))) l.pool.items l.initial.servers l.servers l.item-index
