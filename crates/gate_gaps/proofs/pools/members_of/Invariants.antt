use Rattle.std.proofs.Common.{◌≡◌, ◌++◌, drop}
use Rattle.route_json.specs.Reading.{values}
use Rattle.serde_json.specs.View.{items_view}
use Rattle.gate_gaps.specs.Pools.{members_of}
use Rattle.gate_gaps.proofs.pools.members_of.Given as goal

abbrev pub invariant-loop-item : goal.invariant-loop-item
invariant-loop-item l =
    l.members.items ++ members_of l.servers (values (items_view (drop l.item-index l.items))) ≡ members_of l.servers (values (items_view l.items))
