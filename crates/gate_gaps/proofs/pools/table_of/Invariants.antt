use Rattle.std.proofs.Common.{◌≡◌, ◌++◌, drop}
use Rattle.route_json.specs.Reading.{values}
use Rattle.serde_json.specs.View.{items_view}
use Rattle.gate_gaps.specs.Pools.{table_of}
use Rattle.gate_gaps.proofs.pools.table_of.Given as goal

abbrev pub invariant-loop-item : goal.invariant-loop-item
invariant-loop-item l =
    l.slots.items ++ table_of l.members (values (items_view (drop l.item-index l.items))) ≡ table_of l.members (values (items_view l.items))
