use Rattle.std.proofs.Common.{drop}
use Rattle.serde_json.specs.View.{items_view}
use Rattle.route_json.specs.Pools.{read_slot}
use Rattle.route_json.specs.Reading.{each, values}
use Rattle.route_json.proofs.Tables.{SlotsRead}
use Rattle.route_json.proofs.table.read_slots.Given as goal

abbrev pub invariant-loop-item : goal.invariant-loop-item
invariant-loop-item l = SlotsRead l.servers (each (read_slot l.servers) (values (items_view l.items)) tt) (values (items_view (drop l.item-index l.items))) l.slots.items l.item-index
