use Rattle.route_json.proofs.Each.{values_step}
use Rattle.route_json.proofs.Tables.{slots_go}
use Rattle.route_json.proofs.table.read_slots.Goals as goal

pub loop-item-preserved : goal.loop-item-preserved
loop-item-preserved c =
    slots_go c.args.servers.now _ _ _ _ c.in_ok-server.server c.loop-item.slots.items c.push.new.self.items c.loop-item.item-index c.loop-item.invariant (values_step c.args.items.now c.loop-item.item-index c.item-item.result c.loop-item-test.true c.item-item.is) c.in_ok-server.ensures.gives c.in_ok-push.ensures.items c.in_ok-server.ensures.below
