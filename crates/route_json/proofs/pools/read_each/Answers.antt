use Rattle.route_json.specs.Pools.{server_named}
use Rattle.route_json.proofs.Each.{values_step}
use Rattle.route_json.proofs.Numbers.{numbers_go}
use Rattle.route_json.proofs.pools.read_each.Goals as goal

pub loop-item-preserved : goal.loop-item-preserved
loop-item-preserved c =
    numbers_go (server_named c.args.name.now) _ _ _ _ c.in_ok-server.server c.loop-item.pool.items c.push.new.self.items c.args.servers.now c.loop-item.servers c.read_server.new.servers c.loop-item.item-index c.loop-item.invariant (values_step c.args.items.now c.loop-item.item-index c.item-item.result c.loop-item-test.true c.item-item.is) c.in_ok-server.ensures.gives c.in_ok-push.ensures.items c.in_ok-server.ensures.below c.in_ok-server.ensures.weight c.in_ok-server.ensures.more
