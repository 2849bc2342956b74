use Rattle.std.proofs.Common.{◌≤◌, ◌+◌, drop, arith}
use Rattle.route_json.proofs.Each.{drop_step}
use Rattle.route_json.proofs.Slots.{count_fits}
use Rattle.route_json.proofs.pools.slot_count.Goals as goal

pub overflow_add-count : goal.overflow_add-count
overflow_add-count c =
    let servers = c.args.servers.now in
    let i = c.loop-server.server-index in
    let s = c.server-item.result in
    let fits : c.loop-server.count + s.weight ≤ 16384 = count_fits c.requires.light.0 servers (drop i servers) (drop (i + 1) servers) s c.loop-server.count c.requires.light.1 c.requires.few c.loop-server.invariant (drop_step servers i s c.loop-server-test.true c.server-item.is) in
    omega (arith, fits)
