use Rattle.std.proofs.Common.{◌∙◌, ◌+◌, [], ◌∷◌, ap, length, length-append, drop}
use Rattle.route_tree.specs.Route.{Server}
use Rattle.route_json.specs.Routes.{leaf}
use Rattle.route_json.proofs.Each.{drop_step}
use Rattle.route_json.proofs.Fitting.{reads_go}
use Rattle.route_json.proofs.Numbers.{server_at_below}
use Rattle.route_json.proofs.leaf.each_server.Goals as goal

pub loop-server-preserved : goal.loop-server-preserved
loop-server-preserved c =
    let b = length c.args.pools.now.1 in
    let i = c.loop-server.server-index in
    let s = c.server-item.result in
    let tree = c.in_ok-server_leaf.field-0 in (
      reads_go (λ x. leaf c.args.below.levels c.args.below.weight (Server x.server)) _ b c.args.below.levels c.args.below.weight c.args.count.now.routes (drop i c.args.servers.now) (drop (i + 1) c.args.servers.now) s tree tree c.loop-server.trees.items c.push.new.self.items c.loop-server.trees.items c.push.new.self.items c.loop-server.count.routes c.server_leaf.new.count.routes c.loop-server.invariant.0 (drop_step c.args.servers.now i s c.loop-server-test.true c.server-item.is) c.in_ok-server_leaf.ensures.gives c.in_ok-push.ensures.items c.in_ok-push.ensures.items (c.in_ok-server_leaf.ensures.fits b (server_at_below b c.args.servers.now i s c.requires.weighted c.loop-server-test.true c.server-item.is)) c.server_leaf.new.count.few,
      ap length c.in_ok-push.ensures.items ∙ length-append c.loop-server.trees.items (tree ∷ []) ∙ ap (λ n. n + 1) c.loop-server.invariant.1,
    )
