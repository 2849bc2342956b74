use Rattle.std.proofs.Common.{◌∙◌, List, Result, ap, sym}
use Rattle.route_tree.specs.Route.{Server}
use Rattle.route_json.specs.declared.pools.WeightedServer.{WeightedServer}
use Rattle.route_json.specs.Fault.{Fault}
use Rattle.route_json.specs.Pools.{Slotted}
use Rattle.route_json.specs.Reading.{then_read, pure, each}
use Rattle.route_json.specs.Routes.{leaf}
use Rattle.route_json.proofs.Gives.{gives_too}
use Rattle.route_json.proofs.leaf.server_routes.Goals as goal

pub returns-clause-gives : goal.returns-clause-gives
returns-clause-gives c =
    let n = c.args.count.now.routes in
    let routes = λ (xs : List WeightedServer). each (λ s. leaf c.args.below.levels c.args.below.weight (Server s.server)) xs in
    gives_too _ c.each_server.result (routes c.deref.result.now n) _
    (ap (λ (xs : List WeightedServer). routes xs n) c.deref.ensures.value ∙ sym (ap (λ (q : Result Slotted Fault). then_read (pure q n) (λ p. routes p.servers)) c.in_ok-pool.ensures.gives))
    c.each_server.ensures.gives
