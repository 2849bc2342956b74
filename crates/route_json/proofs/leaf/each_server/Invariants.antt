use Rattle.std.proofs.Common.{◌≡◌, drop, length}
use Rattle.route_tree.specs.Route.{Server}
use Rattle.route_json.specs.Reading.{each}
use Rattle.route_json.specs.Routes.{leaf}
use Rattle.route_json.proofs.Fitting.{Reads}
use Rattle.route_json.proofs.leaf.each_server.Given as goal

abbrev pub invariant-loop-server : goal.invariant-loop-server
invariant-loop-server l = Reads (λ s. leaf l.fn.below.levels l.fn.below.weight (Server s.server)) (each (λ s. leaf l.fn.below.levels l.fn.below.weight (Server s.server)) l.servers l.initial.count.routes) (length l.pools.1) l.fn.below.levels l.fn.below.weight l.initial.count.routes (drop l.server-index l.servers) l.trees.items l.trees.items l.count.routes × (length l.trees.items ≡ l.server-index)
