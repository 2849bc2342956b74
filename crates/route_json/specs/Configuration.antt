-- A tree of routes and the servers that it may name.
use Rattle.std.specs.Prelude.{refl}
use Rattle.std.specs.Coded.{Coded, code_by, coded×, coded_list, coded_ℕ}
use Rattle.route_tree.specs.Route.{Route}
use Rattle.route_tree.specs.RouteCode.{route_code}
use Rattle.route_json.specs.Servers.{Addresses}

-- what a configuration means
pub record Configuration : Type 0 where
  pub tree : Route
  pub servers : Addresses

-- a configuration is stored as the pair of its fields
abbrev pub configuration_code : Coded Configuration
configuration_code = code_by (Route × Addresses) (coded× route_code (coded_list (coded_list coded_ℕ))) (λ c. (c.tree, c.servers)) (λ p. record { tree = p.0; servers = p.1 }) (λ _. refl)
