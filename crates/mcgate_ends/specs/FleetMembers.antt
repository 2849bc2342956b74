-- What a proxy that is one of a fleet may run by. Source: mcgate's own.
use Rattle.std.specs.Prelude.{◌≡◌, ℕ, List, [], ◌∷◌, Option, Some, None}
use Rattle.route_tree.specs.Route.{Route}
use Rattle.route_json.specs.Configuration.{Configuration}
use Rattle.core_accepted.specs.Copying.{CopiesNothing}
use Rattle.core_accepted.specs.FleetGate.{AreSideBySide}

-- status 1: by the tree a get may copy; else by none does one, and nothing was written
abbrev pub MayJoinFleet : Route → (old new : Option (List ℕ)) → Option ℕ → Type 0
MayJoinFleet tree old new None = CopiesNothing tree × (new ≡ old)
MayJoinFleet tree old new (Some status) = status ≡ 1

-- proxies may run by both configurations at the same time: each clears what it and the other take, and by neither a get copies
abbrev pub StandBeside : (in_use config : Configuration) → Type 0
StandBeside in_use config = AreSideBySide (in_use.tree ∷ config.tree ∷ [])
