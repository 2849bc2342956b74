-- Where the servers of a direct tree's keys are. Source: mcgate's own.
use Rattle.std.specs.Prelude.{◌≡◌, ℕ, ◌<◌, true, List}
use Rattle.route_tree.specs.Route.{Route, IsTree}
use Rattle.route_tree.specs.Direct.{is_direct, server_at}
use Rattle.route_json.specs.Fits.{IsBelow}

-- Where a direct tree names only servers below a bound, the server of each key is below it.
abbrev pub DirectServersAreBelow : Type 0
DirectServersAreBelow =
    (bound : ℕ) (tree : Route) (key : List ℕ) → is_direct tree ≡ true → IsTree tree → IsBelow bound tree → server_at tree key < bound
