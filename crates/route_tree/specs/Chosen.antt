-- The route that a selector by prefix goes on with.
use Rattle.std.specs.Prelude.{ℕ, ◌&&◌, List, Option, Some, if◌then◌else◌}
use Rattle.route_tree.specs.At.{begins, is_longer, best_or}
use Rattle.route_tree.specs.Route.{Route, Prefixes, Wildcard, Prefix}

-- the longest policy that begins the text, with the longest so far, else the wildcard
abbrev pub chosen : List ℕ → Prefixes → Option (List ℕ × Route) → Route
chosen text (Wildcard r) best = best_or r best
chosen text (Prefix p r ps) best = chosen text ps (if begins p text && is_longer p best then Some (p, r) else best)
