-- Children of a route, from one of them on.
use Rattle.std.specs.Prelude.{◌≡◌, ℕ, zero, suc, Option, Some, None}
use Rattle.route_tree.specs.Route.{Route, Routes, Pool, Server, Null, Failing, AllSync, Failover, MissFailover, WarmUp, ByOperation, ByPrefix, End, More}

-- the children that a route asks in order
abbrev pub child_routes : Route → Routes
child_routes (Pool servers) = End
child_routes (Server s) = End
child_routes Null = End
child_routes Failing = End
child_routes (AllSync rs) = rs
child_routes (Failover rs) = rs
child_routes (MissFailover rs) = rs
child_routes (WarmUp cold warm e) = End
child_routes (ByOperation ps) = End
child_routes (ByPrefix ps) = End

-- all but so many first ones
abbrev pub routes_after : ℕ → Routes → Routes
routes_after zero rs = rs
routes_after (suc n) End = End
routes_after (suc n) (More r rs) = routes_after n rs

-- the first child and the others, where there is one
abbrev pub PartsAs : Routes → Option (Route × Routes) → Type 0
PartsAs rs None = rs ≡ End
PartsAs rs (Some parts) = rs ≡ More parts.0 parts.1
