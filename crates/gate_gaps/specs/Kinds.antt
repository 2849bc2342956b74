-- The names of routes by their kinds. Source: mcrouter's names.
use Rattle.std.specs.Prelude.{ℕ, List, codes}
use Rattle.route_tree.specs.Route.{Route, Pool, Server, Null, Failing, AllSync, Failover, MissFailover, WarmUp, ByOperation, ByPrefix}

unfoldable pub kind_name : Route → List ℕ
kind_name (Pool servers) = codes "PoolRoute"
kind_name (Server s) = codes "Server"
kind_name Null = codes "NullRoute"
kind_name Failing = codes "ErrorRoute"
kind_name (AllSync rs) = codes "AllSyncRoute"
kind_name (Failover rs) = codes "FailoverRoute"
kind_name (MissFailover rs) = codes "MissFailoverRoute"
kind_name (WarmUp cold warm e) = codes "WarmUpRoute"
kind_name (ByOperation ps) = codes "OperationSelectorRoute"
kind_name (ByPrefix ps) = codes "PrefixSelectorRoute"
