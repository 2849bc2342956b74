-- Whether an operation that isn't a get can ask a server, computed part by part. Of an add it is what `adds` says.
use Rattle.std.specs.Prelude.{Bool, true, false, ◌&&◌, ◌||◌, if◌then◌else◌}
use Rattle.mc_types.specs.declared.ask.Op.{Op}
use Rattle.route_tree.specs.Operation.{same_op}
use Rattle.route_tree.specs.Plan.{Plan, Plans, PlanPolicies, Server, Null, Failing, AllSync, Failover, MissFailover, WarmUp, ByOperation, End, More, Otherwise, Policy}
use Rattle.gate_coverage.specs.Computed.{asks_get, can_fail}

module _ (op : Op) where
  abbrev mutual
    pub asks : Plan → Bool
    asks (Server t) = true
    asks Null = false
    asks Failing = false
    asks (AllSync ps) = asks_some ps
    asks (Failover ps) = asks_first ps
    asks (MissFailover ps) = if asks_get op then asks_some ps else asks_head ps
    asks (WarmUp cold warm e) = asks cold
    asks (ByOperation ps) = asks_policy ps

    pub asks_some : Plans → Bool
    asks_some End = false
    asks_some (More p ps) = asks p || asks_some ps

    pub asks_first : Plans → Bool
    asks_first End = false
    asks_first (More p ps) = asks p || (can_fail op p && asks_first ps)

    pub asks_head : Plans → Bool
    asks_head End = false
    asks_head (More p ps) = asks p

    pub asks_policy : PlanPolicies → Bool
    asks_policy (Otherwise p) = asks p
    asks_policy (Policy o p rest) = if same_op o op then asks p else asks_policy rest
