-- The servers that a plain tree has for an operation, in its order; what a warm-up adds for a get is an operation of its own. Source: mcgate's own: a failover of misses and a warm-up go on from one child to the next for a get alone.
use Rattle.std.specs.Prelude.{ℕ, List, [], ◌∷◌, ◌++◌, if◌then◌else◌}
use Rattle.mc_types.specs.declared.ask.Op.{Op}
use Rattle.route_tree.specs.Operation.{same_op}
use Rattle.route_tree.specs.Plan.{Plan, Plans, PlanPolicies, Server, Null, Failing, AllSync, Failover, MissFailover, WarmUp, ByOperation, End, More, Otherwise, Policy}
use Rattle.gate_coverage.specs.Computed.{asks_get}

module _ (op : Op) where
  abbrev mutual
    pub servers_asked : Plan → List ℕ
    servers_asked (Server s) = s ∷ []
    servers_asked Null = []
    servers_asked Failing = []
    servers_asked (AllSync ps) = asked_of_all ps
    servers_asked (Failover ps) = asked_of_all ps
    servers_asked (MissFailover ps) = if asks_get op then asked_of_all ps else asked_of_head ps
    servers_asked (WarmUp cold warm e) = if asks_get op then servers_asked cold ++ servers_asked warm else servers_asked cold
    servers_asked (ByOperation ps) = servers_asked_by ps

    pub asked_of_all : Plans → List ℕ
    asked_of_all End = []
    asked_of_all (More p ps) = servers_asked p ++ asked_of_all ps

    pub asked_of_head : Plans → List ℕ
    asked_of_head End = []
    asked_of_head (More p ps) = servers_asked p

    -- the child of the operation, else the default
    pub servers_asked_by : PlanPolicies → List ℕ
    servers_asked_by (Otherwise p) = servers_asked p
    servers_asked_by (Policy o p ps) = if same_op o op then servers_asked p else servers_asked_by ps
