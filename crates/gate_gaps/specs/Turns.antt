-- How many calls fail, where all but one do, before the one that acknowledges a delete, or that shows an item. Source: mcgate's own.
use Rattle.std.specs.Prelude.{ℕ, ◌+◌, Option, Some, None, if◌then◌else◌, nat_eq}
use Rattle.mc_types.specs.declared.ask.Op.{Op}
use Rattle.mc_types.specs.declared.ask.Op.TheVariants.{Delete}
use Rattle.route_tree.specs.Operation.{same_op}
use Rattle.route_tree.specs.Plan.{Plan, Plans, PlanPolicies, Server, Null, Failing, AllSync, Failover, MissFailover, WarmUp, ByOperation, End, More, Otherwise, Policy}
use Rattle.gate_coverage.specs.Computed.{asks_get, can_fail}

-- the first that is there
abbrev pub or_that : Option ℕ → Option ℕ → Option ℕ
or_that (Some n) other = Some n
or_that None other = other

-- the number counted after so many others, if there is one
abbrev pub counted_after : ℕ → Option ℕ → Option ℕ
counted_after n None = None
counted_after n (Some m) = Some (n + m)

module _ (op : Op) where
  abbrev mutual
    -- how many calls are made where each of them fails
    pub tries : Plan → ℕ
    tries (Server t) = 1
    tries Null = 0
    tries Failing = 0
    tries (AllSync ps) = tries_all ps
    tries (Failover ps) = tries_first ps
    tries (MissFailover ps) = if asks_get op then tries_all ps else tries_head ps
    tries (WarmUp cold warm e) = if asks_get op then tries cold + tries warm else tries cold
    tries (ByOperation ps) = tries_policy ps

    pub tries_all : Plans → ℕ
    tries_all End = 0
    tries_all (More p ps) = tries p + tries_all ps

    pub tries_first : Plans → ℕ
    tries_first End = 0
    tries_first (More p ps) = if can_fail op p then tries p + tries_first ps else tries p

    pub tries_head : Plans → ℕ
    tries_head End = 0
    tries_head (More p ps) = tries p

    pub tries_policy : PlanPolicies → ℕ
    tries_policy (Otherwise p) = tries p
    tries_policy (Policy o p rest) = if same_op o op then tries p else tries_policy rest

module _ (s : ℕ) where
  abbrev mutual
    -- how many calls of a delete fail before it is acknowledged by another server, or by a null route
    pub acks : Plan → Option ℕ
    acks (Server t) = if nat_eq t s then None else Some 0
    acks Null = Some 0
    acks Failing = None
    acks (AllSync ps) = None
    acks (Failover ps) = acks_first ps
    acks (MissFailover ps) = acks_head ps
    acks (WarmUp cold warm e) = acks cold
    acks (ByOperation ps) = acks_policy ps

    pub acks_first : Plans → Option ℕ
    acks_first End = None
    acks_first (More p ps) = or_that (acks p) (if can_fail Delete p then counted_after (tries Delete p) (acks_first ps) else None)

    pub acks_head : Plans → Option ℕ
    acks_head End = None
    acks_head (More p ps) = acks p

    pub acks_policy : PlanPolicies → Option ℕ
    acks_policy (Otherwise p) = acks p
    acks_policy (Policy o p rest) = if same_op o Delete then acks p else acks_policy rest

module _ (op : Op) (s : ℕ) where
  abbrev mutual
    -- how many calls of a read fail before it shows the server's item
    pub calls_before_found : Plan → Option ℕ
    calls_before_found (Server t) = if nat_eq t s then Some 0 else None
    calls_before_found Null = None
    calls_before_found Failing = None
    calls_before_found (AllSync ps) = None
    calls_before_found (Failover ps) = finds_first ps
    calls_before_found (MissFailover ps) = if asks_get op then finds_some ps else finds_head ps
    calls_before_found (WarmUp cold warm e) = if asks_get op then None else calls_before_found cold
    calls_before_found (ByOperation ps) = finds_policy ps

    pub finds_first : Plans → Option ℕ
    finds_first End = None
    finds_first (More p ps) = or_that (calls_before_found p) (if can_fail op p then counted_after (tries op p) (finds_first ps) else None)

    pub finds_some : Plans → Option ℕ
    finds_some End = None
    finds_some (More p ps) = or_that (calls_before_found p) (counted_after (tries op p) (finds_some ps))

    pub finds_head : Plans → Option ℕ
    finds_head End = None
    finds_head (More p ps) = calls_before_found p

    pub finds_policy : PlanPolicies → Option ℕ
    finds_policy (Otherwise p) = calls_before_found p
    finds_policy (Policy o p rest) = if same_op o op then calls_before_found p else finds_policy rest
