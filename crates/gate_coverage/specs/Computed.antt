-- What can come of an operation, computed part by part. Each call may be answered anything that fits, so parts combine freely.
use Rattle.std.specs.Prelude.{ℕ, Bool, true, false, ◌&&◌, ◌||◌, not, nat_eq, if◌then◌else◌}
use Rattle.mc_types.specs.declared.ask.Op.{Op}
use Rattle.mc_types.specs.declared.ask.Op.TheVariants.{Get, Gat, Add, Delete, Incr, Decr}
use Rattle.route_tree.specs.Operation.{same_op}
use Rattle.route_tree.specs.Plan.{Plan, Plans, PlanPolicies, Server, Null, Failing, AllSync, Failover, MissFailover, WarmUp, ByOperation, End, More, Otherwise, Policy}

abbrev pub asks_get : Op → Bool
asks_get op = same_op op Get

-- the operations whose replies show items
abbrev pub is_taking : Op → Bool
is_taking op = same_op op Get || same_op op Gat || same_op op Incr || same_op op Decr

module _ (op : Op) where
  abbrev mutual
    -- the reply can be the error of a server or a call: it is so where all calls fail
    pub can_fail : Plan → Bool
    can_fail (Server t) = true
    can_fail Null = false
    can_fail Failing = true
    can_fail (AllSync ps) = fails_some ps
    can_fail (Failover ps) = fails_each ps
    can_fail (MissFailover ps) = if asks_get op then fails_last ps else fails_head ps
    can_fail (WarmUp cold warm e) = can_fail cold
    can_fail (ByOperation ps) = fails_policy ps

    pub fails_some : Plans → Bool
    fails_some End = false
    fails_some (More p ps) = can_fail p || fails_some ps

    pub fails_each : Plans → Bool
    fails_each End = true
    fails_each (More p ps) = can_fail p && fails_each ps

    pub fails_last : Plans → Bool
    fails_last End = false
    fails_last (More p End) = can_fail p
    fails_last (More p (More q qs)) = fails_last (More q qs)

    pub fails_head : Plans → Bool
    fails_head End = false
    fails_head (More p ps) = can_fail p

    pub fails_policy : PlanPolicies → Bool
    fails_policy (Otherwise p) = can_fail p
    fails_policy (Policy o p rest) = if same_op o op then can_fail p else fails_policy rest

  abbrev mutual
    -- the reply can be a hit, or that it was done
    pub hits : Plan → Bool
    hits (Server t) = true
    hits Null = false
    hits Failing = false
    hits (AllSync ps) = hits_each ps
    hits (Failover ps) = hits_first ps
    hits (MissFailover ps) = if asks_get op then hits_some ps else hits_head ps
    hits (WarmUp cold warm e) = hits cold || (asks_get op && hits warm)
    hits (ByOperation ps) = hits_policy ps

    pub hits_each : Plans → Bool
    hits_each End = true
    hits_each (More p ps) = hits p && hits_each ps

    pub hits_first : Plans → Bool
    hits_first End = false
    hits_first (More p ps) = hits p || (can_fail p && hits_first ps)

    pub hits_some : Plans → Bool
    hits_some End = false
    hits_some (More p ps) = hits p || hits_some ps

    pub hits_head : Plans → Bool
    hits_head End = false
    hits_head (More p ps) = hits p

    pub hits_policy : PlanPolicies → Bool
    hits_policy (Otherwise p) = hits p
    hits_policy (Policy o p rest) = if same_op o op then hits p else hits_policy rest

  module _ (s : ℕ) where
    abbrev mutual
      -- the reply can be an item of the server
      pub shown : Plan → Bool
      shown (Server t) = nat_eq t s
      shown Null = false
      shown Failing = false
      shown (AllSync ps) = shown_each ps
      shown (Failover ps) = shown_first ps
      shown (MissFailover ps) = if asks_get op then shown_some ps else shown_head ps
      shown (WarmUp cold warm e) = shown cold || (asks_get op && shown warm)
      shown (ByOperation ps) = shown_policy ps

      -- of equal ranks the first is the reply
      pub shown_each : Plans → Bool
      shown_each End = false
      shown_each (More p ps) = shown p && hits_each ps

      pub shown_first : Plans → Bool
      shown_first End = false
      shown_first (More p ps) = shown p || (can_fail p && shown_first ps)

      pub shown_some : Plans → Bool
      shown_some End = false
      shown_some (More p ps) = shown p || shown_some ps

      pub shown_head : Plans → Bool
      shown_head End = false
      shown_head (More p ps) = shown p

      pub shown_policy : PlanPolicies → Bool
      shown_policy (Otherwise p) = shown p
      shown_policy (Policy o p rest) = if same_op o op then shown p else shown_policy rest

abbrev mutual
  -- an add can ask a server
  pub adds : Plan → Bool
  adds (Server t) = true
  adds Null = false
  adds Failing = false
  adds (AllSync ps) = adds_some ps
  adds (Failover ps) = adds_first ps
  adds (MissFailover ps) = adds_head ps
  adds (WarmUp cold warm e) = adds cold
  adds (ByOperation ps) = adds_policy ps

  pub adds_some : Plans → Bool
  adds_some End = false
  adds_some (More p ps) = adds p || adds_some ps

  pub adds_first : Plans → Bool
  adds_first End = false
  adds_first (More p ps) = adds p || (can_fail Add p && adds_first ps)

  pub adds_head : Plans → Bool
  adds_head End = false
  adds_head (More p ps) = adds p

  pub adds_policy : PlanPolicies → Bool
  adds_policy (Otherwise p) = adds p
  adds_policy (Policy o p rest) = if same_op o Add then adds p else adds_policy rest

module _ (op : Op) (s : ℕ) where
  abbrev mutual
    -- a get can copy an item of the server to another one
    pub copied : Plan → Bool
    copied (Server t) = false
    copied Null = false
    copied Failing = false
    copied (AllSync ps) = copied_some ps
    copied (Failover ps) = copied_first ps
    copied (MissFailover ps) = if asks_get op then copied_some ps else copied_head ps
    copied (WarmUp cold warm e) = copied cold || (asks_get op && (copied warm || (shown op s warm && adds cold)))
    copied (ByOperation ps) = copied_policy ps

    pub copied_some : Plans → Bool
    copied_some End = false
    copied_some (More p ps) = copied p || copied_some ps

    pub copied_first : Plans → Bool
    copied_first End = false
    copied_first (More p ps) = copied p || (can_fail op p && copied_first ps)

    pub copied_head : Plans → Bool
    copied_head End = false
    copied_head (More p ps) = copied p

    pub copied_policy : PlanPolicies → Bool
    copied_policy (Otherwise p) = copied p
    copied_policy (Policy o p rest) = if same_op o op then copied p else copied_policy rest

module _ (op : Op) (s : ℕ) where
  abbrev mutual
    -- a delete can be acknowledged with the server not cleared; this says nothing of another operation
    pub kept : Plan → Bool
    kept (Server t) = not (nat_eq t s)
    kept Null = true
    kept Failing = false
    kept (AllSync ps) = kept_each ps
    kept (Failover ps) = kept_first ps
    kept (MissFailover ps) = kept_head ps
    kept (WarmUp cold warm e) = kept cold
    kept (ByOperation ps) = kept_policy ps

    pub kept_each : Plans → Bool
    kept_each End = true
    kept_each (More p ps) = kept p && kept_each ps

    pub kept_first : Plans → Bool
    kept_first End = false
    kept_first (More p ps) = kept p || (can_fail op p && kept_first ps)

    pub kept_head : Plans → Bool
    kept_head End = false
    kept_head (More p ps) = kept p

    pub kept_policy : PlanPolicies → Bool
    kept_policy (Otherwise p) = kept p
    kept_policy (Policy o p rest) = if same_op o op then kept p else kept_policy rest

-- a read can show an item of the server, or copy it
abbrev pub takes_server : Plan → Op → ℕ → Bool
takes_server plain op s = is_taking op && (shown op s plain || (asks_get op && copied op s plain))

-- some operation takes the server
abbrev pub is_taken : Plan → ℕ → Bool
is_taken plain s = takes_server plain Get s || takes_server plain Gat s || takes_server plain Incr s || takes_server plain Decr s

-- no delete is acknowledged with the server not cleared, whichever of the two is asked
abbrev pub cleared : Plan → ℕ → Bool
cleared plain s = not (kept Delete s plain)
