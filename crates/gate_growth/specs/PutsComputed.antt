-- On which servers an operation stores, computed part by part: each call may be answered anything that fits, so parts combine freely.
use Rattle.std.specs.Prelude.{ℕ, Bool, false, ◌&&◌, ◌||◌, not, nat_eq, if◌then◌else◌}
use Rattle.mc_types.specs.declared.ask.Op.{Op}
use Rattle.mc_types.specs.declared.ask.Op.TheVariants.{Get, Set, Add, Replace, Cas}
use Rattle.route_tree.specs.Operation.{same_op}
use Rattle.route_tree.specs.Plan.{Plan, Plans, PlanPolicies, Server, Null, Failing, AllSync, Failover, MissFailover, WarmUp, ByOperation, End, More, Otherwise, Policy}
use Rattle.gate_coverage.specs.Computed.{asks_get, can_fail, hits}

-- Of a store: it can ask the server. Of a get: it can add a copy there.
abbrev mutual
  pub may_store : Op → ℕ → Plan → Bool
  may_store op s (Server t) = not (asks_get op) && nat_eq t s
  may_store op s Null = false
  may_store op s Failing = false
  may_store op s (AllSync ps) = stores_some op s ps
  may_store op s (Failover ps) = may_store_first op s ps
  may_store op s (MissFailover ps) = if asks_get op then stores_some op s ps else stores_head op s ps
  may_store op s (WarmUp cold warm e) = may_store op s cold || (asks_get op && (may_store Get s warm || (hits Get warm && may_store Add s cold)))
  may_store op s (ByOperation ps) = stores_policy op s ps

  pub stores_some : Op → ℕ → Plans → Bool
  stores_some op s End = false
  stores_some op s (More p ps) = may_store op s p || stores_some op s ps

  -- children up to one that doesn't fail
  pub may_store_first : Op → ℕ → Plans → Bool
  may_store_first op s End = false
  may_store_first op s (More p ps) = may_store op s p || (can_fail op p && may_store_first op s ps)

  pub stores_head : Op → ℕ → Plans → Bool
  stores_head op s End = false
  stores_head op s (More p ps) = may_store op s p

  pub stores_policy : Op → ℕ → PlanPolicies → Bool
  stores_policy op s (Otherwise p) = may_store op s p
  stores_policy op s (Policy o p rest) = if same_op o op then may_store op s p else stores_policy op s rest

-- a get through a cold and a warm side stores through the warm one, or adds to the cold one what the warm one hits
abbrev pub refills : ℕ → Plan → Plan → Bool
refills s cold warm = may_store Get s warm || (hits Get warm && may_store Add s cold)

-- some operation stores on the server
abbrev pub puts : Plan → ℕ → Bool
puts plain s = may_store Set s plain || may_store Add s plain || may_store Replace s plain || may_store Cas s plain || may_store Get s plain
