-- By which rule the commands of a served tree share a key. Source: mcgate's own.
use Rattle.std.specs.Prelude.{Bool, true, false, ◌||◌, if◌then◌else◌}
use Rattle.core_commands.specs.declared.sharing.Sharing.{Sharing}
use Rattle.core_commands.specs.declared.sharing.Sharing.TheVariants.{Alone, Shared}
use Rattle.route_tree.specs.Route.{Route, Routes, Policies, Prefixes, Pool, Server, Null, Failing, AllSync, Failover, MissFailover, WarmUp, ByOperation, ByPrefix, End, More, Otherwise, Policy, Wildcard, Prefix}

abbrev mutual
  -- a route of the tree is a warm-up
  pub has_warm_up : Route → Bool
  has_warm_up (Pool servers) = false
  has_warm_up (Server s) = false
  has_warm_up Null = false
  has_warm_up Failing = false
  has_warm_up (AllSync rs) = have_warm_up rs
  has_warm_up (Failover rs) = have_warm_up rs
  has_warm_up (MissFailover rs) = have_warm_up rs
  has_warm_up (WarmUp cold warm e) = true
  has_warm_up (ByOperation ps) = policies_have_warm_up ps
  has_warm_up (ByPrefix ps) = prefixes_have_warm_up ps

  -- one of these children has a warm-up
  pub have_warm_up : Routes → Bool
  have_warm_up End = false
  have_warm_up (More r rs) = has_warm_up r || have_warm_up rs

  -- one of these policies by operation has a warm-up
  pub policies_have_warm_up : Policies → Bool
  policies_have_warm_up (Otherwise r) = has_warm_up r
  policies_have_warm_up (Policy op r ps) = has_warm_up r || policies_have_warm_up ps

  -- one of these policies by prefix has a warm-up
  pub prefixes_have_warm_up : Prefixes → Bool
  prefixes_have_warm_up (Wildcard r) = has_warm_up r
  prefixes_have_warm_up (Prefix text r ps) = has_warm_up r || prefixes_have_warm_up ps

-- each command has its key alone where a route is a warm-up, and else all but deletes and copies share it
abbrev pub sharing_for : Route → Sharing
sharing_for tree = if has_warm_up tree then Alone else Shared
