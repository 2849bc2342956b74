-- Which children are drawn as one: runs of children whose trees are alike. Source: mcgate's own.
use Rattle.std.specs.Prelude.{ℕ, ◌+◌, ◌-◌, ◌==◌, ◌&&◌, Bool, true, false, nat_lt, if◌then◌else◌}
use Rattle.route_tree.specs.Operation.{same_op}
use Rattle.route_tree.specs.Route.{Route, Routes, Policies, Prefixes, Pool, Server, Null, Failing, AllSync, Failover, MissFailover, WarmUp, ByOperation, End, More, Otherwise, Policy, Wildcard, Prefix}
use Rattle.gate_picture.specs.declared.alike.Run.{Run}

abbrev mutual
  -- the trees are of one form, their pools and servers aside; selectors by prefix never are
  pub alike : Route → Route → Bool
  alike (Pool ss) (Pool ts) = true
  alike (Server s) (Server t) = true
  alike Null Null = true
  alike Failing Failing = true
  alike (AllSync rs) (AllSync ss) = all_alike rs ss
  alike (Failover rs) (Failover ss) = all_alike rs ss
  alike (MissFailover rs) (MissFailover ss) = all_alike rs ss
  alike (WarmUp c w e) (WarmUp d v f) = alike c d && alike w v
  alike (ByOperation ps) (ByOperation qs) = policies_alike ps qs
  alike _ _ = false

  pub all_alike : Routes → Routes → Bool
  all_alike End End = true
  all_alike End (More s ss) = false
  all_alike (More r rs) End = false
  all_alike (More r rs) (More s ss) = alike r s && all_alike rs ss

  pub policies_alike : Policies → Policies → Bool
  policies_alike (Otherwise r) (Otherwise s) = alike r s
  policies_alike (Otherwise r) (Policy o s qs) = false
  policies_alike (Policy op r ps) (Otherwise s) = false
  policies_alike (Policy op r ps) (Policy o s qs) = same_op op o && alike r s && policies_alike ps qs

-- how many children in a row are like the one before them
abbrev pub more_alike : Route → Routes → ℕ
more_alike first End = 0
more_alike first (More r rs) = if alike first r then 1 + more_alike first rs else 0

-- how many children by prefix in a row are like the one before them
abbrev pub more_prefixes_alike : Route → Prefixes → ℕ
more_prefixes_alike first (Wildcard r) = 0
more_prefixes_alike first (Prefix p r ps) = if alike first r then 1 + more_prefixes_alike first ps else 0

-- how many children that are like the first one its node stands for, too: none of fewer than 3
abbrev pub folded : ℕ → ℕ
folded more = if nat_lt more 3 then 0 else more

-- the run of the next child, which has this number
abbrev pub next_run : Run → ℕ → Route → Routes → Run
next_run run n r rs = if run.more == 0 then record { head = n; more = folded (more_alike r rs) } else record { head = run.head; more = run.more - 1 }

-- the run of the next child by prefix, which has this number
abbrev pub next_prefix_run : Run → ℕ → Route → Prefixes → Run
next_prefix_run run n r ps = if run.more == 0 then record { head = n; more = folded (more_prefixes_alike r ps) } else record { head = run.head; more = run.more - 1 }
