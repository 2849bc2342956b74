-- Which pools a tree's deletes clear at every hash, as is seen where the same pools stand in the tree.
use Rattle.std.specs.Prelude.{ℕ, Bool, true, false, ◌&&◌, ◌||◌, not, List, [], ◌∷◌, ◌++◌, Option, Some, None, if◌then◌else◌}
use Rattle.std.specs.Str.{bytes_eq}
use Rattle.mc_types.specs.declared.ask.Op.TheVariants.{Delete}
use Rattle.route_tree.specs.Operation.{same_op}
use Rattle.route_tree.specs.Route.{Route, Routes, Policies, Prefixes, Pool, Server, Null, Failing, AllSync, Failover, MissFailover, WarmUp, ByOperation, ByPrefix, End, More, Otherwise, Policy, Wildcard, Prefix}
use Rattle.route_tree.specs.At.{begins, is_longer, best_or, plain_for}
use Rattle.gate_coverage.specs.Computed.{can_fail}

module _ (text : List ℕ) (pool : List ℕ) where
  abbrev mutual
    -- a delete may be acknowledged with the pool's server not cleared, where pools that differ are taken to differ at each hash
    pub doubts : Route → Bool
    doubts (Pool servers) = not (bytes_eq servers pool)
    doubts (Server s) = not (bytes_eq (s ∷ []) pool)
    doubts Null = true
    doubts Failing = false
    doubts (AllSync rs) = doubts_each rs
    doubts (Failover rs) = doubts_first rs
    doubts (MissFailover rs) = doubts_head rs
    doubts (WarmUp cold warm e) = doubts cold
    doubts (ByOperation ps) = doubts_policy ps
    doubts (ByPrefix ps) = doubts_prefixes ps None

    pub doubts_each : Routes → Bool
    doubts_each End = true
    doubts_each (More r rs) = doubts r && doubts_each rs

    pub doubts_first : Routes → Bool
    doubts_first End = false
    doubts_first (More r rs) = doubts r || (can_fail Delete (plain_for 0 text r) && doubts_first rs)

    pub doubts_head : Routes → Bool
    doubts_head End = false
    doubts_head (More r rs) = doubts r

    pub doubts_policy : Policies → Bool
    doubts_policy (Otherwise r) = doubts r
    doubts_policy (Policy o r ps) = if same_op o Delete then doubts r else doubts_policy ps

    -- whether the longest policy that begins the text doubts, with the longest so far, else the wildcard
    pub doubts_prefixes : Prefixes → Option (List ℕ × Bool) → Bool
    doubts_prefixes (Wildcard r) best = best_or (doubts r) best
    doubts_prefixes (Prefix p r ps) best = doubts_prefixes ps (if begins p text && is_longer p best then Some (p, doubts r) else best)

-- the pools with one more, where it isn't known to be cleared
abbrev pub with_doubted : List ℕ → Route → List (List ℕ) → List ℕ → List (List ℕ)
with_doubted text tree pools p = if doubts text p tree then pools ++ p ∷ [] else pools

-- of these pools those that aren't known to be cleared
abbrev pub doubted_pools : List ℕ → Route → List (List ℕ) → List (List ℕ)
doubted_pools text tree [] = []
doubted_pools text tree (p ∷ ps) = if doubts text p tree then p ∷ doubted_pools text tree ps else doubted_pools text tree ps
