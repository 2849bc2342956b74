-- From which pools of a tree the replies to an operation are taken, and from which they are copied: the same ones for each hash.
use Rattle.std.specs.Prelude.{ℕ, ◌%◌, Bool, true, false, ◌&&◌, ◌||◌, List, [], ◌∷◌, ◌++◌, length, slice_index, nat_eq, Option, Some, None, if◌then◌else◌}
use Rattle.std.specs.Str.{bytes_eq}
use Rattle.mc_types.specs.declared.ask.Op.{Op}
use Rattle.mc_types.specs.declared.ask.Op.TheVariants.{Get, Gat, Incr, Decr}
use Rattle.route_tree.specs.Operation.{same_op}
use Rattle.route_tree.specs.Route.{Route, Routes, Policies, Prefixes, Pool, Server, Null, Failing, AllSync, Failover, MissFailover, WarmUp, ByOperation, ByPrefix, End, More, Otherwise, Policy, Wildcard, Prefix}
use Rattle.route_tree.specs.At.{begins, is_longer, best_or, plain_for, plain_for_all}
use Rattle.gate_coverage.specs.Computed.{asks_get, can_fail, hits_each, adds}

abbrev pub has : List ℕ → ℕ → Bool
has [] s = false
has (x ∷ xs) s = nat_eq x s || has xs s

-- of a pool the server at the hash modulo its size
abbrev pub pool_server_at : ℕ → List ℕ → ℕ
pool_server_at hash servers = slice_index servers (hash % length servers)

-- of each pool the server at the hash
abbrev pub servers_at : ℕ → List (List ℕ) → List ℕ
servers_at hash [] = []
servers_at hash (p ∷ ps) = pool_server_at hash p ∷ servers_at hash ps

module _ (text : List ℕ) (op : Op) where
  abbrev mutual
    -- the pools of which a reply shows an item (where that is asked), and those of which one is copied (likewise); a server that stands alone is a pool of one
    pub shown_pools : (shows copies : Bool) → Route → List (List ℕ)
    shown_pools shows copies (Pool servers) = if shows then servers ∷ [] else []
    shown_pools shows copies (Server s) = if shows then (s ∷ []) ∷ [] else []
    shown_pools shows copies Null = []
    shown_pools shows copies Failing = []
    shown_pools shows copies (AllSync rs) = pools_of_each shows copies rs
    shown_pools shows copies (Failover rs) = pools_of_first shows copies rs
    shown_pools shows copies (MissFailover rs) = if asks_get op then pools_of_some shows copies rs else pools_of_head shows copies rs
    shown_pools shows copies (WarmUp cold warm e) =
        shown_pools shows copies cold ++ (if asks_get op then shown_pools (shows || (copies && adds (plain_for 0 text cold))) copies warm else [])
    shown_pools shows copies (ByOperation ps) = pools_of_policy shows copies ps
    shown_pools shows copies (ByPrefix ps) = pools_of_prefixes shows copies ps None

    -- of equal ranks the first is the reply
    pub pools_of_each : (shows copies : Bool) → Routes → List (List ℕ)
    pools_of_each shows copies End = []
    pools_of_each shows copies (More r rs) = shown_pools (shows && hits_each op (plain_for_all 0 text rs)) copies r ++ pools_of_some false copies rs

    pub pools_of_some : (shows copies : Bool) → Routes → List (List ℕ)
    pools_of_some shows copies End = []
    pools_of_some shows copies (More r rs) = shown_pools shows copies r ++ pools_of_some shows copies rs

    pub pools_of_first : (shows copies : Bool) → Routes → List (List ℕ)
    pools_of_first shows copies End = []
    pools_of_first shows copies (More r rs) = shown_pools shows copies r ++ (if can_fail op (plain_for 0 text r) then pools_of_first shows copies rs else [])

    pub pools_of_head : (shows copies : Bool) → Routes → List (List ℕ)
    pools_of_head shows copies End = []
    pools_of_head shows copies (More r rs) = shown_pools shows copies r

    pub pools_of_policy : (shows copies : Bool) → Policies → List (List ℕ)
    pools_of_policy shows copies (Otherwise r) = shown_pools shows copies r
    pools_of_policy shows copies (Policy o r ps) = if same_op o op then shown_pools shows copies r else pools_of_policy shows copies ps

    -- the pools of the longest policy that begins the text, with the longest so far, else of the wildcard
    pub pools_of_prefixes : (shows copies : Bool) → Prefixes → Option (List ℕ × List (List ℕ)) → List (List ℕ)
    pools_of_prefixes shows copies (Wildcard r) best = best_or (shown_pools shows copies r) best
    pools_of_prefixes shows copies (Prefix p r ps) best =
        pools_of_prefixes shows copies ps (if begins p text && is_longer p best then Some (p, shown_pools shows copies r) else best)

-- the pool is among the pools
abbrev pub has_pool : List (List ℕ) → List ℕ → Bool
has_pool [] pool = false
has_pool (p ∷ ps) pool = bytes_eq p pool || has_pool ps pool

-- the pools with one more, unless it is there
abbrev pub with_pool : List (List ℕ) → List ℕ → List (List ℕ)
with_pool pools pool = if has_pool pools pool then pools else pools ++ pool ∷ []

abbrev pub distinct_after : List (List ℕ) → List (List ℕ) → List (List ℕ)
distinct_after pools [] = pools
distinct_after pools (p ∷ ps) = distinct_after (with_pool pools p) ps

-- the pools from which some operation takes, with repetitions
abbrev pub sought_pools : List ℕ → Route → List (List ℕ)
sought_pools text tree =
    shown_pools text Get true true tree ++ shown_pools text Gat true false tree ++ shown_pools text Incr true false tree ++ shown_pools text Decr true false tree

-- the pools from which some operation takes, each once
abbrev pub taken_pools : List ℕ → Route → List (List ℕ)
taken_pools text tree = distinct_after [] (sought_pools text tree)
