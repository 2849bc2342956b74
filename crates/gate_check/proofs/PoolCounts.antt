-- A tree has no more pools from which an operation takes than routes.
use Rattle.std.proofs.Common.{ℕ, ◌+◌, ◌≤◌, Bool, true, false, cond, ◌&&◌, ◌||◌, List, [], ◌∷◌, ◌++◌, length, length-append, Option, Some, None, ap, arith}
use Rattle.mc_types.specs.declared.ask.Op.{Op}
use Rattle.mc_types.specs.declared.ask.Op.TheVariants.{Get, Gat, Incr, Decr}
use Rattle.route_tree.specs.Operation.{same_op}
use Rattle.route_tree.specs.Route.{Route, Routes, Policies, Prefixes, Pool, Server, Null, Failing, AllSync, Failover, MissFailover, WarmUp, ByOperation, ByPrefix, End, More, Otherwise, Policy, Wildcard, Prefix, count, count_of_all, count_of_policies, count_of_prefixes}
use Rattle.route_tree.specs.At.{begins, is_longer, plain_for, plain_for_all}
use Rattle.route_tree.specs.Chosen.{chosen}
use Rattle.gate_coverage.specs.Computed.{asks_get, can_fail, hits_each, adds}
use Rattle.gate_coverage.specs.Pools.{shown_pools, pools_of_each, pools_of_some, pools_of_first, pools_of_head, pools_of_policy, has_pool, with_pool, distinct_after, sought_pools, taken_pools}
use Rattle.gate_coverage.proofs.TakenPools.{pools_of_chosen}

one_or_none : (b : Bool) (p : List ℕ) → length (cond b (p ∷ []) []) ≤ 1
one_or_none true p = omega arith
one_or_none false p = omega arith

either_len : (b : Bool) (xs ys : List (List ℕ)) (n : ℕ) → length xs ≤ n → length ys ≤ n → length (cond b xs ys) ≤ n
either_len true xs ys n h k = h
either_len false xs ys n h k = k

none_len : (n : ℕ) → length {A = List ℕ} [] ≤ n
none_len n = omega arith

both_len : (xs ys : List (List ℕ)) (n m : ℕ) → length xs ≤ n → length ys ≤ m → length (xs ++ ys) ≤ n + m
both_len xs ys n m h k = let e = length-append xs ys in omega (arith, e, h, k)

module _ (text : List ℕ) (op : Op) where
  abbrev BestLen : (sh co : Bool) → Option (List ℕ × Route) → ℕ → Type 0
  BestLen sh co None n = Unit {0}
  BestLen sh co (Some best) n = length (shown_pools text op sh co best.1) ≤ n

  best_len : (sh co b : Bool) (p : List ℕ) (r : Route) (best : Option (List ℕ × Route)) (n : ℕ) → length (shown_pools text op sh co r) ≤ count r → BestLen sh co best n → BestLen sh co (cond b (Some (p, r)) best) (count r + n)
  best_len sh co true p r best n h k = omega (arith, h)
  best_len sh co false p r None n h k = tt
  best_len sh co false p r (Some best) n h k = omega (arith, k)

  mutual
    pools_len : (r : Route) (sh co : Bool) → length (shown_pools text op sh co r) ≤ count r
    pools_len (Pool servers) sh co = one_or_none sh servers
    pools_len (Server s) sh co = one_or_none sh (s ∷ [])
    pools_len Null sh co = omega arith
    pools_len Failing sh co = omega arith
    pools_len (AllSync rs) sh co = let h = each_len rs sh co in omega (arith, h)
    pools_len (Failover rs) sh co = let h = first_len rs sh co in omega (arith, h)
    pools_len (MissFailover rs) sh co =
        let h = either_len (asks_get op) (pools_of_some text op sh co rs) (pools_of_head text op sh co rs) (count_of_all rs) (some_len rs sh co) (head_len rs sh co) in
        omega (arith, h)
    pools_len (WarmUp cold warm e) sh co =
        let sh2 = sh || (co && adds (plain_for 0 text cold)) in
        let w = either_len (asks_get op) (shown_pools text op sh2 co warm) [] (count warm) (pools_len warm sh2 co) (none_len (count warm)) in
        let h = both_len (shown_pools text op sh co cold) (cond (asks_get op) (shown_pools text op sh2 co warm) []) (count cold) (count warm) (pools_len cold sh co) w in
        omega (arith, h)
    pools_len (ByOperation ps) sh co = let h = policy_len ps sh co in omega (arith, h)
    pools_len (ByPrefix ps) sh co =
        let h = chosen_len ps sh co None 0 tt in
        let e = ap (λ (l : List (List ℕ)). length l) (pools_of_chosen text op sh co ps) in
        omega (arith, h, e)

    each_len : (rs : Routes) (sh co : Bool) → length (pools_of_each text op sh co rs) ≤ count_of_all rs
    each_len End sh co = omega arith
    each_len (More r rs) sh co =
        let sh2 = sh && hits_each op (plain_for_all 0 text rs) in
        both_len (shown_pools text op sh2 co r) (pools_of_some text op false co rs) (count r) (count_of_all rs) (pools_len r sh2 co) (some_len rs false co)

    some_len : (rs : Routes) (sh co : Bool) → length (pools_of_some text op sh co rs) ≤ count_of_all rs
    some_len End sh co = omega arith
    some_len (More r rs) sh co = both_len (shown_pools text op sh co r) (pools_of_some text op sh co rs) (count r) (count_of_all rs) (pools_len r sh co) (some_len rs sh co)

    first_len : (rs : Routes) (sh co : Bool) → length (pools_of_first text op sh co rs) ≤ count_of_all rs
    first_len End sh co = omega arith
    first_len (More r rs) sh co =
        both_len (shown_pools text op sh co r) (cond (can_fail op (plain_for 0 text r)) (pools_of_first text op sh co rs) []) (count r) (count_of_all rs) (pools_len r sh co)
        (either_len (can_fail op (plain_for 0 text r)) (pools_of_first text op sh co rs) [] (count_of_all rs) (first_len rs sh co) (none_len (count_of_all rs)))

    head_len : (rs : Routes) (sh co : Bool) → length (pools_of_head text op sh co rs) ≤ count_of_all rs
    head_len End sh co = omega arith
    head_len (More r rs) sh co = let h = pools_len r sh co in omega (arith, h)

    policy_len : (ps : Policies) (sh co : Bool) → length (pools_of_policy text op sh co ps) ≤ count_of_policies ps
    policy_len (Otherwise r) sh co = pools_len r sh co
    policy_len (Policy o r ps) sh co =
        let h = pools_len r sh co in
        let k = policy_len ps sh co in
        either_len (same_op o op) (shown_pools text op sh co r) (pools_of_policy text op sh co ps) (count r + count_of_policies ps) (omega (arith, h)) (omega (arith, k))

    chosen_len : (ps : Prefixes) (sh co : Bool) (best : Option (List ℕ × Route)) (n : ℕ) → BestLen sh co best n → length (shown_pools text op sh co (chosen text ps best)) ≤ count_of_prefixes ps + n
    chosen_len (Wildcard r) sh co None n h = let k = pools_len r sh co in omega (arith, k)
    chosen_len (Wildcard r) sh co (Some best) n h = omega (arith, h)
    chosen_len (Prefix p r ps) sh co best n h =
        let k = chosen_len ps sh co (cond (begins p text && is_longer p best) (Some (p, r)) best) (count r + n) (best_len sh co (begins p text && is_longer p best) p r best n (pools_len r sh co) h) in
        omega (arith, k)

with_len : (pools : List (List ℕ)) (p : List ℕ) (n : ℕ) → length pools ≤ n → length (with_pool pools p) ≤ n + 1
with_len pools p n h =
    let e = length-append pools (p ∷ []) in
    either_len (has_pool pools p) pools (pools ++ p ∷ []) (n + 1) (omega (arith, h)) (omega (arith, h, e))

distinct_len : (pools ps : List (List ℕ)) (n : ℕ) → length pools ≤ n → length (distinct_after pools ps) ≤ n + length ps
distinct_len pools [] n h = omega (arith, h)
distinct_len pools (p ∷ ps) n h = let k = distinct_len (with_pool pools p) ps (n + 1) (with_len pools p n h) in omega (arith, k)

-- the pools from which some operation takes are few
pub few_pools : (text : List ℕ) (tree : Route) → count tree ≤ 4096 → length (taken_pools text tree) ≤ 16384
few_pools text tree many =
    let a = shown_pools text Get true true tree in
    let b = shown_pools text Gat true false tree in
    let c = shown_pools text Incr true false tree in
    let d = shown_pools text Decr true false tree in
    let n = count tree in
    let h = both_len (a ++ b ++ c) d (n + n + n) n (both_len (a ++ b) c (n + n) n (both_len a b n n (pools_len text Get tree true true) (pools_len text Gat tree true false)) (pools_len text Incr tree true false)) (pools_len text Decr tree true false) in
    let k = distinct_len [] (sought_pools text tree) 0 (none_len 0) in
    omega (arith, h, k, many)
