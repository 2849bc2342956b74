-- The servers of the pools from which reads take, at a hash, are those that the plain tree of the hash takes.
use Rattle.std.specs.Str.{bytes_eq}
use Rattle.std.proofs.lemmas.Slice.Eq.{bytes_eq-Decides}
use Rattle.gate_coverage.proofs.Choices.{either_split}
use Rattle.std.proofs.Common.{◌≡◌, ℕ, ◌%◌, Bool, true, false, cond, ◌&&◌, ◌||◌, List, [], ◌∷◌, ◌++◌, nat_eq, Option, Some, None, refl, sym, ap, ap₂, ◌∙◌, arith, zero, suc, ◌+◌, ◌<◌, length, take, get_or, ⊎_elim, subst}
use Rattle.mc_types.specs.declared.ask.Op.{Op}
use Rattle.mc_types.specs.declared.ask.Op.TheVariants.{Get, Gat, Incr, Decr}
use Rattle.route_tree.specs.Operation.{same_op}
use Rattle.route_tree.specs.Route.{Route, Routes, Policies, Prefixes, Pool, Server, Null, Failing, AllSync, Failover, MissFailover, WarmUp, ByOperation, ByPrefix, End, More, Otherwise, Policy, Wildcard, Prefix}
use Rattle.route_tree.specs.At.{begins, is_longer, plain_for, plain_for_all, plain_for_policies}
use Rattle.route_tree.specs.Chosen.{chosen}
use Rattle.route_tree.proofs.PlainTrees.{plain_for_chosen}
use Rattle.gate_coverage.specs.Computed.{asks_get, takes_server, can_fail, hits_each, adds, shown, shown_each, shown_first, shown_some, shown_head, shown_policy, copied, copied_some, copied_first, copied_head, copied_policy, is_taken}
use Rattle.gate_coverage.specs.Pools.{has, pool_server_at, servers_at, shown_pools, pools_of_each, pools_of_some, pools_of_first, pools_of_head, pools_of_policy, pools_of_prefixes, has_pool, with_pool, distinct_after, sought_pools, taken_pools}
use Rattle.gate_coverage.proofs.SamePossible.{same, all_same}

pub has_append : (xs ys : List ℕ) (s : ℕ) → has (xs ++ ys) s ≡ (has xs s || has ys s)
has_append [] ys s = refl
has_append (x ∷ xs) ys s = ap (λ b. nat_eq x s || b) (has_append xs ys s) ∙ assoc (nat_eq x s) (has xs s) (has ys s)
  where
    assoc : (a b c : Bool) → (a || (b || c)) ≡ ((a || b) || c)
    assoc true b c = refl
    assoc false b c = refl

pub at_append : (hash : ℕ) (xs ys : List (List ℕ)) → servers_at hash (xs ++ ys) ≡ servers_at hash xs ++ servers_at hash ys
at_append hash [] ys = refl
at_append hash (x ∷ xs) ys = ap (λ l. pool_server_at hash x ∷ l) (at_append hash xs ys)

mod_one : (n : ℕ) → n % 1 ≡ 0
mod_one n = omega arith

-- ---- combining what is shown and what is copied

abbrev part : (shows copies s c : Bool) → Bool
part shows copies s c = (shows && s) || (copies && c)

none : (sh co : Bool) → false ≡ part sh co false false
none true true = refl
none true false = refl
none false true = refl
none false false = refl

or_false : (a : Bool) → (a || false) ≡ a
or_false true = refl
or_false false = refl

and_true : (a : Bool) → (a && true) ≡ a
and_true true = refl
and_true false = refl

and_false : (a : Bool) → (a && false) ≡ false
and_false true = refl
and_false false = refl

some_parts : (sh co s c x y : Bool) → (part sh co s c || part sh co x y) ≡ part sh co (s || x) (c || y)
some_parts true true true c x y = refl
some_parts true true false true true y = refl
some_parts true true false true false y = refl
some_parts true true false false x y = refl
some_parts true false true c x y = refl
some_parts true false false c x y = refl
some_parts false true s c x y = refl
some_parts false false s c x y = refl

each_parts : (sh co h s c x y : Bool) → (part (sh && h) co s c || part false co x y) ≡ part sh co (s && h) (c || y)
each_parts true true true true c x y = refl
each_parts true true true false c x y = refl
each_parts true true false true c x y = refl
each_parts true true false false c x y = refl
each_parts false true h s c x y = refl
each_parts true false true true c x y = refl
each_parts true false true false c x y = refl
each_parts true false false true c x y = refl
each_parts true false false false c x y = refl
each_parts false false h s c x y = refl

one_part : (sh co s c : Bool) → (part sh co s c || false) ≡ part sh co (s || false) (c || false)
one_part sh co s c = or_false (part sh co s c) ∙ ap₂ (part sh co) (sym (or_false s)) (sym (or_false c))

first_parts : (f sh co s c x y : Bool) → (part sh co s c || cond f (part sh co x y) false) ≡ part sh co (s || (f && x)) (c || (f && y))
first_parts true sh co s c x y = some_parts sh co s c x y
first_parts false sh co s c x y = one_part sh co s c

warm_parts : (g sh co s c a x y : Bool) → (part sh co s c || cond g (part (sh || (co && a)) co x y) false) ≡ part sh co (s || (g && x)) (c || (g && (y || (x && a))))
warm_parts false sh co s c a x y = one_part sh co s c
warm_parts true sh co s c a x y = warm sh co s c a x y
  where
    warm : (sh co s c a x y : Bool) → (part sh co s c || part (sh || (co && a)) co x y) ≡ part sh co (s || x) (c || (y || (x && a)))
    warm true true true c a x y = refl
    warm true true false true a true y = refl
    warm true true false true a false y = refl
    warm true true false false a true y = refl
    warm true true false false a false y = sym (or_false y)
    warm true false true c a x y = refl
    warm true false false c a x y = refl
    warm false true s true a x y = refl
    warm false true s false true true true = refl
    warm false true s false true true false = refl
    warm false true s false true false y = sym (or_false y)
    warm false true s false false x true = refl
    warm false true s false false x false = sym (and_false x)
    warm false false s c a x y = refl

module _ (text : List ℕ) (op : Op) where
  abbrev pools_best : (sh co : Bool) → Option (List ℕ × Route) → Option (List ℕ × List (List ℕ))
  pools_best sh co None = None
  pools_best sh co (Some best) = Some (best.0, shown_pools text op sh co best.1)

  best_of : (sh co b : Bool) (p : List ℕ) (r : Route) (best : Option (List ℕ × Route)) → cond b (Some (p, shown_pools text op sh co r)) (pools_best sh co best) ≡ pools_best sh co (cond b (Some (p, r)) best)
  best_of sh co true p r best = refl
  best_of sh co false p r best = refl

  same_longer : (sh co : Bool) (p : List ℕ) (best : Option (List ℕ × Route)) → is_longer p (pools_best sh co best) ≡ is_longer p best
  same_longer sh co p None = refl
  same_longer sh co p (Some best) = refl

  pools_of_best : (sh co : Bool) (ps : Prefixes) (best : Option (List ℕ × Route)) → pools_of_prefixes text op sh co ps (pools_best sh co best) ≡ shown_pools text op sh co (chosen text ps best)
  pools_of_best sh co (Wildcard r) None = refl
  pools_of_best sh co (Wildcard r) (Some best) = refl
  pools_of_best sh co (Prefix p r ps) best =
      ap (λ b. pools_of_prefixes text op sh co ps (cond (begins p text && b) (Some (p, shown_pools text op sh co r)) (pools_best sh co best))) (same_longer sh co p best)
      ∙ ap (pools_of_prefixes text op sh co ps) (best_of sh co (begins p text && is_longer p best) p r best)
      ∙ pools_of_best sh co ps (cond (begins p text && is_longer p best) (Some (p, r)) best)

  -- the pools of a selector are those of the route that it chooses
  pub pools_of_chosen : (sh co : Bool) (ps : Prefixes) → shown_pools text op sh co (ByPrefix ps) ≡ shown_pools text op sh co (chosen text ps None)
  pools_of_chosen sh co ps = pools_of_best sh co ps None

  module _ (hash s : ℕ) where
    abbrev there : List (List ℕ) → Bool
    there pools = has (servers_at hash pools) s

    there_append : (xs ys : List (List ℕ)) → there (xs ++ ys) ≡ (there xs || there ys)
    there_append xs ys = ap (λ l. has l s) (at_append hash xs ys) ∙ has_append (servers_at hash xs) (servers_at hash ys) s

    there_if : (b : Bool) (xs : List (List ℕ)) → there (cond b xs []) ≡ cond b (there xs) false
    there_if true xs = refl
    there_if false xs = refl

    one_pool : (sh co : Bool) (pool : List ℕ) → there (cond sh (pool ∷ []) []) ≡ part sh co (nat_eq (pool_server_at hash pool) s) false
    one_pool true true pool = refl
    one_pool true false pool = refl
    one_pool false true pool = refl
    one_pool false false pool = refl

    either_one : (g sh co : Bool) (xs ys : List (List ℕ)) (a b x y : Bool) → there xs ≡ part sh co a b → there ys ≡ part sh co x y → there (cond g xs ys) ≡ part sh co (cond g a x) (cond g b y)
    either_one true sh co xs ys a b x y h k = h
    either_one false sh co xs ys a b x y h k = k

    alone : (x : ℕ) → pool_server_at hash (x ∷ []) ≡ x
    alone x = rw (mod_one hash) refl

    abbrev IsThere : Route → Type 0
    IsThere r = (sh co : Bool) → there (shown_pools text op sh co r) ≡ part sh co (shown op s (plain_for hash text r)) (copied op s (plain_for hash text r))

    abbrev BestThere : Option (List ℕ × Route) → Type 0
    BestThere None = Unit {0}
    BestThere (Some best) = IsThere best.1

    best_there : (b : Bool) (p : List ℕ) (r : Route) (best : Option (List ℕ × Route)) → IsThere r → BestThere best → BestThere (cond b (Some (p, r)) best)
    best_there true p r best h k = h
    best_there false p r best h k = k

    mutual
      pub all_there : (r : Route) (sh co : Bool) → there (shown_pools text op sh co r) ≡ part sh co (shown op s (plain_for hash text r)) (copied op s (plain_for hash text r))
      all_there (Pool servers) sh co = one_pool sh co servers
      all_there (Server x) sh co = one_pool sh co (x ∷ []) ∙ ap (λ n. part sh co (nat_eq n s) false) (alone x)
      all_there Null sh co = none sh co
      all_there Failing sh co = none sh co
      all_there (AllSync rs) sh co = each_there rs sh co
      all_there (Failover rs) sh co = first_there rs sh co
      all_there (MissFailover rs) sh co = either_one (asks_get op) sh co (pools_of_some text op sh co rs) (pools_of_head text op sh co rs) (shown_some op s (plain_for_all hash text rs)) (copied_some op s (plain_for_all hash text rs)) (shown_head op s (plain_for_all hash text rs)) (copied_head op s (plain_for_all hash text rs)) (some_there rs sh co) (head_there rs sh co)
      all_there (WarmUp cold warm e) sh co =
          there_append (shown_pools text op sh co cold) (cond (asks_get op) (shown_pools text op (sh || (co && adds (plain_for 0 text cold))) co warm) [])
          ∙ ap₂ (λ x y. x || y) (all_there cold sh co) (there_if (asks_get op) (shown_pools text op (sh || (co && adds (plain_for 0 text cold))) co warm) ∙ ap (λ b. cond (asks_get op) b false) (all_there warm (sh || (co && adds (plain_for 0 text cold))) co))
          ∙ ap (λ a. part sh co (shown op s (plain_for hash text cold)) (copied op s (plain_for hash text cold)) || cond (asks_get op) (part (sh || (co && a)) co (shown op s (plain_for hash text warm)) (copied op s (plain_for hash text warm))) false) (same 0 hash text cold).adds_same
          ∙ warm_parts (asks_get op) sh co (shown op s (plain_for hash text cold)) (copied op s (plain_for hash text cold)) (adds (plain_for hash text cold)) (shown op s (plain_for hash text warm)) (copied op s (plain_for hash text warm))
      all_there (ByOperation ps) sh co = policy_there ps sh co
      all_there (ByPrefix ps) sh co =
          ap there (pools_of_chosen sh co ps) ∙ chosen_there ps None tt sh co
          ∙ ap (λ p. part sh co (shown op s p) (copied op s p)) (sym (plain_for_chosen hash text ps))

      each_there : (rs : Routes) (sh co : Bool) → there (pools_of_each text op sh co rs) ≡ part sh co (shown_each op s (plain_for_all hash text rs)) (copied_some op s (plain_for_all hash text rs))
      each_there End sh co = none sh co
      each_there (More r rs) sh co =
          there_append (shown_pools text op (sh && hits_each op (plain_for_all 0 text rs)) co r) (pools_of_some text op false co rs)
          ∙ ap₂ (λ x y. x || y) (all_there r (sh && hits_each op (plain_for_all 0 text rs)) co) (some_there rs false co)
          ∙ ap (λ h. part (sh && h) co (shown op s (plain_for hash text r)) (copied op s (plain_for hash text r)) || part false co (shown_some op s (plain_for_all hash text rs)) (copied_some op s (plain_for_all hash text rs))) ((all_same 0 hash text rs).hits_each_same op)
          ∙ each_parts sh co (hits_each op (plain_for_all hash text rs)) (shown op s (plain_for hash text r)) (copied op s (plain_for hash text r)) (shown_some op s (plain_for_all hash text rs)) (copied_some op s (plain_for_all hash text rs))

      some_there : (rs : Routes) (sh co : Bool) → there (pools_of_some text op sh co rs) ≡ part sh co (shown_some op s (plain_for_all hash text rs)) (copied_some op s (plain_for_all hash text rs))
      some_there End sh co = none sh co
      some_there (More r rs) sh co =
          there_append (shown_pools text op sh co r) (pools_of_some text op sh co rs)
          ∙ ap₂ (λ x y. x || y) (all_there r sh co) (some_there rs sh co)
          ∙ some_parts sh co (shown op s (plain_for hash text r)) (copied op s (plain_for hash text r)) (shown_some op s (plain_for_all hash text rs)) (copied_some op s (plain_for_all hash text rs))

      first_there : (rs : Routes) (sh co : Bool) → there (pools_of_first text op sh co rs) ≡ part sh co (shown_first op s (plain_for_all hash text rs)) (copied_first op s (plain_for_all hash text rs))
      first_there End sh co = none sh co
      first_there (More r rs) sh co =
          there_append (shown_pools text op sh co r) (cond (can_fail op (plain_for 0 text r)) (pools_of_first text op sh co rs) [])
          ∙ ap₂ (λ x y. x || y) (all_there r sh co) (there_if (can_fail op (plain_for 0 text r)) (pools_of_first text op sh co rs) ∙ ap₂ (λ f b. cond f b false) ((same 0 hash text r).fails_same op) (first_there rs sh co))
          ∙ first_parts (can_fail op (plain_for hash text r)) sh co (shown op s (plain_for hash text r)) (copied op s (plain_for hash text r)) (shown_first op s (plain_for_all hash text rs)) (copied_first op s (plain_for_all hash text rs))

      head_there : (rs : Routes) (sh co : Bool) → there (pools_of_head text op sh co rs) ≡ part sh co (shown_head op s (plain_for_all hash text rs)) (copied_head op s (plain_for_all hash text rs))
      head_there End sh co = none sh co
      head_there (More r rs) sh co = all_there r sh co

      policy_there : (ps : Policies) (sh co : Bool) → there (pools_of_policy text op sh co ps) ≡ part sh co (shown_policy op s (plain_for_policies hash text ps)) (copied_policy op s (plain_for_policies hash text ps))
      policy_there (Otherwise r) sh co = all_there r sh co
      policy_there (Policy o r ps) sh co = either_one (same_op o op) sh co (shown_pools text op sh co r) (pools_of_policy text op sh co ps) (shown op s (plain_for hash text r)) (copied op s (plain_for hash text r)) (shown_policy op s (plain_for_policies hash text ps)) (copied_policy op s (plain_for_policies hash text ps)) (all_there r sh co) (policy_there ps sh co)

      chosen_there : (ps : Prefixes) (best : Option (List ℕ × Route)) → BestThere best → IsThere (chosen text ps best)
      chosen_there (Wildcard r) None h = all_there r
      chosen_there (Wildcard r) (Some best) h = h
      chosen_there (Prefix p r ps) best h = chosen_there ps (cond (begins p text && is_longer p best) (Some (p, r)) best) (best_there (begins p text && is_longer p best) p r best (all_there r) h)

-- ---- the four operations

module _ (text : List ℕ) (hash s : ℕ) where
  at_get : (r : Route) → has (servers_at hash (shown_pools text Get true true r)) s ≡ takes_server (plain_for hash text r) Get s
  at_get r = all_there text Get hash s r true true

  at_gat : (r : Route) → has (servers_at hash (shown_pools text Gat true false r)) s ≡ takes_server (plain_for hash text r) Gat s
  at_gat r = all_there text Gat hash s r true false

  at_incr : (r : Route) → has (servers_at hash (shown_pools text Incr true false r)) s ≡ takes_server (plain_for hash text r) Incr s
  at_incr r = all_there text Incr hash s r true false

  at_decr : (r : Route) → has (servers_at hash (shown_pools text Decr true false r)) s ≡ takes_server (plain_for hash text r) Decr s
  at_decr r = all_there text Decr hash s r true false

  sought_are_taken : (r : Route) → has (servers_at hash (sought_pools text r)) s ≡ is_taken (plain_for hash text r) s
  sought_are_taken r =
      let a = shown_pools text Get true true r in
      let b = shown_pools text Gat true false r in
      let c = shown_pools text Incr true false r in
      let d = shown_pools text Decr true false r in
      there_append text Decr hash s (a ++ b ++ c) d
      ∙ ap₂ (λ x y. x || y)
      (there_append text Incr hash s (a ++ b) c
      ∙ ap₂ (λ x y. x || y) (there_append text Gat hash s a b ∙ ap₂ (λ x y. x || y) (at_get r) (at_gat r)) (at_incr r))
      (at_decr r)

-- ---- each once

absorbs : (a b : Bool) → (a || b) ≡ ((a || b) || (a || false))
absorbs true b = refl
absorbs false true = refl
absorbs false false = refl

assoc : (a b c : Bool) → (a || (b || c)) ≡ ((a || b) || c)
assoc true b c = refl
assoc false b c = refl

regroup : (a b c : Bool) → ((a || (b || false)) || c) ≡ (a || (b || c))
regroup true b c = refl
regroup false true c = refl
regroup false false c = refl

pub same_pool : (p q : List ℕ) → bytes_eq p q ≡ true → p ≡ q
same_pool p q e = (bytes_eq-Decides p q).0 e

module _ (hash s : ℕ) where
  -- a pool that is there already adds no server
  there_first : (p : List ℕ) (ps : List (List ℕ)) (pool : List ℕ) → bytes_eq p pool ≡ true → has (servers_at hash (p ∷ ps)) s ≡ (has (servers_at hash (p ∷ ps)) s || has (servers_at hash (pool ∷ [])) s)
  there_first p ps pool e =
      subst (λ q. has (servers_at hash (p ∷ ps)) s ≡ (has (servers_at hash (p ∷ ps)) s || has (servers_at hash (q ∷ [])) s)) (same_pool p pool e)
      (absorbs (nat_eq (pool_server_at hash p) s) (has (servers_at hash ps) s))

  there_already : (pools : List (List ℕ)) (pool : List ℕ) → has_pool pools pool ≡ true → has (servers_at hash pools) s ≡ (has (servers_at hash pools) s || has (servers_at hash (pool ∷ [])) s)
  there_already [] pool h = absurd (cc)
  there_already (p ∷ ps) pool h =
      ⊎_elim (there_first p ps pool)
      (λ (e : has_pool ps pool ≡ true). ap (λ b. nat_eq (pool_server_at hash p) s || b) (there_already ps pool e) ∙ assoc (nat_eq (pool_server_at hash p) s) (has (servers_at hash ps) s) (has (servers_at hash (pool ∷ [])) s))
      (either_split (bytes_eq p pool) (has_pool ps pool) h)

  with_one : (pools : List (List ℕ)) (pool : List ℕ) → has (servers_at hash (with_pool pools pool)) s ≡ (has (servers_at hash pools) s || has (servers_at hash (pool ∷ [])) s)
  with_one pools pool = step (has_pool pools pool) refl
    where
      step : (b : Bool) → has_pool pools pool ≡ b → has (servers_at hash (cond b pools (pools ++ pool ∷ []))) s ≡ (has (servers_at hash pools) s || has (servers_at hash (pool ∷ [])) s)
      step true e = there_already pools pool e
      step false e = ap (λ l. has l s) (at_append hash pools (pool ∷ [])) ∙ has_append (servers_at hash pools) (servers_at hash (pool ∷ [])) s

  distinct_has : (pools ps : List (List ℕ)) → has (servers_at hash (distinct_after pools ps)) s ≡ (has (servers_at hash pools) s || has (servers_at hash ps) s)
  distinct_has pools [] = sym (or_false (has (servers_at hash pools) s))
  distinct_has pools (p ∷ ps) =
      distinct_has (with_pool pools p) ps ∙ ap (λ b. b || has (servers_at hash ps) s) (with_one pools p)
      ∙ regroup (has (servers_at hash pools) s) (nat_eq (pool_server_at hash p) s) (has (servers_at hash ps) s)

-- the servers of the pools at a hash are those that the plain tree of the hash takes
pub pools_are_taken : (text : List ℕ) (hash s : ℕ) (r : Route) → has (servers_at hash (taken_pools text r)) s ≡ is_taken (plain_for hash text r) s
pools_are_taken text hash s r = distinct_has hash s [] (sought_pools text r) ∙ sought_are_taken text hash s r

-- ---- one after another

distinct_last : (xs ps : List (List ℕ)) (p : List ℕ) → distinct_after xs (ps ++ p ∷ []) ≡ with_pool (distinct_after xs ps) p
distinct_last xs [] p = refl
distinct_last xs (q ∷ ps) p = distinct_last (with_pool xs q) ps p

pools_suc : (xs : List (List ℕ)) (i : ℕ) (x : List ℕ) → i < length xs → x ≡ get_or xs i x → take (suc i) xs ≡ take i xs ++ x ∷ []
pools_suc [] i x lt is = absurd (omega arith)
pools_suc (y ∷ xs) zero x lt is = ap (λ (e : List ℕ). e ∷ []) (sym is)
pools_suc (y ∷ xs) (suc i) x lt is = ap (λ l. y ∷ l) (pools_suc xs i x (omega arith) is)

pub pools_more : (xs : List (List ℕ)) (i : ℕ) (x : List ℕ) → i < length xs → x ≡ get_or xs i x → take (i + 1) xs ≡ take i xs ++ x ∷ []
pools_more xs i x lt is = let one : i + 1 ≡ suc i = omega arith in ap (λ (n : ℕ). take n xs) one ∙ pools_suc xs i x lt is

-- one pool more
pub distinct_more : (xs : List (List ℕ)) (i : ℕ) (x : List ℕ) → i < length xs → x ≡ get_or xs i x → distinct_after [] (take (i + 1) xs) ≡ with_pool (distinct_after [] (take i xs)) x
distinct_more xs i x lt is = ap (distinct_after []) (pools_more xs i x lt is) ∙ distinct_last [] (take i xs) x

pub with_pool_there : (xs : List (List ℕ)) (x : List ℕ) → has_pool xs x ≡ true → with_pool xs x ≡ xs
with_pool_there xs x e = ap (λ b. cond b xs (xs ++ x ∷ [])) e

pub with_pool_new : (xs : List (List ℕ)) (x : List ℕ) → has_pool xs x ≡ false → with_pool xs x ≡ xs ++ x ∷ []
with_pool_new xs x e = ap (λ b. cond b xs (xs ++ x ∷ [])) e
