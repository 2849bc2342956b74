-- A pool that isn't doubted is cleared at every hash.
use Rattle.std.proofs.Common.{◌≡◌, ℕ, ◌+◌, ◌<◌, ◌%◌, Bool, true, false, cond, not, ◌&&◌, ◌||◌, List, [], ◌∷◌, ◌++◌, length, take, get_or, nat_eq, Option, Some, None, refl, sym, ap, ◌∙◌, subst, arith}
use Rattle.std.specs.Str.{bytes_eq}
use Rattle.std.proofs.lemmas.Bool.{eq-eqb}
use Rattle.mc_types.specs.declared.ask.Op.TheVariants.{Delete}
use Rattle.route_tree.specs.Operation.{same_op}
use Rattle.route_tree.specs.Route.{Route, Routes, Policies, Prefixes, Pool, Server, Null, Failing, AllSync, Failover, MissFailover, WarmUp, ByOperation, ByPrefix, End, More, Otherwise, Policy, Wildcard, Prefix}
use Rattle.route_tree.specs.At.{begins, is_longer, plain_for, plain_for_all, plain_for_policies}
use Rattle.route_tree.specs.Chosen.{chosen}
use Rattle.route_tree.proofs.PlainTrees.{plain_for_chosen}
use Rattle.gate_coverage.specs.Computed.{can_fail, kept, kept_each, kept_first, kept_head, kept_policy}
use Rattle.gate_coverage.specs.Doubted.{doubts, doubts_each, doubts_first, doubts_head, doubts_policy, doubts_prefixes, with_doubted, doubted_pools}
use Rattle.gate_coverage.specs.Pools.{pool_server_at}
use Rattle.gate_coverage.proofs.SamePossible.{same}
use Rattle.gate_coverage.proofs.TakenPools.{pools_more, same_pool}

-- ---- parts that are false

mod_one : (n : ℕ) → n % 1 ≡ 0
mod_one n = omega arith

alone : (x hash : ℕ) → pool_server_at hash (x ∷ []) ≡ x
alone x hash = rw (mod_one hash) refl

not_false : (b : Bool) → not b ≡ false → b ≡ true
not_false true h = refl
not_false false h = absurd (cc)

is_same : (x y : ℕ) → x ≡ y → not (nat_eq x y) ≡ false
is_same x y e = ap not (eq-eqb x y e)

and_less : (a b x y : Bool) → (a ≡ false → x ≡ false) → (b ≡ false → y ≡ false) → (a && b) ≡ false → (x && y) ≡ false
and_less a b false y f g h = refl
and_less true b true y f g h = g h
and_less false b true y f g h = absurd (let e = f refl in cc)

or_less : (a b x y : Bool) → (a ≡ false → x ≡ false) → (b ≡ false → y ≡ false) → (a || b) ≡ false → (x || y) ≡ false
or_less true b x y f g h = absurd (cc)
or_less false b false y f g h = g h
or_less false b true y f g h = absurd (let e = f refl in cc)

if_less : (c a b x y : Bool) → (a ≡ false → x ≡ false) → (b ≡ false → y ≡ false) → cond c a b ≡ false → cond c x y ≡ false
if_less true a b x y f g h = f h
if_less false a b x y f g h = g h

under : (c b y : Bool) → (b ≡ false → y ≡ false) → (c && b) ≡ false → (c && y) ≡ false
under true b y g h = g h
under false b y g h = refl

module _ (text : List ℕ) (pool : List ℕ) where
  abbrev doubts_best : Option (List ℕ × Route) → Option (List ℕ × Bool)
  doubts_best None = None
  doubts_best (Some best) = Some (best.0, doubts text pool best.1)

  best_of : (b : Bool) (p : List ℕ) (r : Route) (best : Option (List ℕ × Route)) → cond b (Some (p, doubts text pool r)) (doubts_best best) ≡ doubts_best (cond b (Some (p, r)) best)
  best_of true p r best = refl
  best_of false p r best = refl

  same_longer : (p : List ℕ) (best : Option (List ℕ × Route)) → is_longer p (doubts_best best) ≡ is_longer p best
  same_longer p None = refl
  same_longer p (Some best) = refl

  doubts_of_best : (ps : Prefixes) (best : Option (List ℕ × Route)) → doubts_prefixes text pool ps (doubts_best best) ≡ doubts text pool (chosen text ps best)
  doubts_of_best (Wildcard r) None = refl
  doubts_of_best (Wildcard r) (Some best) = refl
  doubts_of_best (Prefix p r ps) best =
      ap (λ b. doubts_prefixes text pool ps (cond (begins p text && b) (Some (p, doubts text pool r)) (doubts_best best))) (same_longer p best)
      ∙ ap (doubts_prefixes text pool ps) (best_of (begins p text && is_longer p best) p r best)
      ∙ doubts_of_best ps (cond (begins p text && is_longer p best) (Some (p, r)) best)

  -- a selector doubts what the route does that it chooses
  pub doubts_of_chosen : (ps : Prefixes) → doubts text pool (ByPrefix ps) ≡ doubts text pool (chosen text ps None)
  doubts_of_chosen ps = doubts_of_best ps None

  module _ (hash : ℕ) where
    abbrev IsSure : Route → Type 0
    IsSure r = doubts text pool r ≡ false → kept Delete (pool_server_at hash pool) (plain_for hash text r) ≡ false

    abbrev BestIsSure : Option (List ℕ × Route) → Type 0
    BestIsSure None = Unit {0}
    BestIsSure (Some best) = IsSure best.1

    best_sure : (b : Bool) (p : List ℕ) (r : Route) (best : Option (List ℕ × Route)) → IsSure r → BestIsSure best → BestIsSure (cond b (Some (p, r)) best)
    best_sure true p r best h k = h
    best_sure false p r best h k = k

    mutual
      pub sure : (r : Route) → doubts text pool r ≡ false → kept Delete (pool_server_at hash pool) (plain_for hash text r) ≡ false
      sure (Pool servers) h = is_same (pool_server_at hash servers) (pool_server_at hash pool) (ap (pool_server_at hash) (same_pool servers pool (not_false (bytes_eq servers pool) h)))
      sure (Server x) h = is_same x (pool_server_at hash pool) (sym (alone x hash) ∙ ap (pool_server_at hash) (same_pool (x ∷ []) pool (not_false (bytes_eq (x ∷ []) pool) h)))
      sure Null h = absurd (cc)
      sure Failing h = refl
      sure (AllSync rs) h = each_sure rs h
      sure (Failover rs) h = first_sure rs h
      sure (MissFailover rs) h = head_sure rs h
      sure (WarmUp cold warm e) h = sure cold h
      sure (ByOperation ps) h = policy_sure ps h
      sure (ByPrefix ps) h =
          ap (kept Delete (pool_server_at hash pool)) (plain_for_chosen hash text ps) ∙ chosen_sure ps None tt (sym (doubts_of_chosen ps) ∙ h)

      each_sure : (rs : Routes) → doubts_each text pool rs ≡ false → kept_each Delete (pool_server_at hash pool) (plain_for_all hash text rs) ≡ false
      each_sure End h = h
      each_sure (More r rs) h = and_less (doubts text pool r) (doubts_each text pool rs) (kept Delete (pool_server_at hash pool) (plain_for hash text r)) (kept_each Delete (pool_server_at hash pool) (plain_for_all hash text rs)) (sure r) (each_sure rs) h

      first_sure : (rs : Routes) → doubts_first text pool rs ≡ false → kept_first Delete (pool_server_at hash pool) (plain_for_all hash text rs) ≡ false
      first_sure End h = refl
      first_sure (More r rs) h =
          let g : (can_fail Delete (plain_for 0 text r) && doubts_first text pool rs) ≡ false → (can_fail Delete (plain_for hash text r) && kept_first Delete (pool_server_at hash pool) (plain_for_all hash text rs)) ≡ false =
          λ k. under (can_fail Delete (plain_for hash text r)) (doubts_first text pool rs) (kept_first Delete (pool_server_at hash pool) (plain_for_all hash text rs)) (first_sure rs) (subst (λ (f : Bool). (f && doubts_first text pool rs) ≡ false) ((same 0 hash text r).fails_same Delete) k) in
          or_less (doubts text pool r) (can_fail Delete (plain_for 0 text r) && doubts_first text pool rs) (kept Delete (pool_server_at hash pool) (plain_for hash text r)) (can_fail Delete (plain_for hash text r) && kept_first Delete (pool_server_at hash pool) (plain_for_all hash text rs)) (sure r) g h

      head_sure : (rs : Routes) → doubts_head text pool rs ≡ false → kept_head Delete (pool_server_at hash pool) (plain_for_all hash text rs) ≡ false
      head_sure End h = refl
      head_sure (More r rs) h = sure r h

      policy_sure : (ps : Policies) → doubts_policy text pool ps ≡ false → kept_policy Delete (pool_server_at hash pool) (plain_for_policies hash text ps) ≡ false
      policy_sure (Otherwise r) h = sure r h
      policy_sure (Policy o r ps) h = if_less (same_op o Delete) (doubts text pool r) (doubts_policy text pool ps) (kept Delete (pool_server_at hash pool) (plain_for hash text r)) (kept_policy Delete (pool_server_at hash pool) (plain_for_policies hash text ps)) (sure r) (policy_sure ps) h

      chosen_sure : (ps : Prefixes) (best : Option (List ℕ × Route)) → BestIsSure best → IsSure (chosen text ps best)
      chosen_sure (Wildcard r) None h = sure r
      chosen_sure (Wildcard r) (Some best) h = h
      chosen_sure (Prefix p r ps) best h = chosen_sure ps (cond (begins p text && is_longer p best) (Some (p, r)) best) (best_sure (begins p text && is_longer p best) p r best (sure r) h)

-- ---- one pool more

doubted_last : (text : List ℕ) (tree : Route) (xs : List (List ℕ)) (p : List ℕ) → doubted_pools text tree (xs ++ p ∷ []) ≡ with_doubted text tree (doubted_pools text tree xs) p
doubted_last text tree [] p = refl
doubted_last text tree (x ∷ xs) p = ap (λ l. cond (doubts text x tree) (x ∷ l) l) (doubted_last text tree xs p) ∙ step (doubts text x tree) (doubts text p tree)
  where
    step : (b c : Bool) → cond b (x ∷ cond c (doubted_pools text tree xs ++ p ∷ []) (doubted_pools text tree xs)) (cond c (doubted_pools text tree xs ++ p ∷ []) (doubted_pools text tree xs)) ≡ cond c (cond b (x ∷ doubted_pools text tree xs) (doubted_pools text tree xs) ++ p ∷ []) (cond b (x ∷ doubted_pools text tree xs) (doubted_pools text tree xs))
    step true true = refl
    step true false = refl
    step false true = refl
    step false false = refl

pub doubted_more : (text : List ℕ) (tree : Route) (xs : List (List ℕ)) (i : ℕ) (x : List ℕ) → i < length xs → x ≡ get_or xs i x → doubted_pools text tree (take (i + 1) xs) ≡ with_doubted text tree (doubted_pools text tree (take i xs)) x
doubted_more text tree xs i x lt is = ap (doubted_pools text tree) (pools_more xs i x lt is) ∙ doubted_last text tree (take i xs) x
