-- The servers of plain trees, and of their words' calls.
use Rattle.std.proofs.Common.{◌≡◌, ℕ, zero, suc, ◌+◌, ◌<◌, ◌%◌, Bool, true, false, cond, ◌&&◌, List, [], ◌∷◌, ◌++◌, length, Option, Some, None, inl, inr, refl, sym, subst, arith}
use Rattle.std.specs.Prelude.{slice_index}
use native.Mathlib.Nat.{mod-lt}
use Rattle.mc_types.specs.declared.ask.Ask.{Ask}
use Rattle.mc_types.specs.declared.answer.Answer.{Answer}
use Rattle.mc_types.specs.declared.answer.Answer.TheVariants.{Hit}
use Rattle.mc_types.specs.declared.call.Origin.{Origin}
use Rattle.mc_types.specs.declared.call.Origin.TheVariants.{CopyOf}
use Rattle.fresh_runs.specs.Calls.{Call}
use Rattle.fresh_runs.specs.Fleet.{AreOn}
use Rattle.route_tree.specs.Tag.{key_hash}
use Rattle.route_tree.specs.Each.{Each, IsIn}
use Rattle.route_tree.specs.Operation.{same_op}
use Rattle.route_tree.specs.Plan as plan
use Rattle.route_tree.specs.Plan.{Plan, Plans, PlanPolicies}
use Rattle.route_tree.specs.Route as route
use Rattle.route_tree.specs.Route.{Route, Routes, Policies, Prefixes}
use Rattle.route_tree.specs.At.{begins, is_longer, plain_for, plain_for_all, plain_for_policies, plain_for_prefixes}
use Rattle.route_tree.specs.Place.{prefix_text}
use Rattle.route_tree.specs.Word.{Given, rank, plain_get, refill, is_plain_get, PlanWord, WordOfAll, WordOfFirst, WordOfHead, WordOfPolicy, GivesOnly, AfterRefill, Refilled, AfterWarm, AfterCold, WarmUpWord}
use Rattle.route_tree.specs.Servers.{servers, servers_of_all, servers_of_policies, tree_servers, tree_servers_of_all, tree_servers_of_policies, tree_servers_of_prefixes, ServersStay, TreeCallsStay}
use Rattle.route_tree.proofs.Parts.{each_weaker, if_get, match_bool}
use Rattle.route_tree.proofs.Places.{each_append, each_left, each_right}

each_more : {A : Type 0} (x : A) (ys xs : List A) → Each (λ y. IsIn y xs) ys → Each (λ y. IsIn y (x ∷ xs)) ys
each_more x [] xs h = tt
each_more x (y ∷ ys) xs h = (inr h.0, each_more x ys xs h.1)

-- each item of a list is in it
pub each_is_in : {A : Type 0} (xs : List A) → Each (λ y. IsIn y xs) xs
each_is_in [] = tt
each_is_in (x ∷ xs) = (inl refl, each_more x xs xs (each_is_in xs))

-- what holds of each item holds of the one at a place
pub each_index : (P : ℕ → Type 0) (xs : List ℕ) (i : ℕ) → i < length xs → Each P xs → P (slice_index xs i)
each_index P [] i lt h = absurd (omega arith)
each_index P (x ∷ xs) zero lt h = h.0
each_index P (x ∷ xs) (suc i) lt h = each_index P xs i (omega arith) h.1

-- ---- what is left of a tree

module _ (P : ℕ → Type 0) (hash : ℕ) (text : List ℕ) where
  abbrev BestHas : Option (List ℕ × Plan) → Type 0
  BestHas None = Unit {0}
  BestHas (Some best) = Each P (servers best.1)

  best_has : (b : Bool) (x : List ℕ × Plan) (best : Option (List ℕ × Plan)) → Each P (servers x.1) → BestHas best → BestHas (cond b (Some x) best)
  best_has true x best g h = g
  best_has false x best g h = h

  mutual
    pub plain_has : (r : Route) → route.IsGood r → Each P (tree_servers r) → Each P (servers (plain_for hash text r))
    plain_has (route.Pool ss) good h = (each_index P ss (hash % length ss) (mod-lt hash good.0) h, tt)
    plain_has (route.Server s) good h = h
    plain_has route.Null good h = tt
    plain_has route.Failing good h = tt
    plain_has (route.AllSync rs) good h = all_plain_have rs good.1 h
    plain_has (route.Failover rs) good h = all_plain_have rs good.1 h
    plain_has (route.MissFailover rs) good h = all_plain_have rs good.1 h
    plain_has (route.WarmUp c w e) good h =
        each_append P (servers (plain_for hash text c)) (servers (plain_for hash text w)) (plain_has c good.0 (each_left P (tree_servers c) (tree_servers w) h)) (plain_has w good.1 (each_right P (tree_servers c) (tree_servers w) h))
    plain_has (route.ByOperation ps) good h = policies_plain_have ps good h
    plain_has (route.ByPrefix ps) good h = prefixes_plain_have ps None tt good h

    all_plain_have : (rs : Routes) → route.AreGood rs → Each P (tree_servers_of_all rs) → Each P (servers_of_all (plain_for_all hash text rs))
    all_plain_have route.End good h = tt
    all_plain_have (route.More r rs) good h =
        each_append P (servers (plain_for hash text r)) (servers_of_all (plain_for_all hash text rs)) (plain_has r good.0 (each_left P (tree_servers r) (tree_servers_of_all rs) h)) (all_plain_have rs good.1 (each_right P (tree_servers r) (tree_servers_of_all rs) h))

    policies_plain_have : (ps : Policies) → route.ArePoliciesGood ps → Each P (tree_servers_of_policies ps) → Each P (servers_of_policies (plain_for_policies hash text ps))
    policies_plain_have (route.Otherwise r) good h = plain_has r good h
    policies_plain_have (route.Policy op r ps) good h =
        each_append P (servers (plain_for hash text r)) (servers_of_policies (plain_for_policies hash text ps)) (plain_has r good.0 (each_left P (tree_servers r) (tree_servers_of_policies ps) h)) (policies_plain_have ps good.1 (each_right P (tree_servers r) (tree_servers_of_policies ps) h))

    prefixes_plain_have : (ps : Prefixes) (best : Option (List ℕ × Plan)) → BestHas best → route.ArePrefixesGood ps → Each P (tree_servers_of_prefixes ps) → Each P (servers (plain_for_prefixes hash text ps best))
    prefixes_plain_have (route.Wildcard r) None b good h = plain_has r good h
    prefixes_plain_have (route.Wildcard r) (Some best) b good h = b
    prefixes_plain_have (route.Prefix p r ps) best b good h =
        prefixes_plain_have ps _ (best_has (begins p text && is_longer p best) (p, plain_for hash text r) best (plain_has r good.1 (each_left P (tree_servers r) (tree_servers_of_prefixes ps) h)) b) good.2 (each_right P (tree_servers r) (tree_servers_of_prefixes ps) h)

pub servers_stay : ServersStay
servers_stay tree h = (
  (λ key. plain_has (λ s. IsIn s (tree_servers tree)) (key_hash key) key tree h.good (each_is_in (tree_servers tree))),
  (λ place. plain_has (λ s. IsIn s (tree_servers tree)) place.residue (prefix_text place.prefix) tree h.good (each_is_in (tree_servers tree))),
)

-- ---- the calls of words

-- each call of the part has the property
abbrev pub Calls : (Call → Type 0) → {G : Type 0} → (ℕ → List Call → G → Type 0) → Type 0
Calls Q {G} part = (b : ℕ) (calls : List Call) (given : G) → part b calls given → Each Q calls

join : (Q : Call → Type 0) (calls front back : List Call) → calls ≡ front ++ back → Each Q front → Each Q back → Each Q calls
join Q calls front back e h k = subst (Each Q) (sym e) (each_append Q front back h k)

module _ (Q : Call → Type 0) (ask : Ask) (cold : ℕ → List Call → Given → Type 0) (warm : ℕ → List Call → Given → Type 0) (add : Answer → ℕ → ℕ → List Call → Given → Type 0) (in_cold : Calls Q cold) (in_warm : Calls Q warm) (in_add : (hit : Answer) (w : ℕ) → Calls Q (add hit w)) where
  none : (g : Given) → Calls Q (GivesOnly g)
  none g b calls given w = subst (Each Q) (sym w.0) tt

  after_refill_calls : (g : Given) → Calls Q (AfterRefill ask cold warm add g)
  after_refill_calls g b calls given w = match_bool (is_plain_get ask) _ _ (Each Q calls) w (λ h. none g b calls given h) (λ h. in_cold b calls given h)

  refilled_calls : (g : Given) (from : Option ℕ) → Calls Q (Refilled ask cold warm add g from)
  refilled_calls g None b calls given w = absurd w
  refilled_calls g (Some i) b calls given w = join Q calls w.0 w.1 w.2 (in_add g.reply i b w.0 w.3 w.4) (after_refill_calls g (b + length w.0) w.1 given w.5)

  after_warm_calls : (first g : Given) (r : ℕ) → Calls Q (AfterWarm ask cold warm add first g r)
  after_warm_calls first g zero b calls given w = refilled_calls g g.from b calls given w
  after_warm_calls first g (suc r) b calls given w = none first b calls given w

  after_cold_calls : (first : Given) (r : ℕ) → Calls Q (AfterCold ask cold warm add first r)
  after_cold_calls first zero b calls given w = none first b calls given w
  after_cold_calls first (suc r) b calls given w = join Q calls w.0 w.1 w.2 (in_warm b w.0 w.3 w.4) (after_warm_calls first w.3 (rank w.3) (b + length w.0) w.1 given w.5)

  pub warm_up_calls : Calls Q (WarmUpWord ask cold warm add)
  warm_up_calls b calls given w = join Q calls w.0 w.1 w.2 (in_cold b w.0 w.3 w.4) (after_cold_calls w.3 (rank w.3) (b + length w.0) w.1 given w.5)

pub refill_key : (ask : Ask) (answer : Answer) (e : ℕ) → (refill ask answer e).key ≡ ask.key
refill_key ask (Hit f b c) e = refl
refill_key ask _ e = refl

module _ (P : ℕ → Type 0) (key : List ℕ) where
  -- the call is on the key, to a server with the property
  abbrev Stays : Call → Type 0
  Stays call = (call.ask.key ≡ key) × P call.server

  mutual
    pub stay : (p : Plan) → Each P (servers p) → (ask : Ask) → ask.key ≡ key → (origin : Origin) → Calls Stays (PlanWord p ask origin)
    stay (plan.Server s) h ask k origin b calls given w = subst (Each Stays) (sym w.2) ((k, h.0), tt)
    stay plan.Null h ask k origin b calls given w = subst (Each Stays) (sym w.0) tt
    stay plan.Failing h ask k origin b calls given w = subst (Each Stays) (sym w.0) tt
    stay (plan.AllSync ps) h ask k origin b calls given w = all_stay ps h ask k origin b calls w.0 w.1
    stay (plan.Failover ps) h ask k origin b calls given w = first_stay ps 4 h ask k origin b calls given w
    stay (plan.MissFailover ps) h ask k origin b calls given w =
        if_get ask.op _ _ (Each Stays calls) w (λ _ x. first_stay ps 1 h ask k origin b calls given x) (λ x. head_stay ps h ask k origin b calls given x)
    stay (plan.WarmUp cold warm e) h ask k origin b calls given w =
        let in_cold = each_left P (servers cold) (servers warm) h in
        let in_warm = each_right P (servers cold) (servers warm) h in
        if_get ask.op _ _ (Each Stays calls) w
        (λ _ x. warm_up_calls Stays ask (PlanWord cold ask origin) (PlanWord warm (plain_get ask) origin) (λ hit i. PlanWord cold (refill ask hit e) (CopyOf i)) (stay cold in_cold ask k origin) (stay warm in_warm (plain_get ask) k origin) (λ hit i. stay cold in_cold (refill ask hit e) (subst (λ l. l ≡ key) (sym (refill_key ask hit e)) k) (CopyOf i)) b calls given x)
        (λ x. stay cold in_cold ask k origin b calls given x)
    stay (plan.ByOperation policies) h ask k origin b calls given w = policy_stay policies h ask k origin b calls given w

    all_stay : (ps : Plans) → Each P (servers_of_all ps) → (ask : Ask) → ask.key ≡ key → (origin : Origin) → Calls Stays (WordOfAll ps ask origin)
    all_stay plan.End h ask k origin b calls all w = subst (Each Stays) (sym w.0) tt
    all_stay (plan.More p ps) h ask k origin b calls all w =
        join Stays calls w.0 w.1 w.2 (stay p (each_left P (servers p) (servers_of_all ps) h) ask k origin b w.0 w.3 w.4) (all_stay ps (each_right P (servers p) (servers_of_all ps) h) ask k origin (b + length w.0) w.1 w.5 w.7)

    first_stay : (ps : Plans) (limit : ℕ) → Each P (servers_of_all ps) → (ask : Ask) → ask.key ≡ key → (origin : Origin) → Calls Stays (WordOfFirst ps limit ask origin)
    first_stay plan.End limit h ask k origin b calls given w = absurd w
    first_stay (plan.More p ps) limit h ask k origin b calls given (inl w) = stay p (each_left P (servers p) (servers_of_all ps) h) ask k origin b calls given w.0
    first_stay (plan.More p ps) limit h ask k origin b calls given (inr w) =
        join Stays calls w.0 w.1 w.2 (stay p (each_left P (servers p) (servers_of_all ps) h) ask k origin b w.0 w.3 w.4) (first_stay ps limit (each_right P (servers p) (servers_of_all ps) h) ask k origin (b + length w.0) w.1 given w.6)

    head_stay : (ps : Plans) → Each P (servers_of_all ps) → (ask : Ask) → ask.key ≡ key → (origin : Origin) → Calls Stays (WordOfHead ps ask origin)
    head_stay plan.End h ask k origin b calls given w = absurd w
    head_stay (plan.More p ps) h ask k origin b calls given w = stay p (each_left P (servers p) (servers_of_all ps) h) ask k origin b calls given w

    policy_stay : (ps : PlanPolicies) → Each P (servers_of_policies ps) → (ask : Ask) → ask.key ≡ key → (origin : Origin) → Calls Stays (WordOfPolicy ps ask origin)
    policy_stay (plan.Otherwise p) h ask k origin b calls given w = stay p h ask k origin b calls given w
    policy_stay (plan.Policy op p rest) h ask k origin b calls given w =
        match_bool (same_op op ask.op) _ _ (Each Stays calls) w
        (λ x. stay p (each_left P (servers p) (servers_of_policies rest) h) ask k origin b calls given x)
        (λ x. policy_stay rest (each_right P (servers p) (servers_of_policies rest) h) ask k origin b calls given x)

pub are_on : (P : ℕ → Type 0) (key : List ℕ) (calls : List Call) → Each (Stays P key) calls → AreOn key calls
are_on P key [] h = tt
are_on P key (c ∷ calls) h = (h.0.0, are_on P key calls h.1)

pub calls_stay : TreeCallsStay
calls_stay plain ask origin b calls given w =
    let h = stay (λ s. IsIn s (servers plain)) ask.key plain (each_is_in (servers plain)) ask refl origin b calls given w in
    (are_on (λ s. IsIn s (servers plain)) ask.key calls h, each_weaker (Stays (λ s. IsIn s (servers plain)) ask.key) (λ call. IsIn call.server (servers plain)) calls (λ call x. x.1) h)
