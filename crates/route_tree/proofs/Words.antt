-- What the calls of a word ask, and how many there are.
use Rattle.std.proofs.Common.{◌≡◌, ◌≢◌, ℕ, zero, suc, ◌+◌, ◌≤◌, List, [], ◌∷◌, ◌++◌, length, Option, Some, None, ◌⊎◌, inl, inr, ⊎_elim, refl, sym, ap, ◌∙◌, subst, arith, length-append}
use Rattle.mc_types.specs.declared.ask.Op.{Op}
use Rattle.mc_types.specs.declared.ask.Op.TheVariants.{Get, Delete}
use Rattle.mc_types.specs.declared.ask.Ask.{Ask}
use Rattle.mc_types.specs.declared.answer.Answer.{Answer}
use Rattle.mc_types.specs.declared.call.Origin.{Origin}
use Rattle.mc_types.specs.declared.call.Origin.TheVariants.{CopyOf}
use Rattle.mc_types.specs.declared.call.Outcome.{Outcome}
use Rattle.mc_types.specs.declared.call.Outcome.TheVariants.{Answered, Failed}
use Rattle.fresh_runs.specs.Calls.{Call}
use Rattle.fresh_runs.specs.Single.{from_of}
use Rattle.route_tree.specs.Each.{Each}
use Rattle.route_tree.specs.Operation.{same_op}
use Rattle.route_tree.specs.Plan.{Plan, Plans, PlanPolicies, Server, Null, Failing, AllSync, Failover, MissFailover, WarmUp, ByOperation, End, More, Otherwise, Policy, plan_count, plan_count_of_all, plan_count_of_policies}
use Rattle.route_tree.specs.Word.{Given, rank, from_call, plain_get, refill, is_plain_get, PlanWord, WordOfAll, WordOfFirst, WordOfHead, WordOfPolicy, AfterRefill, Refilled, AfterWarm, AfterCold, WarmUpWord}
use Rattle.route_tree.specs.WordLaws.{AskIsPassedOn, DeletesAskDeletes, CallsAreWithin, OneServerIsOneCall}
use Rattle.route_tree.proofs.Parts.{each_weaker, if_get, match_bool, Within, then_within, gives_within}
use Rattle.route_tree.proofs.Places.{each_append}

-- ---- what is asked

-- the call passes on the ask, with data of the origin, or the ask is a get
abbrev pub IsOwn : Ask → Origin → Call → Type 0
IsOwn ask origin call = ((call.ask ≡ ask) × (call.origin ≡ origin)) ⊎ (ask.op ≡ Get)

any_own : (ask : Ask) (origin : Origin) (calls : List Call) → ask.op ≡ Get → Each (IsOwn ask origin) calls
any_own ask origin [] e = tt
any_own ask origin (c ∷ calls) e = (inr e, any_own ask origin calls e)

own_join : (ask : Ask) (origin : Origin) (calls front back : List Call) → calls ≡ front ++ back → Each (IsOwn ask origin) front → Each (IsOwn ask origin) back → Each (IsOwn ask origin) calls
own_join ask origin calls front back e h k = subst (Each (IsOwn ask origin)) (sym e) (each_append (IsOwn ask origin) front back h k)

mutual
  pub own_calls : (p : Plan) (ask : Ask) (origin : Origin) (b : ℕ) (calls : List Call) (given : Given) → PlanWord p ask origin b calls given → Each (IsOwn ask origin) calls
  own_calls (Server s) ask origin b calls given w = subst (Each (IsOwn ask origin)) (sym w.2) (inl (refl, refl), tt)
  own_calls Null ask origin b calls given w = subst (Each (IsOwn ask origin)) (sym w.0) tt
  own_calls Failing ask origin b calls given w = subst (Each (IsOwn ask origin)) (sym w.0) tt
  own_calls (AllSync ps) ask origin b calls given w = own_all ps ask origin b calls w.0 w.1
  own_calls (Failover ps) ask origin b calls given w = own_first ps 4 ask origin b calls given w
  own_calls (MissFailover ps) ask origin b calls given w =
      if_get ask.op _ _ (Each (IsOwn ask origin) calls) w (λ is _. any_own ask origin calls is) (λ h. own_head ps ask origin b calls given h)
  own_calls (WarmUp cold warm e) ask origin b calls given w =
      if_get ask.op _ _ (Each (IsOwn ask origin) calls) w (λ is _. any_own ask origin calls is) (λ h. own_calls cold ask origin b calls given h)
  own_calls (ByOperation policies) ask origin b calls given w = own_policy policies ask origin b calls given w

  own_all : (ps : Plans) (ask : Ask) (origin : Origin) (b : ℕ) (calls : List Call) (all : List Given) → WordOfAll ps ask origin b calls all → Each (IsOwn ask origin) calls
  own_all End ask origin b calls all w = subst (Each (IsOwn ask origin)) (sym w.0) tt
  own_all (More p ps) ask origin b calls all w =
      own_join ask origin calls w.0 w.1 w.2 (own_calls p ask origin b w.0 w.3 w.4) (own_all ps ask origin (b + length w.0) w.1 w.5 w.7)

  own_first : (ps : Plans) (limit : ℕ) (ask : Ask) (origin : Origin) (b : ℕ) (calls : List Call) (given : Given) → WordOfFirst ps limit ask origin b calls given → Each (IsOwn ask origin) calls
  own_first End limit ask origin b calls given w = absurd w
  own_first (More p ps) limit ask origin b calls given (inl w) = own_calls p ask origin b calls given w.0
  own_first (More p ps) limit ask origin b calls given (inr w) =
      own_join ask origin calls w.0 w.1 w.2 (own_calls p ask origin b w.0 w.3 w.4) (own_first ps limit ask origin (b + length w.0) w.1 given w.6)

  own_head : (ps : Plans) (ask : Ask) (origin : Origin) (b : ℕ) (calls : List Call) (given : Given) → WordOfHead ps ask origin b calls given → Each (IsOwn ask origin) calls
  own_head End ask origin b calls given w = absurd w
  own_head (More p ps) ask origin b calls given w = own_calls p ask origin b calls given w

  own_policy : (ps : PlanPolicies) (ask : Ask) (origin : Origin) (b : ℕ) (calls : List Call) (given : Given) → WordOfPolicy ps ask origin b calls given → Each (IsOwn ask origin) calls
  own_policy (Otherwise p) ask origin b calls given w = own_calls p ask origin b calls given w
  own_policy (Policy op p rest) ask origin b calls given w =
      match_bool (same_op op ask.op) _ _ (Each (IsOwn ask origin) calls) w (λ h. own_calls p ask origin b calls given h) (λ h. own_policy rest ask origin b calls given h)

pub ask_is_passed_on : AskIsPassedOn
ask_is_passed_on plain ask origin b calls given other w =
    each_weaker (IsOwn ask origin) (λ call. (call.ask ≡ ask) × (call.origin ≡ origin)) calls (λ call h. ⊎_elim (λ k. k) (λ e. absurd (other e)) h) (own_calls plain ask origin b calls given w)

delete_is_no_get : (op : Op) → op ≡ Delete → op ≢ Get
delete_is_no_get op e f = cc

pub deletes_ask_deletes : DeletesAskDeletes
deletes_ask_deletes plain ask origin b calls given delete w =
    each_weaker (λ call. (call.ask ≡ ask) × (call.origin ≡ origin)) (λ call. call.ask.op ≡ Delete) calls (λ call h. ap (λ (a : Ask). a.op) h.0 ∙ delete) (ask_is_passed_on plain ask origin b calls given (delete_is_no_get ask.op delete) w)

-- ---- how many calls

module _ (ask : Ask) (cold : ℕ → List Call → Given → Type 0) (warm : ℕ → List Call → Given → Type 0) (add : Answer → ℕ → ℕ → List Call → Given → Type 0) (n m : ℕ) (in_cold : Within n cold) (in_warm : Within m warm) (in_add : (hit : Answer) (w : ℕ) → Within n (add hit w)) where
  after_refill_within : (g : Given) → Within n (AfterRefill ask cold warm add g)
  after_refill_within g b calls given w =
      match_bool (is_plain_get ask) _ _ (length calls ≤ n) w (λ h. let k = gives_within g b calls given h in omega (arith, k)) (λ h. in_cold b calls given h)

  refilled_within : (g : Given) (from : Option ℕ) → Within (n + n) (Refilled ask cold warm add g from)
  refilled_within g None b calls given w = absurd w
  refilled_within g (Some i) b calls given w = then_within n n (add g.reply i) (λ _. AfterRefill ask cold warm add g) (in_add g.reply i) (λ _. after_refill_within g) b calls given w

  after_warm_within : (first g : Given) (r : ℕ) → Within (n + n) (AfterWarm ask cold warm add first g r)
  after_warm_within first g zero b calls given w = refilled_within g g.from b calls given w
  after_warm_within first g (suc r) b calls given w = let k = gives_within first b calls given w in omega (arith, k)

  after_cold_within : (first : Given) (r : ℕ) → Within (m + (n + n)) (AfterCold ask cold warm add first r)
  after_cold_within first zero b calls given w = let k = gives_within first b calls given w in omega (arith, k)
  after_cold_within first (suc r) b calls given w = then_within m (n + n) warm (λ g. AfterWarm ask cold warm add first g (rank g)) in_warm (λ g. after_warm_within first g (rank g)) b calls given w

  pub warm_up_within : Within (n + (m + (n + n))) (WarmUpWord ask cold warm add)
  warm_up_within b calls given w = then_within n (m + (n + n)) cold (λ first. AfterCold ask cold warm add first (rank first)) in_cold (λ first. after_cold_within first (rank first)) b calls given w

mutual
  pub within : (p : Plan) (ask : Ask) (origin : Origin) → Within (plan_count p) (PlanWord p ask origin)
  within (Server s) ask origin b calls given w = let e = ap length w.2 in omega (arith, e)
  within Null ask origin b calls given w = let e = ap length w.0 in omega (arith, e)
  within Failing ask origin b calls given w = let e = ap length w.0 in omega (arith, e)
  within (AllSync ps) ask origin b calls given w = let k = all_within ps ask origin b calls w.0 w.1 in omega (arith, k)
  within (Failover ps) ask origin b calls given w = let k = first_within ps 4 ask origin b calls given w in omega (arith, k)
  within (MissFailover ps) ask origin b calls given w =
      if_get ask.op _ _ (length calls ≤ plan_count (MissFailover ps)) w (λ _ h. let k = first_within ps 1 ask origin b calls given h in omega (arith, k)) (λ h. let k = head_within ps ask origin b calls given h in omega (arith, k))
  within (WarmUp cold warm e) ask origin b calls given w =
      if_get ask.op _ _ (length calls ≤ plan_count (WarmUp cold warm e)) w
      (λ _ h. let k = warm_up_within ask (PlanWord cold ask origin) (PlanWord warm (plain_get ask) origin) (λ hit i. PlanWord cold (refill ask hit e) (CopyOf i)) (plan_count cold) (plan_count warm) (within cold ask origin) (within warm (plain_get ask) origin) (λ hit i. within cold (refill ask hit e) (CopyOf i)) b calls given h in omega (arith, k))
      (λ h. let k = within cold ask origin b calls given h in omega (arith, k))
  within (ByOperation policies) ask origin b calls given w = let k = policy_within policies ask origin b calls given w in omega (arith, k)

  all_within : (ps : Plans) (ask : Ask) (origin : Origin) → Within (plan_count_of_all ps) (WordOfAll ps ask origin)
  all_within End ask origin b calls all w = let e = ap length w.0 in omega (arith, e)
  all_within (More p ps) ask origin b calls all w =
      let size : length calls ≡ length w.0 + length w.1 = ap length w.2 ∙ length-append w.0 w.1 in
      let here = within p ask origin b w.0 w.3 w.4 in
      let there = all_within ps ask origin (b + length w.0) w.1 w.5 w.7 in
      omega (arith, size, here, there)

  first_within : (ps : Plans) (limit : ℕ) (ask : Ask) (origin : Origin) → Within (plan_count_of_all ps) (WordOfFirst ps limit ask origin)
  first_within End limit ask origin b calls given w = absurd w
  first_within (More p ps) limit ask origin b calls given (inl w) = let k = within p ask origin b calls given w.0 in omega (arith, k)
  first_within (More p ps) limit ask origin b calls given (inr w) =
      let size : length calls ≡ length w.0 + length w.1 = ap length w.2 ∙ length-append w.0 w.1 in
      let here = within p ask origin b w.0 w.3 w.4 in
      let there = first_within ps limit ask origin (b + length w.0) w.1 given w.6 in
      omega (arith, size, here, there)

  head_within : (ps : Plans) (ask : Ask) (origin : Origin) → Within (plan_count_of_all ps) (WordOfHead ps ask origin)
  head_within End ask origin b calls given w = absurd w
  head_within (More p ps) ask origin b calls given w = let k = within p ask origin b calls given w in omega (arith, k)

  policy_within : (ps : PlanPolicies) (ask : Ask) (origin : Origin) → Within (plan_count_of_policies ps) (WordOfPolicy ps ask origin)
  policy_within (Otherwise p) ask origin b calls given w = within p ask origin b calls given w
  policy_within (Policy op p rest) ask origin b calls given w =
      match_bool (same_op op ask.op) _ _ (length calls ≤ plan_count_of_policies (Policy op p rest)) w
      (λ h. let k = within p ask origin b calls given h in omega (arith, k))
      (λ h. let k = policy_within rest ask origin b calls given h in omega (arith, k))

pub calls_are_within : CallsAreWithin
calls_are_within plain ask origin b calls given w =
    let k = within plain ask origin b calls given w in
    (k, λ limits. let m = limits.many in omega (arith, k, m))

-- ---- one server

from_first : (outcome : Outcome) → from_call 0 outcome ≡ from_of outcome
from_first (Answered answer) = refl
from_first Failed = refl

pub one_server_is_one_call : OneServerIsOneCall
one_server_is_one_call server_of number ask calls reply from = (
  (λ w. (w.0, w.1.0, w.1.1, w.1.2, ap (λ (g : Given). g.reply) w.1.3, ap (λ (g : Given). g.from) w.1.3 ∙ from_first w.1.0)),
  (λ w. (w.0, (w.1, w.2, w.3, (λ i. record { reply = w.4 i; from = (w.5 ∙ sym (from_first w.1)) i })))),
)
