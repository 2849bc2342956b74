-- The replies to a classic get of the key, as a warm side is asked.
use Rattle.std.proofs.Common.{◌≡◌, ℕ, zero, suc, ◌+◌, true, false, cond, List, length, Option, Some, None, IsSome, inl, inr, refl, sym, subst}
use Rattle.mc_types.specs.declared.ask.Ask.{Ask}
use Rattle.mc_types.specs.declared.answer.Answer.{Answer}
use Rattle.mc_types.specs.declared.answer.Answer.TheVariants.{Stored, NotStored, Exists, NotFound, Deleted, Touched, Number, Hit, Miss, Meta, ClientError, Error, ServerError}
use Rattle.mc_types.specs.declared.call.Origin.{Origin}
use Rattle.mc_types.specs.declared.call.Origin.TheVariants.{CopyOf}
use Rattle.mc_types.specs.declared.call.Outcome.{Outcome}
use Rattle.mc_types.specs.declared.call.Outcome.TheVariants.{Answered, Failed}
use Rattle.mc_types.specs.Fits.{FitsFetch}
use Rattle.mc_types.specs.Rank.{rank_of}
use Rattle.mc_types.specs.Shows.{shows}
use Rattle.fresh_runs.specs.Calls.{Call}
use Rattle.fresh_runs.specs.Single.{FitsOutcome}
use Rattle.route_tree.specs.Each.{Each}
use Rattle.route_tree.specs.Operation.{same_op}
use Rattle.route_tree.specs.Plan.{Plan, Plans, PlanPolicies, Server, Null, Failing, AllSync, Failover, MissFailover, WarmUp, ByOperation, End, More, Otherwise, Policy}
use Rattle.mc_types.specs.declared.ask.Op.TheVariants.{Get}
use Rattle.route_tree.specs.Word.{Given, rank, given_by, null_reply, failing_reply, plain_get, refill, is_plain_get, PlanWord, WordOfAll, WordOfFirst, WordOfPolicy, AfterRefill, Refilled, AfterWarm, AfterCold, WarmUpWord}
use Rattle.route_tree.proofs.Parts.{worst_is, match_bool, Replies}

-- the reply of a warm-up is one of its sides'
module _ (P : Given → Type 0) (ask : Ask) (cold : ℕ → List Call → Given → Type 0) (warm : ℕ → List Call → Given → Type 0) (add : Answer → ℕ → ℕ → List Call → Given → Type 0) (in_cold : Replies P cold) (in_warm : Replies P warm) where
  after_refill_has : (g : Given) → P g → Replies P (AfterRefill ask cold warm add g)
  after_refill_has g h b calls given w = match_bool (is_plain_get ask) _ _ (P given) w (λ k. subst P (sym k.1) h) (λ k. in_cold b calls given k)

  refilled_has : (g : Given) → P g → (from : Option ℕ) → Replies P (Refilled ask cold warm add g from)
  refilled_has g h None b calls given w = absurd w
  refilled_has g h (Some i) b calls given w = after_refill_has g h (b + length w.0) w.1 given w.5

  after_warm_has : (first g : Given) → P first → P g → (r : ℕ) → Replies P (AfterWarm ask cold warm add first g r)
  after_warm_has first g f h zero b calls given w = refilled_has g h g.from b calls given w
  after_warm_has first g f h (suc r) b calls given w = subst P (sym w.1) f

  after_cold_has : (first : Given) → P first → (r : ℕ) → Replies P (AfterCold ask cold warm add first r)
  after_cold_has first f zero b calls given w = subst P (sym w.1) f
  after_cold_has first f (suc r) b calls given w = after_warm_has first w.3 f (in_warm b w.0 w.3 w.4) (rank w.3) (b + length w.0) w.1 given w.5

  pub warm_up_has : Replies P (WarmUpWord ask cold warm add)
  warm_up_has b calls given w = after_cold_has w.3 (in_cold b w.0 w.3 w.4) (rank w.3) (b + length w.0) w.1 given w.5

-- what holds of each answer of a server and of the two fixed replies holds of each reply
module _ (P : Given → Type 0) (ask : Ask) (answers : (b : ℕ) (outcome : Outcome) → FitsOutcome (plain_get ask) outcome → P (given_by b outcome)) (null : P (null_reply (plain_get ask))) (failing : P failing_reply) where
  mutual
    pub get_has : (p : Plan) (origin : Origin) → Replies P (PlanWord p (plain_get ask) origin)
    get_has (Server t) origin b calls given w = subst P (sym w.3) (answers b w.0 w.1)
    get_has Null origin b calls given w = subst P (sym w.1) null
    get_has Failing origin b calls given w = subst P (sym w.1) failing
    get_has (AllSync ps) origin b calls given w = worst_is P w.0 given (all_have ps origin b calls w.0 w.1) w.2
    get_has (Failover ps) origin b calls given w = first_has ps 4 origin b calls given w
    get_has (MissFailover ps) origin b calls given w = first_has ps 1 origin b calls given w
    get_has (WarmUp cold warm e) origin b calls given w =
        warm_up_has P (plain_get ask) (PlanWord cold (plain_get ask) origin) (PlanWord warm (plain_get ask) origin) (λ hit i. PlanWord cold (refill (plain_get ask) hit e) (CopyOf i)) (get_has cold origin) (get_has warm origin) b calls given w
    get_has (ByOperation policies) origin b calls given w = policy_has policies origin b calls given w

    all_have : (ps : Plans) (origin : Origin) → Replies (Each P) (WordOfAll ps (plain_get ask) origin)
    all_have End origin b calls all w = subst (Each P) (sym w.1) tt
    all_have (More p ps) origin b calls all w = subst (Each P) (sym w.6) (get_has p origin b w.0 w.3 w.4, all_have ps origin (b + length w.0) w.1 w.5 w.7)

    first_has : (ps : Plans) (limit : ℕ) (origin : Origin) → Replies P (WordOfFirst ps limit (plain_get ask) origin)
    first_has End limit origin b calls given w = absurd w
    first_has (More p ps) limit origin b calls given (inl w) = get_has p origin b calls given w.0
    first_has (More p ps) limit origin b calls given (inr w) = first_has ps limit origin (b + length w.0) w.1 given w.6

    policy_has : (ps : PlanPolicies) (origin : Origin) → Replies P (WordOfPolicy ps (plain_get ask) origin)
    policy_has (Otherwise p) origin b calls given w = get_has p origin b calls given w
    policy_has (Policy o p rest) origin b calls given w =
        match_bool (same_op o Get) _ _ (P given) w (λ h. get_has p origin b calls given h) (λ h. policy_has rest origin b calls given h)

-- a reply of rank 0 names the call whose hit it is
abbrev pub NamesHit : Given → Type 0
NamesHit given = rank given ≡ 0 → IsSome given.from

pub hit_shows : (answer : Answer) → FitsFetch false answer → rank_of answer ≡ 0 → shows answer ≡ true
hit_shows (Hit f b c) fit r = refl
hit_shows Stored fit r = absurd (cc)
hit_shows NotStored fit r = absurd (cc)
hit_shows Exists fit r = absurd (cc)
hit_shows NotFound fit r = absurd (cc)
hit_shows Deleted fit r = absurd (cc)
hit_shows Touched fit r = absurd (cc)
hit_shows (Number n) fit r = absurd (cc)
hit_shows Miss fit r = absurd (cc)
hit_shows (Meta c f) fit r = absurd (cc)
hit_shows (ClientError t) fit r = absurd (cc)
hit_shows Error fit r = absurd (cc)
hit_shows (ServerError t) fit r = absurd (cc)

pub names_hit : (ask : Ask) (b : ℕ) (outcome : Outcome) → FitsOutcome (plain_get ask) outcome → NamesHit (given_by b outcome)
names_hit ask b (Answered answer) fit r = subst (λ t. IsSome (cond t (Some b) None)) (sym (hit_shows answer fit.listed r)) refl
names_hit ask b Failed fit r = absurd (cc)

pub get_names_hit : (p : Plan) (ask : Ask) (origin : Origin) → Replies NamesHit (PlanWord p (plain_get ask) origin)
get_names_hit p ask origin = get_has NamesHit ask (names_hit ask) (λ r. absurd (cc)) (λ r. absurd (cc)) p origin
