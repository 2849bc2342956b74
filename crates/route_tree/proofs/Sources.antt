-- Each call of a word asks what a server takes, and a copy is of an item that an earlier call was answered.
use Rattle.std.proofs.Common.{◌≡◌, ℕ, zero, suc, ◌+◌, ◌≤◌, List, [], ◌∷◌, ◌++◌, length, Option, Some, None, MatchOption, ◌⊎◌, inl, inr, ⊎_elim, refl, sym, ap, ◌∙◌, subst, arith, append_assoc, append-nil, length-append}
use Rattle.mc_types.specs.KeyText.{IsKey}
use Rattle.mc_types.specs.Asks.{IsAsk, data_limit}
use Rattle.mc_types.specs.Fits.{IsAnswer}
use Rattle.mc_types.specs.declared.ask.Dialect.{Dialect}
use Rattle.mc_types.specs.declared.ask.Dialect.TheVariants.{Classic}
use Rattle.mc_types.specs.declared.ask.Ask.{Ask}
use Rattle.mc_types.specs.declared.answer.Answer.{Answer}
use Rattle.mc_types.specs.declared.answer.Answer.TheVariants.{Hit}
use Rattle.mc_types.specs.declared.call.Origin.{Origin}
use Rattle.mc_types.specs.declared.call.Origin.TheVariants.{Client, CopyOf}
use Rattle.fresh_runs.specs.Calls.{Call}
use Rattle.fresh_runs.specs.Cover.{IsAnswerOf}
use Rattle.route_tree.specs.Operation.{same_op}
use Rattle.route_tree.specs.Plan.{Plan, Plans, PlanPolicies, Server, Null, Failing, AllSync, Failover, MissFailover, WarmUp, ByOperation, End, More, Otherwise, Policy}
use Rattle.route_tree.specs.Word.{Given, rank, plain_get, refill, is_plain_get, PlanWord, WordOfAll, WordOfFirst, WordOfHead, WordOfPolicy, AfterRefill, Refilled, AfterWarm, AfterCold, WarmUpWord}
use Rattle.route_tree.specs.Sources.{IsFormed, IsSourced, AreAsked, CallsAreAsked}
use Rattle.route_tree.proofs.Parts.{match_bool, if_get}
use Rattle.route_tree.proofs.Showing.{IsFound, Found, Finds, get_front, get_back, answer_there, finds}

-- ---- what is asked

formed : (ask : Ask) → IsAsk ask → IsFormed ask
formed ask is = record { key = is.key; body = is.ranges.body; shape = is.shape }

get_is_ask : (ask : Ask) → IsKey ask.key → IsAsk (plain_get ask)
get_is_ask ask key = record {
  key = key;
  ranges = record { flags = omega arith; exptime = tt; body = omega arith; cas = tt; delta = omega arith };
  shape = record { with_cas = tt; flags = refl; exptime = refl; body = refl; cas = refl; delta = refl; tokens = refl };
}

-- what a hit shows can be stored
abbrev HitFits : Answer → Type 0
HitFits (Hit flags body cas) = length body ≤ data_limit
HitFits _ = Unit {0}

hit_fits : (answer : Answer) → IsAnswer answer → HitFits answer
hit_fits (Hit flags body cas) is = is.1
hit_fits _ is = tt

refill_formed : (ask : Ask) (hit : Answer) (e : ℕ) → IsKey ask.key → HitFits hit → IsFormed (refill ask hit e)
refill_formed ask (Hit flags body cas) e key fits =
    record { key = key; body = fits; shape = record { with_cas = refl; flags = tt; exptime = refl; body = tt; cas = refl; delta = refl; tokens = refl } }
refill_formed ask _ e key fits =
    record { key = key; body = omega arith; shape = record { with_cas = refl; flags = tt; exptime = refl; body = tt; cas = refl; delta = refl; tokens = refl } }

refill_classic : (ask : Ask) (hit : Answer) (e : ℕ) → (refill ask hit e).dialect ≡ Classic
refill_classic ask (Hit flags body cas) e = refl
refill_classic ask _ e = refl

-- ---- calls after others

module _ (d : Dialect) where
  -- counted from an earlier call
  moved_source : (o : Origin) (b n : ℕ) (front later : List Call) (call : Call) → n ≡ b + length front → IsSourced o n later call → IsSourced o b (front ++ later) call
  moved_source o b n front later call e (inl same) = inl same
  moved_source o b n front later call e (inr copy) =
      let at : n + copy.0 ≡ b + (length front + copy.0) = omega (arith, e) in
      inr (length front + copy.0, copy.1, copy.2 ∙ ap CopyOf at, answer_there later (front ++ later) copy.0 (length front + copy.0) copy.1 (get_back front later copy.0) copy.3)

  moved : (o : Origin) (b n : ℕ) (front later calls : List Call) → n ≡ b + length front → AreAsked d o n later calls → AreAsked d o b (front ++ later) calls
  moved o b n front later [] e h = tt
  moved o b n front later (call ∷ calls) e h =
      (h.0, h.1, moved_source o b n front later call e h.2, subst (λ l. AreAsked d o b l calls) (sym (append_assoc front later (call ∷ []))) (moved o b n front (later ++ call ∷ []) calls e h.3))

  joined : (o : Origin) (b : ℕ) (before front back : List Call) → AreAsked d o b before front → AreAsked d o b (before ++ front) back → AreAsked d o b before (front ++ back)
  joined o b before [] back h k = subst (λ l. AreAsked d o b l back) (append-nil before) k
  joined o b before (call ∷ front) back h k =
      (h.0, h.1, h.2, joined o b (before ++ call ∷ []) front back h.3 (subst (λ l. AreAsked d o b l back) (sym (append_assoc before (call ∷ []) front)) k))

  -- one stretch of calls and then another
  join : (o : Origin) (b : ℕ) (calls front back : List Call) → calls ≡ front ++ back → AreAsked d o b [] front → AreAsked d o (b + length front) [] back → AreAsked d o b [] calls
  join o b calls front back e h k =
      subst (AreAsked d o b []) (sym e)
      (joined o b [] front back h (subst (λ l. AreAsked d o b l back) (append-nil front) (moved o b (b + length front) front [] back refl k)))

  -- data of the item that call j was answered have a source
  copied : (o : Origin) (b w j : ℕ) (answer : Answer) (before calls : List Call) → w ≡ b + j → IsAnswerOf before j answer → AreAsked d (CopyOf w) b before calls → AreAsked d o b before calls
  copied o b w j answer before [] e there h = tt
  copied o b w j answer before (call ∷ calls) e there h = (
    h.0,
    h.1,
    ⊎_elim (λ same. inr (j, answer, same ∙ ap CopyOf e, there)) (λ other. inr other) h.2,
    copied o b w j answer (before ++ call ∷ []) calls e (answer_there before (before ++ call ∷ []) j j answer (get_front before (call ∷ []) j) there) h.3,
  )

  none : (o : Origin) (b : ℕ) (before calls : List Call) → calls ≡ [] → AreAsked d o b before calls
  none o b before calls e = subst (AreAsked d o b before) (sym e) tt

  -- each stretch of the part is asked so
  abbrev Asks : {G : Type 0} → Origin → (ℕ → List Call → G → Type 0) → Type 0
  Asks {G} o part = (b : ℕ) (calls : List Call) (given : G) → part b calls given → AreAsked d o b [] calls

  module _ (o : Origin) (ask : Ask) (cold : ℕ → List Call → Given → Type 0) (warm : ℕ → List Call → Given → Type 0) (add : Answer → ℕ → ℕ → List Call → Given → Type 0) (in_cold : Asks o cold) (in_warm : Asks o warm) (warm_finds : Finds warm) (in_add : (hit : Answer) (w : ℕ) → HitFits hit → Asks (CopyOf w) (add hit w)) where
    after_refill_asks : (g : Given) (n : ℕ) (calls : List Call) (given : Given) → AfterRefill ask cold warm add g n calls given → AreAsked d o n [] calls
    after_refill_asks g n calls given w = match_bool (is_plain_get ask) _ _ (AreAsked d o n [] calls) w (λ h. none o n [] calls h.0) (λ h. in_cold n calls given h)

    refilled_asks : (b : ℕ) (before : List Call) (g : Given) (from : Option ℕ) → MatchOption from (Unit {0}) (IsFound b before g.reply) → (calls : List Call) (given : Given) → Refilled ask cold warm add g from (b + length before) calls given → AreAsked d o b before calls
    refilled_asks b before g None found calls given x = absurd x
    refilled_asks b before g (Some w) found calls given x =
        let n = b + length before in
        let added : AreAsked d (CopyOf w) b before x.0 =
        subst (λ l. AreAsked d (CopyOf w) b l x.0) (append-nil before) (moved (CopyOf w) b n before [] x.0 refl (in_add g.reply w (hit_fits g.reply found.2.fits.ranges) n x.0 x.3 x.4)) in
        let sum : length (before ++ x.0) ≡ length before + length x.0 = length-append before x.0 in
        let at : n + length x.0 ≡ b + length (before ++ x.0) = omega (arith, sum) in
        let again : AreAsked d o b (before ++ x.0) x.1 =
        subst (λ l. AreAsked d o b l x.1) (append-nil (before ++ x.0)) (moved o b (n + length x.0) (before ++ x.0) [] x.1 at (after_refill_asks g (n + length x.0) x.1 given x.5)) in
        subst (AreAsked d o b before) (sym x.2) (joined o b before x.0 x.1 (copied o b w found.0 g.reply before x.0 found.1 found.2 added) again)

    weaker : (A : Type 0) (P : ℕ → Type 0) (from : Option ℕ) → MatchOption from A P → MatchOption from (Unit {0}) P
    weaker A P None h = tt
    weaker A P (Some i) h = h

    after_warm_asks : (b : ℕ) (before : List Call) (first g : Given) (r : ℕ) → Found b before g → (calls : List Call) (given : Given) → AfterWarm ask cold warm add first g r (b + length before) calls given → AreAsked d o b before calls
    after_warm_asks b before first g zero found calls given x = refilled_asks b before g g.from (weaker _ (IsFound b before g.reply) g.from found) calls given x
    after_warm_asks b before first g (suc r) found calls given x = none o b before calls x.0

    after_cold_asks : (first : Given) (r b : ℕ) (calls : List Call) (given : Given) → AfterCold ask cold warm add first r b calls given → AreAsked d o b [] calls
    after_cold_asks first zero b calls given x = none o b [] calls x.0
    after_cold_asks first (suc r) b calls given x =
        subst (AreAsked d o b []) (sym x.2)
        (joined o b [] x.0 x.1 (in_warm b x.0 x.3 x.4) (after_warm_asks b x.0 first x.3 (rank x.3) (warm_finds b x.0 x.3 x.4) x.1 given x.5))

    pub warm_up_asks : Asks o (WarmUpWord ask cold warm add)
    warm_up_asks b calls given x = join o b calls x.0 x.1 x.2 (in_cold b x.0 x.3 x.4) (after_cold_asks x.3 (rank x.3) (b + length x.0) x.1 given x.5)

  -- ---- every word

  mutual
    asked : (p : Plan) (ask : Ask) → IsFormed ask → (d ≡ Classic → ask.dialect ≡ Classic) → (o : Origin) → Asks o (PlanWord p ask o)
    asked (Server s) ask is c o b calls given w = subst (AreAsked d o b []) (sym w.2) (is, c, inl refl, tt)
    asked Null ask is c o b calls given w = none o b [] calls w.0
    asked Failing ask is c o b calls given w = none o b [] calls w.0
    asked (AllSync ps) ask is c o b calls given w = all_asked ps ask is c o b calls w.0 w.1
    asked (Failover ps) ask is c o b calls given w = first_asked ps 4 ask is c o b calls given w
    asked (MissFailover ps) ask is c o b calls given w =
        if_get ask.op _ _ (AreAsked d o b [] calls) w (λ _ h. first_asked ps 1 ask is c o b calls given h) (λ h. head_asked ps ask is c o b calls given h)
    asked (WarmUp cold warm e) ask is c o b calls given w =
        if_get ask.op _ _ (AreAsked d o b [] calls) w
        (λ _ h. warm_up_asks o ask (PlanWord cold ask o) (PlanWord warm (plain_get ask) o) (λ hit i. PlanWord cold (refill ask hit e) (CopyOf i))
        (asked cold ask is c o)
        (asked warm (plain_get ask) (formed (plain_get ask) (get_is_ask ask is.key)) (λ _. refl) o)
        (finds warm (plain_get ask) (get_is_ask ask is.key) o)
        (λ hit i fits. asked cold (refill ask hit e) (refill_formed ask hit e is.key fits) (λ _. refill_classic ask hit e) (CopyOf i))
        b calls given h)
        (λ h. asked cold ask is c o b calls given h)
    asked (ByOperation policies) ask is c o b calls given w = policy_asked policies ask is c o b calls given w

    all_asked : (ps : Plans) (ask : Ask) → IsFormed ask → (d ≡ Classic → ask.dialect ≡ Classic) → (o : Origin) → Asks o (WordOfAll ps ask o)
    all_asked End ask is c o b calls all w = none o b [] calls w.0
    all_asked (More p ps) ask is c o b calls all w = join o b calls w.0 w.1 w.2 (asked p ask is c o b w.0 w.3 w.4) (all_asked ps ask is c o (b + length w.0) w.1 w.5 w.7)

    first_asked : (ps : Plans) (limit : ℕ) (ask : Ask) → IsFormed ask → (d ≡ Classic → ask.dialect ≡ Classic) → (o : Origin) → Asks o (WordOfFirst ps limit ask o)
    first_asked End limit ask is c o b calls given w = absurd w
    first_asked (More p ps) limit ask is c o b calls given (inl w) = asked p ask is c o b calls given w.0
    first_asked (More p ps) limit ask is c o b calls given (inr w) = join o b calls w.0 w.1 w.2 (asked p ask is c o b w.0 w.3 w.4) (first_asked ps limit ask is c o (b + length w.0) w.1 given w.6)

    head_asked : (ps : Plans) (ask : Ask) → IsFormed ask → (d ≡ Classic → ask.dialect ≡ Classic) → (o : Origin) → Asks o (WordOfHead ps ask o)
    head_asked End ask is c o b calls given w = absurd w
    head_asked (More p ps) ask is c o b calls given w = asked p ask is c o b calls given w

    policy_asked : (ps : PlanPolicies) (ask : Ask) → IsFormed ask → (d ≡ Classic → ask.dialect ≡ Classic) → (o : Origin) → Asks o (WordOfPolicy ps ask o)
    policy_asked (Otherwise p) ask is c o b calls given w = asked p ask is c o b calls given w
    policy_asked (Policy op p rest) ask is c o b calls given w =
        match_bool (same_op op ask.op) _ _ (AreAsked d o b [] calls) w (λ h. asked p ask is c o b calls given h) (λ h. policy_asked rest ask is c o b calls given h)

pub calls_are_asked : CallsAreAsked
calls_are_asked plain ask calls given is w = asked ask.dialect plain ask (formed ask is) (λ e. e) Client 0 calls given w
