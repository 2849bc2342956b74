-- Each ask has a word, and each outcome of a call goes on to one.
use Rattle.std.proofs.Common.{◌≡◌, ℕ, zero, suc, ◌+◌, ◌≤◌, List, [], ◌∷◌, ◌++◌, length, Option, Some, None, IsSome, inl, inr, ⊎_elim, refl, sym, ap, ◌∙◌, subst, arith, append_assoc, le_of_lt}
use Rattle.std.proofs.lemmas.Bool.{cases_lt}
use Rattle.mc_types.specs.declared.ask.Ask.{Ask}
use Rattle.mc_types.specs.declared.answer.Answer.{Answer}
use Rattle.mc_types.specs.declared.call.Origin.{Origin}
use Rattle.mc_types.specs.declared.call.Origin.TheVariants.{CopyOf}
use Rattle.mc_types.specs.declared.call.Outcome.TheVariants.{Failed}
use Rattle.mc_types.specs.Rank.{IsWorst, NoneAbove}
use Rattle.fresh_runs.specs.Calls.{Call}
use Rattle.fresh_runs.specs.Single.{FitsOutcome}
use Rattle.route_tree.specs.Operation.{same_op}
use Rattle.route_tree.specs.Plan.{Plan, Plans, PlanPolicies, Server, Null, Failing, AllSync, Failover, MissFailover, WarmUp, ByOperation, End, More, Otherwise, Policy, IsNotEmpty, IsGoodPlan, AreGoodPlans, AreGoodPlanPolicies}
use Rattle.route_tree.specs.Word.{Given, rank, given_by, null_reply, failing_reply, plain_get, refill, is_plain_get, PlanWord, WordOfAll, WordOfFirst, WordOfHead, WordOfPolicy, Then, GivesOnly, AfterRefill, Refilled, AfterWarm, AfterCold, WarmUpWord}
use Rattle.route_tree.specs.WordLaws.{ended, EachAskHasAWord, EachOutcomeGoesOn}
use Rattle.route_tree.proofs.Parts.{Replies, HasSome, Rest, GoesOn, split, goes_after, gives_on, gives_some, then_some, then_on, if_on, if_some, match_on, match_some}
use Rattle.route_tree.proofs.Gets.{NamesHit, get_names_hit}

-- ---- the worst of some replies

pub none_weaker : (gs : List Given) (r s : ℕ) → r ≤ s → NoneAbove rank gs r → NoneAbove rank gs s
none_weaker [] r s le h = tt
none_weaker (g ∷ gs) r s le h = ((let k = h.0 in omega arith), none_weaker gs r s le h.1)

pub worst_none : (gs : List Given) (worst : Given) → IsWorst rank gs worst → NoneAbove rank gs (rank worst)
worst_none [] worst w = absurd w
worst_none (g ∷ gs) worst (inl h) = ((let e = ap rank h.0 in omega arith), h.1)
worst_none (g ∷ gs) worst (inr h) = (le_of_lt h.0, worst_none gs worst h.1)

pub worst_of : (g : Given) (gs : List Given) → (worst : Given) × IsWorst rank (g ∷ gs) worst
worst_of g [] = (g, inl (refl, tt))
worst_of g (x ∷ gs) =
    let w = worst_of x gs in
    ⊎_elim (λ lt. (w.0, inr (lt, w.1))) (λ le. (g, inl (refl, none_weaker (x ∷ gs) (rank w.0) (rank g) le (worst_none (x ∷ gs) w.0 w.1)))) (cases_lt (rank g) (rank w.0))

pub worst_exists : (ps : Plans) → IsNotEmpty ps → (ask : Ask) (origin : Origin) (b : ℕ) (calls : List Call) (all : List Given) → WordOfAll ps ask origin b calls all → (worst : Given) × IsWorst rank all worst
worst_exists End some ask origin b calls all w = absurd some
worst_exists (More p ps) some ask origin b calls all w = let h = worst_of w.3 w.5 in (h.0, subst (λ gs. IsWorst rank gs h.0) (sym w.6) h.1)

-- ---- a warm-up

module _ (ask : Ask) (cold : ℕ → List Call → Given → Type 0) (warm : ℕ → List Call → Given → Type 0) (add : Answer → ℕ → ℕ → List Call → Given → Type 0) (cold_some : HasSome cold) (warm_some : HasSome warm) (add_some : (hit : Answer) (w : ℕ) → HasSome (add hit w)) (names : Replies NamesHit warm) where
  abbrev Any : Given → Type 0
  Any g = Unit {0}

  sure : (part : ℕ → List Call → Given → Type 0) → Replies Any part
  sure part b calls given w = tt

  pub after_refill_some : (g : Given) → HasSome (AfterRefill ask cold warm add g)
  after_refill_some g = match_some (is_plain_get ask) (GivesOnly g) cold (gives_some g) cold_some

  pub refilled_some : (g : Given) (from : Option ℕ) → IsSome from → HasSome (Refilled ask cold warm add g from)
  refilled_some g None some = absurd (cc)
  refilled_some g (Some i) some = then_some (add g.reply i) (λ _. AfterRefill ask cold warm add g) Any (sure (add g.reply i)) (λ _ _. after_refill_some g) (add_some g.reply i)

  pub after_warm_some : (first g : Given) (r : ℕ) → (r ≡ 0 → IsSome g.from) → HasSome (AfterWarm ask cold warm add first g r)
  after_warm_some first g zero some = refilled_some g g.from (some refl)
  after_warm_some first g (suc r) some = gives_some first

  pub after_cold_some : (first : Given) (r : ℕ) → HasSome (AfterCold ask cold warm add first r)
  after_cold_some first zero = gives_some first
  after_cold_some first (suc r) = then_some warm (λ g. AfterWarm ask cold warm add first g (rank g)) NamesHit names (λ g h. after_warm_some first g (rank g) h) warm_some

  pub warm_up_some : HasSome (WarmUpWord ask cold warm add)
  warm_up_some = then_some cold (λ first. AfterCold ask cold warm add first (rank first)) Any (sure cold) (λ first _. after_cold_some first (rank first)) cold_some

  module _ (cold_on : GoesOn cold) (warm_on : GoesOn warm) (add_on : (hit : Answer) (w : ℕ) → GoesOn (add hit w)) where
    pub after_refill_on : (g : Given) → GoesOn (AfterRefill ask cold warm add g)
    after_refill_on g = match_on (is_plain_get ask) (GivesOnly g) cold (gives_on g) cold_on

    pub refilled_on : (g : Given) (from : Option ℕ) → GoesOn (Refilled ask cold warm add g from)
    refilled_on g None b calls front call back given outcome e w fits = absurd w
    refilled_on g (Some i) b calls front call back given outcome e w fits =
        then_on (add g.reply i) (λ _. AfterRefill ask cold warm add g) Any (sure (add g.reply i)) (λ _ _. after_refill_some g) (add_on g.reply i) (λ _. after_refill_on g) b calls front call back given outcome e w fits

    pub after_warm_on : (first g : Given) (r : ℕ) → GoesOn (AfterWarm ask cold warm add first g r)
    after_warm_on first g zero = refilled_on g g.from
    after_warm_on first g (suc r) = gives_on first

    pub after_cold_on : (first : Given) (r : ℕ) → GoesOn (AfterCold ask cold warm add first r)
    after_cold_on first zero = gives_on first
    after_cold_on first (suc r) = then_on warm (λ g. AfterWarm ask cold warm add first g (rank g)) NamesHit names (λ g h. after_warm_some first g (rank g) h) warm_on (λ g. after_warm_on first g (rank g))

    pub warm_up_on : GoesOn (WarmUpWord ask cold warm add)
    warm_up_on = then_on cold (λ first. AfterCold ask cold warm add first (rank first)) Any (sure cold) (λ first _. after_cold_some first (rank first)) cold_on (λ first. after_cold_on first (rank first))

-- ---- children in order up to a reply of a lower rank

-- what the first child did can be gone on with
pub first_rest : (p : Plan) (ps : Plans) (limit : ℕ) (ask : Ask) (origin : Origin) → (IsNotEmpty ps → HasSome (WordOfFirst ps limit ask origin)) → (b : ℕ) (calls : List Call) → Rest (PlanWord p ask origin) b calls → Rest (WordOfFirst (More p ps) limit ask origin) b calls
first_rest p End limit ask origin some b calls r = (r.0, r.1, inl (r.2, inr tt))
first_rest p (More q qs) limit ask origin some b calls r =
    ⊎_elim
    (λ lt. (r.0, r.1, inl (r.2, inl lt)))
    (λ le.
    let more = some tt (b + length (calls ++ r.0)) in
    (r.0 ++ more.0, more.1, inr (calls ++ r.0, more.0, sym (append_assoc calls r.0 more.0), r.1, r.2, le, more.2)))
    (cases_lt (rank r.1) limit)

-- ---- every ask has a word

mutual
  pub has_word : (p : Plan) → IsGoodPlan p → (ask : Ask) (origin : Origin) → HasSome (PlanWord p ask origin)
  has_word (Server s) good ask origin b = (record { server = s; ask = ask; origin = origin; outcome = Failed } ∷ [], given_by b Failed, (Failed, tt, refl, refl))
  has_word Null good ask origin b = gives_some (null_reply ask) b
  has_word Failing good ask origin b = gives_some failing_reply b
  has_word (AllSync ps) good ask origin b =
      let w = all_some ps good.1 ask origin b in
      let worst = worst_exists ps good.0 ask origin b w.0 w.1 w.2 in
      (w.0, worst.0, (w.1, w.2, worst.1))
  has_word (Failover ps) good ask origin b = first_some ps 4 good.0 good.1 ask origin b
  has_word (MissFailover ps) good ask origin b =
      if_some ask.op (WordOfFirst ps 1 ask origin) (WordOfHead ps ask origin) (first_some ps 1 good.0 good.1 ask origin) (head_some ps good.0 good.1 ask origin) b
  has_word (WarmUp cold warm e) good ask origin b =
      if_some ask.op (WarmUpWord ask (PlanWord cold ask origin) (PlanWord warm (plain_get ask) origin) (λ hit i. PlanWord cold (refill ask hit e) (CopyOf i))) (PlanWord cold ask origin)
      (warm_up_some ask (PlanWord cold ask origin) (PlanWord warm (plain_get ask) origin) (λ hit i. PlanWord cold (refill ask hit e) (CopyOf i)) (has_word cold good.0 ask origin) (has_word warm good.1 (plain_get ask) origin) (λ hit i. has_word cold good.0 (refill ask hit e) (CopyOf i)) (get_names_hit warm ask origin))
      (has_word cold good.0 ask origin) b
  has_word (ByOperation policies) good ask origin b = policy_some policies good ask origin b

  pub all_some : (ps : Plans) → AreGoodPlans ps → (ask : Ask) (origin : Origin) → HasSome (WordOfAll ps ask origin)
  all_some End good ask origin b = ([], [], (refl, refl))
  all_some (More p ps) good ask origin b =
      let f = has_word p good.0 ask origin b in
      let more = all_some ps good.1 ask origin (b + length f.0) in
      (f.0 ++ more.0, f.1 ∷ more.1, (f.0, more.0, refl, f.1, f.2, more.1, refl, more.2))

  pub first_some : (ps : Plans) (limit : ℕ) → IsNotEmpty ps → AreGoodPlans ps → (ask : Ask) (origin : Origin) → HasSome (WordOfFirst ps limit ask origin)
  first_some End limit some good ask origin b = absurd some
  first_some (More p ps) limit some good ask origin b =
      let f = has_word p good.0 ask origin b in
      let more = first_rest p ps limit ask origin (λ s. first_some ps limit s good.1 ask origin) b [] f in
      (more.0, more.1, more.2)

  pub head_some : (ps : Plans) → IsNotEmpty ps → AreGoodPlans ps → (ask : Ask) (origin : Origin) → HasSome (WordOfHead ps ask origin)
  head_some End some good ask origin b = absurd some
  head_some (More p ps) some good ask origin b = has_word p good.0 ask origin b

  pub policy_some : (ps : PlanPolicies) → AreGoodPlanPolicies ps → (ask : Ask) (origin : Origin) → HasSome (WordOfPolicy ps ask origin)
  policy_some (Otherwise p) good ask origin b = has_word p good ask origin b
  policy_some (Policy op p rest) good ask origin b =
      match_some (same_op op ask.op) (PlanWord p ask origin) (WordOfPolicy rest ask origin) (has_word p good.0 ask origin) (policy_some rest good.1 ask origin) b

pub each_ask_has_a_word : EachAskHasAWord
each_ask_has_a_word plain ask origin b good = has_word plain good ask origin b

-- ---- each outcome goes on

pub server_on : (s : ℕ) (ask : Ask) (origin : Origin) → GoesOn (PlanWord (Server s) ask origin)
server_on s ask origin b calls [] call back given outcome e w fits =
    let is : call ≡ record { server = s; ask = ask; origin = origin; outcome = w.0 } = first_is call _ back [] (sym e ∙ w.2) in
    ([], given_by b outcome, (outcome, subst (λ (c : Call). FitsOutcome c.ask outcome) is fits, ap (λ c. ended c outcome ∷ []) is, refl))
  where
    first_is : (x y : Call) (xs ys : List Call) → x ∷ xs ≡ y ∷ ys → x ≡ y
    first_is x y xs ys h = cc
server_on s ask origin b calls (x ∷ front) call back given outcome e w fits = absurd (none front (rest_is x _ (front ++ call ∷ back) [] (sym e ∙ w.2)))
  where
    rest_is : (x y : Call) (xs ys : List Call) → x ∷ xs ≡ y ∷ ys → xs ≡ ys
    rest_is x y xs ys h = cc

    none : (xs : List Call) → xs ++ call ∷ back ≡ [] → ⊥
    none [] h = cc
    none (x ∷ xs) h = cc

-- where the call stands after the first child's, that child's calls stay
pub after_first : (p : Plan) (ps : Plans) (limit : ℕ) (ask : Ask) (origin : Origin) (b : ℕ) (front here more : List Call) (call : Call) (g : Given) → front ≡ here ++ more → PlanWord p ask origin b here g → limit ≤ rank g → Rest (WordOfFirst ps limit ask origin) (b + length here) (more ++ call ∷ []) → Rest (WordOfFirst (More p ps) limit ask origin) b (front ++ call ∷ [])
after_first p ps limit ask origin b front here more call g e w le r =
    let all : Rest (Then (PlanWord p ask origin) (λ g n l x. (limit ≤ rank g) × WordOfFirst ps limit ask origin n l x)) b (front ++ call ∷ []) =
    goes_after (PlanWord p ask origin) (λ g n l x. (limit ≤ rank g) × WordOfFirst ps limit ask origin n l x) b front here more call g e w (r.0, r.1, (le, r.2)) in
    (all.0, all.1, inr (all.2.0, all.2.1, all.2.2, all.2.3, all.2.4, all.2.5.0, all.2.5.1))

-- the first child's calls, and then the other children's
pub first_on : (p : Plan) (ps : Plans) (limit : ℕ) (ask : Ask) (origin : Origin) → (IsNotEmpty ps → HasSome (WordOfFirst ps limit ask origin)) → GoesOn (PlanWord p ask origin) → GoesOn (WordOfFirst ps limit ask origin) → GoesOn (WordOfFirst (More p ps) limit ask origin)
first_on p ps limit ask origin some f rest b calls front call back given outcome e (inl w) fits =
    first_rest p ps limit ask origin some b (front ++ ended call outcome ∷ []) (f b calls front call back given outcome e w.0 fits)
first_on p ps limit ask origin some f rest b calls front call back given outcome e (inr w) fits =
    ⊎_elim
    (λ h. first_rest p ps limit ask origin some b (front ++ ended call outcome ∷ []) (f b w.0 front call h.0 w.3 outcome h.1 w.4 fits))
    (λ h. after_first p ps limit ask origin b front w.0 h.0 (ended call outcome) w.3 h.1 w.4 w.5 (rest (b + length w.0) w.1 h.0 call back given outcome h.2 w.6 fits))
    (split w.0 w.1 front call back (sym w.2 ∙ e))

-- what the other children give stands after what the first gives
abbrev All : Plans → Ask → Origin → Given → ℕ → List Call → List Given → Type 0
All ps ask origin g b calls all = (rest : List Given) × (all ≡ g ∷ rest) × WordOfAll ps ask origin b calls rest

mutual
  pub goes_on : (p : Plan) → IsGoodPlan p → (ask : Ask) (origin : Origin) → GoesOn (PlanWord p ask origin)
  goes_on (Server s) good ask origin b calls front call back given outcome e w fits = server_on s ask origin b calls front call back given outcome e w fits
  goes_on Null good ask origin b calls front call back given outcome e w fits = gives_on (null_reply ask) b calls front call back given outcome e w fits
  goes_on Failing good ask origin b calls front call back given outcome e w fits = gives_on failing_reply b calls front call back given outcome e w fits
  goes_on (AllSync ps) good ask origin b calls front call back given outcome e w fits =
      let r = all_on ps good.1 ask origin b calls front call back w.0 outcome e w.1 fits in
      let worst = worst_exists ps good.0 ask origin b ((front ++ ended call outcome ∷ []) ++ r.0) r.1 r.2 in
      (r.0, worst.0, (r.1, r.2, worst.1))
  goes_on (Failover ps) good ask origin b calls front call back given outcome e w fits = each_on ps 4 good.1 ask origin b calls front call back given outcome e w fits
  goes_on (MissFailover ps) good ask origin b calls front call back given outcome e w fits =
      if_on ask.op (WordOfFirst ps 1 ask origin) (WordOfHead ps ask origin) (each_on ps 1 good.1 ask origin) (head_on ps good.1 ask origin) b calls front call back given outcome e w fits
  goes_on (WarmUp cold warm e) good ask origin b calls front call back given outcome same w fits =
      if_on ask.op (WarmUpWord ask (PlanWord cold ask origin) (PlanWord warm (plain_get ask) origin) (λ hit i. PlanWord cold (refill ask hit e) (CopyOf i))) (PlanWord cold ask origin)
      (warm_up_on ask (PlanWord cold ask origin) (PlanWord warm (plain_get ask) origin) (λ hit i. PlanWord cold (refill ask hit e) (CopyOf i)) (has_word cold good.0 ask origin) (has_word warm good.1 (plain_get ask) origin) (λ hit i. has_word cold good.0 (refill ask hit e) (CopyOf i)) (get_names_hit warm ask origin) (goes_on cold good.0 ask origin) (goes_on warm good.1 (plain_get ask) origin) (λ hit i. goes_on cold good.0 (refill ask hit e) (CopyOf i)))
      (goes_on cold good.0 ask origin) b calls front call back given outcome same w fits
  goes_on (ByOperation policies) good ask origin b calls front call back given outcome e w fits = policy_on policies good ask origin b calls front call back given outcome e w fits

  pub all_on : (ps : Plans) → AreGoodPlans ps → (ask : Ask) (origin : Origin) → GoesOn (WordOfAll ps ask origin)
  all_on End good ask origin b calls front call back all outcome e w fits = absurd (none front (sym e ∙ w.0))
    where
      none : (xs : List Call) → xs ++ call ∷ back ≡ [] → ⊥
      none [] h = cc
      none (x ∷ xs) h = cc
  all_on (More p ps) good ask origin b calls front call back all outcome e w fits =
      let r : Rest (Then (PlanWord p ask origin) (All ps ask origin)) b (front ++ ended call outcome ∷ []) =
      then_on (PlanWord p ask origin) (All ps ask origin) (λ _. Unit {0}) (λ _ _ _ _. tt)
      (λ g _ n. let r = all_some ps good.1 ask origin n in (r.0, g ∷ r.1, (r.1, refl, r.2)))
      (goes_on p good.0 ask origin)
      (λ g n l head x tail all o is v fit. let r = all_on ps good.1 ask origin n l head x tail v.0 o is v.2 fit in (r.0, g ∷ r.1, (r.1, refl, r.2)))
      b calls front call back all outcome e (w.0, w.1, w.2, w.3, w.4, (w.5, w.6, w.7)) fits in
      (r.0, r.1, (r.2.0, r.2.1, r.2.2, r.2.3, r.2.4, r.2.5.0, r.2.5.1, r.2.5.2))

  pub each_on : (ps : Plans) (limit : ℕ) → AreGoodPlans ps → (ask : Ask) (origin : Origin) → GoesOn (WordOfFirst ps limit ask origin)
  each_on End limit good ask origin b calls front call back given outcome e w fits = absurd w
  each_on (More p ps) limit good ask origin b calls front call back given outcome e w fits =
      first_on p ps limit ask origin (λ s. first_some ps limit s good.1 ask origin) (goes_on p good.0 ask origin) (each_on ps limit good.1 ask origin) b calls front call back given outcome e w fits

  pub head_on : (ps : Plans) → AreGoodPlans ps → (ask : Ask) (origin : Origin) → GoesOn (WordOfHead ps ask origin)
  head_on End good ask origin b calls front call back given outcome e w fits = absurd w
  head_on (More p ps) good ask origin b calls front call back given outcome e w fits = goes_on p good.0 ask origin b calls front call back given outcome e w fits

  pub policy_on : (ps : PlanPolicies) → AreGoodPlanPolicies ps → (ask : Ask) (origin : Origin) → GoesOn (WordOfPolicy ps ask origin)
  policy_on (Otherwise p) good ask origin b calls front call back given outcome e w fits = goes_on p good ask origin b calls front call back given outcome e w fits
  policy_on (Policy op p rest) good ask origin b calls front call back given outcome e w fits =
      match_on (same_op op ask.op) (PlanWord p ask origin) (WordOfPolicy rest ask origin) (goes_on p good.0 ask origin) (policy_on rest good.1 ask origin) b calls front call back given outcome e w fits

pub each_outcome_goes_on : EachOutcomeGoesOn
each_outcome_goes_on plain ask origin b front call back given outcome good w fits =
    let r = goes_on plain good ask origin b (front ++ call ∷ back) front call back given outcome refl w fits in
    (r.0, r.1, subst (λ l. PlanWord plain ask origin b l r.1) (append_assoc front (ended call outcome ∷ []) r.0) r.2)
