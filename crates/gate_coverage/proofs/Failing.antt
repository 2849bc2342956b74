-- A reply of the greatest rank and a hit are computed rightly: no word has one where none is computed.
use Rattle.std.proofs.Common.{◌≡◌, ℕ, zero, suc, ◌+◌, ◌≤◌, true, List, length, Option, Some, None, ◌⊎◌, inl, inr, ⊎_elim, refl, sym, ap, subst, arith}
use Rattle.mc_types.specs.declared.ask.Op.{Op}
use Rattle.mc_types.specs.declared.ask.Op.TheVariants.{Get, Gat, Set, Add, Replace, Append, Prepend, Cas, Delete, Incr, Decr, Touch}
use Rattle.mc_types.specs.declared.ask.Dialect.{Dialect}
use Rattle.mc_types.specs.declared.ask.Dialect.TheVariants as dialects
use Rattle.mc_types.specs.declared.ask.Ask.{Ask}
use Rattle.mc_types.specs.declared.answer.Answer.{Answer}
use Rattle.mc_types.specs.declared.call.Origin.{Origin}
use Rattle.mc_types.specs.declared.call.Origin.TheVariants.{CopyOf}
use Rattle.mc_types.specs.Rank.{rank_of, IsWorst, NoneAbove}
use Rattle.fresh_runs.specs.Calls.{Call}
use Rattle.route_tree.specs.Operation.{same_op}
use Rattle.route_tree.specs.Plan.{Plan, Plans, PlanPolicies, Server, Null, Failing, AllSync, Failover, MissFailover, WarmUp, ByOperation, End, More, Otherwise, Policy}
use Rattle.route_tree.specs.Word.{Given, rank, null_reply, answer_of_nothing, plain_get, refill, is_plain_get, PlanWord, WordOfAll, WordOfFirst, WordOfHead, WordOfPolicy, AfterRefill, Refilled, AfterWarm, AfterCold, WarmUpWord}
use Rattle.route_tree.proofs.Parts.{match_bool}
use Rattle.gate_coverage.specs.Computed.{asks_get, can_fail, fails_some, fails_each, fails_last, fails_head, fails_policy, hits, hits_each, hits_first, hits_some, hits_head, hits_policy}
use Rattle.gate_coverage.proofs.Choices.{both, either_left, either_right, bool_is, if_true, if_false, true_match, false_match, by_get, only_get, only_other, is_get_of, no_get_of}

null_one : (d : Dialect) (op : Op) → rank_of (answer_of_nothing d op) ≡ 1
null_one dialects.Classic Get = refl
null_one dialects.Classic Gat = refl
null_one dialects.Classic Set = refl
null_one dialects.Classic Add = refl
null_one dialects.Classic Replace = refl
null_one dialects.Classic Append = refl
null_one dialects.Classic Prepend = refl
null_one dialects.Classic Cas = refl
null_one dialects.Classic Delete = refl
null_one dialects.Classic Incr = refl
null_one dialects.Classic Decr = refl
null_one dialects.Classic Touch = refl
null_one dialects.Meta Get = refl
null_one dialects.Meta Gat = refl
null_one dialects.Meta Set = refl
null_one dialects.Meta Add = refl
null_one dialects.Meta Replace = refl
null_one dialects.Meta Append = refl
null_one dialects.Meta Prepend = refl
null_one dialects.Meta Cas = refl
null_one dialects.Meta Delete = refl
null_one dialects.Meta Incr = refl
null_one dialects.Meta Decr = refl
null_one dialects.Meta Touch = refl

-- the reply of a null route has rank 1
pub null_rank : (ask : Ask) → rank (null_reply ask) ≡ 1
null_rank ask = null_one ask.dialect ask.op

-- the reply of a warm-up: the cold side's with a rank above 0, or one of rank 0 that is either side's
abbrev pub OfSides : (cold warm : Given → Type 0) → Given → Type 0
OfSides cold warm given = cold given ⊎ ((rank given ≡ 0) × warm given)

module _ (ask : Ask) (cold : ℕ → List Call → Given → Type 0) (warm : ℕ → List Call → Given → Type 0) (add : Answer → ℕ → ℕ → List Call → Given → Type 0) (C W : Given → Type 0) (in_cold : (b : ℕ) (calls : List Call) (given : Given) → cold b calls given → C given) (in_warm : (b : ℕ) (calls : List Call) (given : Given) → warm b calls given → W given) where
  after_refill : (g : Given) → W g → rank g ≡ 0 → (b : ℕ) (calls : List Call) (given : Given) → AfterRefill ask cold warm add g b calls given → OfSides C W given
  after_refill g h z b calls given w = match_bool (is_plain_get ask) _ _ (OfSides C W given) w (λ k. subst (OfSides C W) (sym k.1) (inr (z, h))) (λ k. inl (in_cold b calls given k))

  refilled : (g : Given) → W g → rank g ≡ 0 → (from : Option ℕ) (b : ℕ) (calls : List Call) (given : Given) → Refilled ask cold warm add g from b calls given → OfSides C W given
  refilled g h z None b calls given w = absurd w
  refilled g h z (Some i) b calls given w = after_refill g h z (b + length w.0) w.1 given w.5

  after_warm : (first g : Given) → C first → W g → (r : ℕ) → rank g ≡ r → (b : ℕ) (calls : List Call) (given : Given) → AfterWarm ask cold warm add first g r b calls given → OfSides C W given
  after_warm first g f h zero z b calls given w = refilled g h z g.from b calls given w
  after_warm first g f h (suc r) z b calls given w = subst (OfSides C W) (sym w.1) (inl f)

  after_cold : (first : Given) → C first → (r : ℕ) (b : ℕ) (calls : List Call) (given : Given) → AfterCold ask cold warm add first r b calls given → OfSides C W given
  after_cold first f zero b calls given w = subst (OfSides C W) (sym w.1) (inl f)
  after_cold first f (suc r) b calls given w = after_warm first w.3 f (in_warm b w.0 w.3 w.4) (rank w.3) refl (b + length w.0) w.1 given w.5

  pub warm_up_sides : (b : ℕ) (calls : List Call) (given : Given) → WarmUpWord ask cold warm add b calls given → OfSides C W given
  warm_up_sides b calls given w = after_cold w.3 (in_cold b w.0 w.3 w.4) (rank w.3) (b + length w.0) w.1 given w.5

-- the reply has the greatest rank only where that is computed
abbrev pub Fails : Op → Plan → Given → Type 0
Fails op p given = 4 ≤ rank given → can_fail op p ≡ true

mutual
  pub word_fails : (p : Plan) (ask : Ask) (origin : Origin) (b : ℕ) (calls : List Call) (given : Given) → PlanWord p ask origin b calls given → Fails ask.op p given
  word_fails (Server t) ask origin b calls given w le = refl
  word_fails Null ask origin b calls given w le = absurd (let e = ap rank w.1 in let n = null_rank ask in omega arith)
  word_fails Failing ask origin b calls given w le = refl
  word_fails (AllSync ps) ask origin b calls given w le = some_fails ps ask origin b calls w.0 given w.1 w.2 le
  word_fails (Failover ps) ask origin b calls given w le = each_fails ps ask origin b calls given w le
  word_fails (MissFailover ps) ask origin b calls given w le =
      by_get ask.op _
      (λ e. if_true (asks_get ask.op) _ _ (is_get_of ask.op e) (last_fails ps ask origin b calls given (only_get ask.op _ _ e w) le))
      (λ n. if_false (asks_get ask.op) _ _ (no_get_of ask.op n) (head_fails ps ask origin b calls given (only_other ask.op _ _ n w) le))
  word_fails (WarmUp cold warm e) ask origin b calls given w le =
      by_get ask.op _
      (λ op. ⊎_elim
      (λ h. h le)
      (λ z. absurd (let r = z.0 in omega arith))
      (warm_up_sides ask (PlanWord cold ask origin) (PlanWord warm (plain_get ask) origin) (λ hit i. PlanWord cold (refill ask hit e) (CopyOf i)) (Fails ask.op cold) (λ g. Unit {0}) (λ b' c' g' w'. word_fails cold ask origin b' c' g' w') (λ _ _ _ _. tt) b calls given (only_get ask.op _ _ op w)))
      (λ n. word_fails cold ask origin b calls given (only_other ask.op _ _ n w) le)
  word_fails (ByOperation policies) ask origin b calls given w le = policy_fails policies ask origin b calls given w le

  some_fails : (ps : Plans) (ask : Ask) (origin : Origin) (b : ℕ) (calls : List Call) (all : List Given) (worst : Given) → WordOfAll ps ask origin b calls all → IsWorst rank all worst → 4 ≤ rank worst → fails_some ask.op ps ≡ true
  some_fails End ask origin b calls all worst w is le = absurd (subst (λ a. IsWorst rank a worst) w.1 is)
  some_fails (More p ps) ask origin b calls all worst w is le =
      ⊎_elim
      (λ here. either_left (can_fail ask.op p) _ (word_fails p ask origin b w.0 w.3 w.4 (let e = ap rank here.0 in omega arith)))
      (λ there. either_right (can_fail ask.op p) _ (some_fails ps ask origin (b + length w.0) w.1 w.5 worst w.7 there.1 le))
      (subst (λ a. IsWorst rank a worst) w.6 is)

  each_fails : (ps : Plans) (ask : Ask) (origin : Origin) (b : ℕ) (calls : List Call) (given : Given) → WordOfFirst ps 4 ask origin b calls given → 4 ≤ rank given → fails_each ask.op ps ≡ true
  each_fails End ask origin b calls given w le = absurd w
  each_fails (More p End) ask origin b calls given (inl w) le = both (can_fail ask.op p) true (word_fails p ask origin b calls given w.0 le) refl
  each_fails (More p (More q qs)) ask origin b calls given (inl w) le = absurd (⊎_elim (λ lt. (let h : ⊥ = omega arith in h)) (λ e. e) w.1)
  each_fails (More p ps) ask origin b calls given (inr w) le =
      both (can_fail ask.op p) _ (word_fails p ask origin b w.0 w.3 w.4 w.5) (each_fails ps ask origin (b + length w.0) w.1 given w.6 le)

  last_fails : (ps : Plans) (ask : Ask) (origin : Origin) (b : ℕ) (calls : List Call) (given : Given) → WordOfFirst ps 1 ask origin b calls given → 4 ≤ rank given → fails_last ask.op ps ≡ true
  last_fails End ask origin b calls given w le = absurd w
  last_fails (More p End) ask origin b calls given (inl w) le = word_fails p ask origin b calls given w.0 le
  last_fails (More p End) ask origin b calls given (inr w) le = absurd w.6
  last_fails (More p (More q qs)) ask origin b calls given (inl w) le = absurd (⊎_elim (λ lt. (let h : ⊥ = omega arith in h)) (λ e. e) w.1)
  last_fails (More p (More q qs)) ask origin b calls given (inr w) le = last_fails (More q qs) ask origin (b + length w.0) w.1 given w.6 le

  head_fails : (ps : Plans) (ask : Ask) (origin : Origin) (b : ℕ) (calls : List Call) (given : Given) → WordOfHead ps ask origin b calls given → 4 ≤ rank given → fails_head ask.op ps ≡ true
  head_fails End ask origin b calls given w le = absurd w
  head_fails (More p ps) ask origin b calls given w le = word_fails p ask origin b calls given w le

  policy_fails : (ps : PlanPolicies) (ask : Ask) (origin : Origin) (b : ℕ) (calls : List Call) (given : Given) → WordOfPolicy ps ask origin b calls given → 4 ≤ rank given → fails_policy ask.op ps ≡ true
  policy_fails (Otherwise p) ask origin b calls given w le = word_fails p ask origin b calls given w le
  policy_fails (Policy o p rest) ask origin b calls given w le =
      ⊎_elim
      (λ e. if_true (same_op o ask.op) _ _ e (word_fails p ask origin b calls given (true_match _ _ _ e w) le))
      (λ e. if_false (same_op o ask.op) _ _ e (policy_fails rest ask origin b calls given (false_match _ _ _ e w) le))
      (bool_is (same_op o ask.op))

-- the reply is a hit only where that is computed
abbrev pub Hits : Op → Plan → Given → Type 0
Hits op p given = rank given ≡ 0 → hits op p ≡ true

mutual
  pub word_hits : (p : Plan) (ask : Ask) (origin : Origin) (b : ℕ) (calls : List Call) (given : Given) → PlanWord p ask origin b calls given → Hits ask.op p given
  word_hits (Server t) ask origin b calls given w z = refl
  word_hits Null ask origin b calls given w z = absurd (let e = ap rank w.1 in let n = null_rank ask in omega arith)
  word_hits Failing ask origin b calls given w z = absurd (let e = ap rank w.1 in omega arith)
  word_hits (AllSync ps) ask origin b calls given w z = each_hits ps ask origin b calls w.0 given w.1 w.2 z
  word_hits (Failover ps) ask origin b calls given w z = first_hits ps ask origin b calls given w z
  word_hits (MissFailover ps) ask origin b calls given w z =
      by_get ask.op _
      (λ e. if_true (asks_get ask.op) _ _ (is_get_of ask.op e) (some_hits ps ask origin b calls given (only_get ask.op _ _ e w) z))
      (λ n. if_false (asks_get ask.op) _ _ (no_get_of ask.op n) (head_hits ps ask origin b calls given (only_other ask.op _ _ n w) z))
  word_hits (WarmUp cold warm e) ask origin b calls given w z =
      by_get ask.op _
      (λ op. ⊎_elim
      (λ h. either_left (hits ask.op cold) _ (h z))
      (λ h. either_right (hits ask.op cold) _ (both (asks_get ask.op) _ (is_get_of ask.op op) (subst (λ o. hits o warm ≡ true) (sym op) (h.1 h.0))))
      (warm_up_sides ask (PlanWord cold ask origin) (PlanWord warm (plain_get ask) origin) (λ hit i. PlanWord cold (refill ask hit e) (CopyOf i)) (Hits ask.op cold) (Hits Get warm) (λ b' c' g' w'. word_hits cold ask origin b' c' g' w') (λ b' c' g' w'. word_hits warm (plain_get ask) origin b' c' g' w') b calls given (only_get ask.op _ _ op w)))
      (λ n. either_left (hits ask.op cold) _ (word_hits cold ask origin b calls given (only_other ask.op _ _ n w) z))
  word_hits (ByOperation policies) ask origin b calls given w z = policy_hits policies ask origin b calls given w z

  each_hits : (ps : Plans) (ask : Ask) (origin : Origin) (b : ℕ) (calls : List Call) (all : List Given) (worst : Given) → WordOfAll ps ask origin b calls all → IsWorst rank all worst → rank worst ≡ 0 → hits_each ask.op ps ≡ true
  each_hits End ask origin b calls all worst w is z = absurd (subst (λ a. IsWorst rank a worst) w.1 is)
  each_hits (More p ps) ask origin b calls all worst w is z =
      ⊎_elim
      (λ here. both (hits ask.op p) _ (word_hits p ask origin b w.0 w.3 w.4 (let e = ap rank here.0 in omega arith)) (none_above_hits ps ask origin (b + length w.0) w.1 w.5 w.7 (subst (NoneAbove rank w.5) z here.1)))
      (λ there. absurd (let h = there.0 in omega arith))
      (subst (λ a. IsWorst rank a worst) w.6 is)

  pub none_above_hits : (ps : Plans) (ask : Ask) (origin : Origin) (b : ℕ) (calls : List Call) (all : List Given) → WordOfAll ps ask origin b calls all → NoneAbove rank all 0 → hits_each ask.op ps ≡ true
  none_above_hits End ask origin b calls all w none = refl
  none_above_hits (More p ps) ask origin b calls all w none =
      let h = subst (λ a. NoneAbove rank a 0) w.6 none in
      both (hits ask.op p) _ (word_hits p ask origin b w.0 w.3 w.4 (let k = h.0 in omega arith)) (none_above_hits ps ask origin (b + length w.0) w.1 w.5 w.7 h.1)

  first_hits : (ps : Plans) (ask : Ask) (origin : Origin) (b : ℕ) (calls : List Call) (given : Given) → WordOfFirst ps 4 ask origin b calls given → rank given ≡ 0 → hits_first ask.op ps ≡ true
  first_hits End ask origin b calls given w z = absurd w
  first_hits (More p ps) ask origin b calls given (inl w) z = either_left (hits ask.op p) _ (word_hits p ask origin b calls given w.0 z)
  first_hits (More p ps) ask origin b calls given (inr w) z =
      either_right (hits ask.op p) _ (both (can_fail ask.op p) _ (word_fails p ask origin b w.0 w.3 w.4 w.5) (first_hits ps ask origin (b + length w.0) w.1 given w.6 z))

  some_hits : (ps : Plans) (ask : Ask) (origin : Origin) (b : ℕ) (calls : List Call) (given : Given) → WordOfFirst ps 1 ask origin b calls given → rank given ≡ 0 → hits_some ask.op ps ≡ true
  some_hits End ask origin b calls given w z = absurd w
  some_hits (More p ps) ask origin b calls given (inl w) z = either_left (hits ask.op p) _ (word_hits p ask origin b calls given w.0 z)
  some_hits (More p ps) ask origin b calls given (inr w) z = either_right (hits ask.op p) _ (some_hits ps ask origin (b + length w.0) w.1 given w.6 z)

  head_hits : (ps : Plans) (ask : Ask) (origin : Origin) (b : ℕ) (calls : List Call) (given : Given) → WordOfHead ps ask origin b calls given → rank given ≡ 0 → hits_head ask.op ps ≡ true
  head_hits End ask origin b calls given w z = absurd w
  head_hits (More p ps) ask origin b calls given w z = word_hits p ask origin b calls given w z

  policy_hits : (ps : PlanPolicies) (ask : Ask) (origin : Origin) (b : ℕ) (calls : List Call) (given : Given) → WordOfPolicy ps ask origin b calls given → rank given ≡ 0 → hits_policy ask.op ps ≡ true
  policy_hits (Otherwise p) ask origin b calls given w z = word_hits p ask origin b calls given w z
  policy_hits (Policy o p rest) ask origin b calls given w z =
      ⊎_elim
      (λ e. if_true (same_op o ask.op) _ _ e (word_hits p ask origin b calls given (true_match _ _ _ e w) z))
      (λ e. if_false (same_op o ask.op) _ _ e (policy_hits rest ask origin b calls given (false_match _ _ _ e w) z))
      (bool_is (same_op o ask.op))
