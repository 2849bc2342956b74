-- The word in which every call fails: it is no hit, and it has the greatest rank where that is computed.
use Rattle.std.proofs.Common.{◌≡◌, ℕ, suc, ◌+◌, ◌<◌, ◌≤◌, Bool, true, false, ◌&&◌, List, [], ◌∷◌, ◌++◌, length, Some, inl, inr, ⊎_elim, refl, sym, ap, ◌∙◌, subst, arith, append-nil}
use Rattle.std.proofs.lemmas.Bool.{cases_lt}
use Rattle.mc_types.specs.declared.ask.Op.{Op}
use Rattle.mc_types.specs.declared.ask.Op.TheVariants.{Add}
use Rattle.mc_types.specs.declared.ask.Ask.{Ask}
use Rattle.mc_types.specs.declared.answer.Answer.{Answer}
use Rattle.mc_types.specs.declared.call.Origin.{Origin}
use Rattle.mc_types.specs.declared.call.Origin.TheVariants.{CopyOf}
use Rattle.mc_types.specs.declared.call.Outcome.TheVariants.{Failed}
use Rattle.mc_types.specs.Rank.{IsWorst, NoneAbove}
use Rattle.fresh_runs.specs.Calls.{Call}
use Rattle.route_tree.specs.Each.{Each}
use Rattle.route_tree.specs.Operation.{same_op}
use Rattle.route_tree.specs.Plan.{Plan, Plans, PlanPolicies, Server, Null, Failing, AllSync, Failover, MissFailover, WarmUp, ByOperation, End, More, Otherwise, Policy, IsNotEmpty, IsGoodPlan, AreGoodPlans, AreGoodPlanPolicies}
use Rattle.route_tree.specs.Word.{Given, rank, given_by, null_reply, failing_reply, plain_get, refill, PlanWord, WordOfAll, WordOfFirst, WordOfHead, WordOfPolicy, AfterRefill, Refilled, AfterWarm, AfterCold, WarmUpWord}
use Rattle.route_tree.proofs.Places.{each_append}
use Rattle.route_tree.proofs.Going.{worst_of, worst_none}
use Rattle.gate_coverage.specs.Computed.{asks_get, can_fail, fails_some, fails_each, fails_last, fails_head, fails_policy, adds, adds_some, adds_first, adds_head, adds_policy}
use Rattle.gate_coverage.proofs.Choices.{both_split, either_split, bool_is, cond_true, cond_false, match_true, match_false, by_get, get_is, other_is, is_get_of, no_get_of, AreSome, some_left, some_right, one_less}
use Rattle.gate_coverage.proofs.Failing.{null_rank}

abbrev pub HasFailed : Call → Type 0
HasFailed call = call.outcome ≡ Failed

-- ---- the ways through a warm-up
module _ (ask : Ask) (cold : ℕ → List Call → Given → Type 0) (warm : ℕ → List Call → Given → Type 0) (add : Answer → ℕ → ℕ → List Call → Given → Type 0) where
  pub cold_hit : (b : ℕ) (c1 : List Call) (first : Given) → cold b c1 first → rank first ≡ 0 → WarmUpWord ask cold warm add b c1 first
  cold_hit b c1 first w e = (c1, [], sym (append-nil c1), first, w, subst (λ r. AfterCold ask cold warm add first r (b + length c1) [] first) (sym e) (refl, refl))

  pub both_miss : (b m n : ℕ) (c1 c2 : List Call) (first from_warm : Given) → cold b c1 first → rank first ≡ suc m → warm (b + length c1) c2 from_warm → rank from_warm ≡ suc n → WarmUpWord ask cold warm add b (c1 ++ c2) first
  both_miss b m n c1 c2 first from_warm w e v f =
      (c1, c2, refl, first, w, subst (λ r. AfterCold ask cold warm add first r (b + length c1) c2 first) (sym e) (c2, [], sym (append-nil c2), from_warm, v, subst (λ r. AfterWarm ask cold warm add first from_warm r (b + length c1 + length c2) [] first) (sym f) (refl, refl)))

  pub warm_hit : (b m k : ℕ) (c1 c2 c3 c4 : List Call) (first from_warm stored given : Given) → cold b c1 first → rank first ≡ suc m → warm (b + length c1) c2 from_warm → rank from_warm ≡ 0 → from_warm.from ≡ Some k → add from_warm.reply k (b + length c1 + length c2) c3 stored → AfterRefill ask cold warm add from_warm (b + length c1 + length c2 + length c3) c4 given → WarmUpWord ask cold warm add b (c1 ++ (c2 ++ (c3 ++ c4))) given
  warm_hit b m k c1 c2 c3 c4 first from_warm stored given w e v f is a last =
      let filled : Refilled ask cold warm add from_warm (Some k) (b + length c1 + length c2) (c3 ++ c4) given = (c3, c4, refl, stored, a, last) in
      (c1, c2 ++ (c3 ++ c4), refl, first, w, subst (λ r. AfterCold ask cold warm add first r (b + length c1) (c2 ++ (c3 ++ c4)) given) (sym e) (c2, c3 ++ c4, refl, from_warm, v, subst (λ r. AfterWarm ask cold warm add first from_warm r (b + length c1 + length c2) (c3 ++ c4) given) (sym f) (subst (λ o. Refilled ask cold warm add from_warm o (b + length c1 + length c2) (c3 ++ c4) given) (sym is) filled)))

-- what is known of that word
pub record IsLow (op : Op) (can_fail adds : Bool) (calls : List Call) (given : Given) : Type 0 where
  pub failed : Each HasFailed calls
  pub low : 1 ≤ rank given
  pub worst : can_fail ≡ true → 4 ≤ rank given
  pub some : op ≡ Add → adds ≡ true → AreSome calls

-- of the children of a list
pub record AreLow (op : Op) (ps : Plans) (calls : List Call) (all : List Given) : Type 0 where
  pub failed : Each HasFailed calls
  pub low : (w : Given) → IsWorst rank all w → 1 ≤ rank w
  pub worst : fails_some op ps ≡ true → (r : ℕ) → NoneAbove rank all r → 4 ≤ r
  pub some : op ≡ Add → adds_some ps ≡ true → AreSome calls

join : (front back : List Call) → Each HasFailed front → Each HasFailed back → Each HasFailed (front ++ back)
join front back h k = each_append HasFailed front back h k

-- of some replies one is the worst
pub first_given : (ps : Plans) → IsNotEmpty ps → (ask : Ask) (origin : Origin) (b : ℕ) (calls : List Call) (all : List Given) → WordOfAll ps ask origin b calls all → (worst : Given) × IsWorst rank all worst
first_given End some ask origin b calls all w = absurd some
first_given (More p ps) some ask origin b calls all w = let h = worst_of w.3 w.5 in (h.0, subst (λ gs. IsWorst rank gs h.0) (sym w.6) h.1)

mutual
  pub low : (p : Plan) → IsGoodPlan p → (ask : Ask) (origin : Origin) (b : ℕ) → (calls : List Call) × (given : Given) × PlanWord p ask origin b calls given × IsLow ask.op (can_fail ask.op p) (adds p) calls given
  low (Server t) good ask origin b =
      (record { server = t; ask = ask; origin = origin; outcome = Failed } ∷ [], given_by b Failed, (Failed, tt, refl, refl), record { failed = (refl, tt); low = omega arith; worst = λ _. omega arith; some = λ _ _. tt })
  low Null good ask origin b = ([], null_reply ask, (refl, refl), record { failed = tt; low = (let e = null_rank ask in omega arith); worst = λ h. absurd (cc); some = λ _ h. absurd (cc) })
  low Failing good ask origin b = ([], failing_reply, (refl, refl), record { failed = tt; low = omega arith; worst = λ _. omega arith; some = λ _ h. absurd (cc) })
  low (AllSync ps) good ask origin b =
      let w = each_low ps good.1 ask origin b in
      let g = first_given ps good.0 ask origin b w.0 w.1 w.2 in
      (w.0, g.0, (w.1, w.2, g.1), record { failed = w.3.failed; low = w.3.low g.0 g.1; worst = λ h. w.3.worst h (rank g.0) (worst_none w.1 g.0 g.1); some = w.3.some })
  low (Failover ps) good ask origin b = low_first ps good.0 good.1 ask origin b
  low (MissFailover ps) good ask origin b =
      by_get ask.op _
      (λ op.
      let f = low_last ps good.0 good.1 ask origin b in
      (f.0, f.1, get_is ask.op _ _ op f.2, record { failed = f.3.failed; low = f.3.low; worst = λ h. f.3.worst (cond_true (asks_get ask.op) _ _ (is_get_of ask.op op) h); some = λ e. absurd (cc) }))
      (λ n.
      let f = low_head ps good.0 good.1 ask origin b in
      (f.0, f.1, other_is ask.op _ _ n f.2, record { failed = f.3.failed; low = f.3.low; worst = λ h. f.3.worst (cond_false (asks_get ask.op) _ _ (no_get_of ask.op n) h); some = f.3.some }))
  low (WarmUp cold warm e) good ask origin b =
      let c = low cold good.0 ask origin b in
      by_get ask.op _
      (λ op.
      let v = low warm good.1 (plain_get ask) origin (b + length c.0) in
      let m = one_less (rank c.1) c.3.low in
      let n = one_less (rank v.1) v.3.low in
      (c.0 ++ v.0, c.1, get_is ask.op _ _ op (both_miss ask (PlanWord cold ask origin) (PlanWord warm (plain_get ask) origin) (λ hit w. PlanWord cold (refill ask hit e) (CopyOf w)) b m.0 n.0 c.0 v.0 c.1 v.1 c.2 m.1 v.2 n.1), record { failed = join c.0 v.0 c.3.failed v.3.failed; low = c.3.low; worst = c.3.worst; some = λ a. absurd (cc) }))
      (λ n. (c.0, c.1, other_is ask.op _ _ n c.2, c.3))
  low (ByOperation policies) good ask origin b = low_policy policies good ask origin b

  pub each_low : (ps : Plans) → AreGoodPlans ps → (ask : Ask) (origin : Origin) (b : ℕ) → (calls : List Call) × (all : List Given) × WordOfAll ps ask origin b calls all × AreLow ask.op ps calls all
  each_low End good ask origin b = ([], [], (refl, refl), record { failed = tt; low = λ w is. absurd is; worst = λ h. absurd (cc); some = λ _ h. absurd (cc) })
  each_low (More p ps) good ask origin b =
      let c = low p good.0 ask origin b in
      let rest = each_low ps good.1 ask origin (b + length c.0) in (
        c.0 ++ rest.0,
        c.1 ∷ rest.1,
        (c.0, rest.0, refl, c.1, c.2, rest.1, refl, rest.2),
        record {
          failed = join c.0 rest.0 c.3.failed rest.3.failed;
          low = λ w is. ⊎_elim (λ here. (let e = ap rank here.0 in let l = c.3.low in omega arith)) (λ there. rest.3.low w there.1) is;
          worst = λ h r none. ⊎_elim (λ here. (let l = c.3.worst here in let m = none.0 in omega arith)) (λ there. rest.3.worst there r none.1) (either_split (can_fail ask.op p) (fails_some ask.op ps) h);
          some = λ e h. ⊎_elim (λ here. some_left c.0 rest.0 (c.3.some e here)) (λ there. some_right c.0 rest.0 (rest.3.some e there)) (either_split (adds p) (adds_some ps) h);
        },
      )

  pub low_first : (ps : Plans) → IsNotEmpty ps → AreGoodPlans ps → (ask : Ask) (origin : Origin) (b : ℕ) → (calls : List Call) × (given : Given) × WordOfFirst ps 4 ask origin b calls given × IsLow ask.op (fails_each ask.op ps) (adds_first ps) calls given
  low_first End some good ask origin b = absurd some
  low_first (More p End) some good ask origin b =
      let c = low p good.0 ask origin b in
      (c.0, c.1, inl (c.2, inr tt), record { failed = c.3.failed; low = c.3.low; worst = λ h. c.3.worst (both_split (can_fail ask.op p) true h).0; some = λ e h. ⊎_elim (λ here. c.3.some e here) (λ there. absurd (let t = (both_split (can_fail Add p) false there).1 in cc)) (either_split (adds p) (can_fail Add p && false) h) })
  low_first (More p (More q qs)) some good ask origin b =
      let c = low p good.0 ask origin b in
      let rest = low_first (More q qs) tt good.1 ask origin (b + length c.0) in
      ⊎_elim
      (λ (lt : rank c.1 < 4). (
        c.0,
        c.1,
        inl (c.2, inl lt),
        record {
          failed = c.3.failed;
          low = c.3.low;
          worst = λ h. absurd (let l = c.3.worst (both_split (can_fail ask.op p) (fails_each ask.op (More q qs)) h).0 in omega arith);
          some = λ e h. ⊎_elim (λ here. c.3.some e here) (λ there. absurd (let l = c.3.worst (subst (λ o. can_fail o p ≡ true) (sym e) (both_split (can_fail Add p) (adds_first (More q qs)) there).0) in omega arith)) (either_split (adds p) (can_fail Add p && adds_first (More q qs)) h);
        },
      ))
      (λ (le : 4 ≤ rank c.1). (
        c.0 ++ rest.0,
        rest.1,
        inr (c.0, rest.0, refl, c.1, c.2, le, rest.2),
        record {
          failed = join c.0 rest.0 c.3.failed rest.3.failed;
          low = rest.3.low;
          worst = λ h. rest.3.worst (both_split (can_fail ask.op p) (fails_each ask.op (More q qs)) h).1;
          some = λ e h. ⊎_elim (λ here. some_left c.0 rest.0 (c.3.some e here)) (λ there. some_right c.0 rest.0 (rest.3.some e (both_split (can_fail Add p) (adds_first (More q qs)) there).1)) (either_split (adds p) (can_fail Add p && adds_first (More q qs)) h);
        },
      ))
      (cases_lt (rank c.1) 4)

  -- a get over misses
  pub low_last : (ps : Plans) → IsNotEmpty ps → AreGoodPlans ps → (ask : Ask) (origin : Origin) (b : ℕ) → (calls : List Call) × (given : Given) × WordOfFirst ps 1 ask origin b calls given × IsLow ask.op (fails_last ask.op ps) false calls given
  low_last End some good ask origin b = absurd some
  low_last (More p End) some good ask origin b =
      let c = low p good.0 ask origin b in
      (c.0, c.1, inl (c.2, inr tt), record { failed = c.3.failed; low = c.3.low; worst = c.3.worst; some = λ e h. absurd (cc) })
  low_last (More p (More q qs)) some good ask origin b =
      let c = low p good.0 ask origin b in
      let rest = low_last (More q qs) tt good.1 ask origin (b + length c.0) in
      (c.0 ++ rest.0, rest.1, inr (c.0, rest.0, refl, c.1, c.2, c.3.low, rest.2), record { failed = join c.0 rest.0 c.3.failed rest.3.failed; low = rest.3.low; worst = rest.3.worst; some = λ e h. absurd (cc) })

  pub low_head : (ps : Plans) → IsNotEmpty ps → AreGoodPlans ps → (ask : Ask) (origin : Origin) (b : ℕ) → (calls : List Call) × (given : Given) × WordOfHead ps ask origin b calls given × IsLow ask.op (fails_head ask.op ps) (adds_head ps) calls given
  low_head End some good ask origin b = absurd some
  low_head (More p ps) some good ask origin b = low p good.0 ask origin b

  pub low_policy : (ps : PlanPolicies) → AreGoodPlanPolicies ps → (ask : Ask) (origin : Origin) (b : ℕ) → (calls : List Call) × (given : Given) × WordOfPolicy ps ask origin b calls given × IsLow ask.op (fails_policy ask.op ps) (adds_policy ps) calls given
  low_policy (Otherwise p) good ask origin b = low p good ask origin b
  low_policy (Policy o p rest) good ask origin b =
      ⊎_elim
      (λ e.
      let c = low p good.0 ask origin b in
      (c.0, c.1, match_true (same_op o ask.op) _ _ e c.2, record { failed = c.3.failed; low = c.3.low; worst = λ h. c.3.worst (cond_true (same_op o ask.op) _ _ e h); some = λ op h. c.3.some op (cond_true (same_op o Add) _ _ (ap (same_op o) (sym op) ∙ e) h) }))
      (λ e.
      let c = low_policy rest good.1 ask origin b in
      (c.0, c.1, match_false (same_op o ask.op) _ _ e c.2, record { failed = c.3.failed; low = c.3.low; worst = λ h. c.3.worst (cond_false (same_op o ask.op) _ _ e h); some = λ op h. c.3.some op (cond_false (same_op o Add) _ _ (ap (same_op o) (sym op) ∙ e) h) }))
      (bool_is (same_op o ask.op))
