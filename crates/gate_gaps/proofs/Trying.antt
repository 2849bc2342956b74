-- The word in which every call fails, with how many calls it has.
use Rattle.std.proofs.Common.{◌≡◌, ℕ, ◌+◌, ◌<◌, ◌≤◌, Bool, true, false, cond, List, [], ◌∷◌, ◌++◌, length, inl, inr, ⊎_elim, refl, sym, ap, ap₂, ◌∙◌, arith, length-append}
use Rattle.std.proofs.lemmas.Bool.{cases_lt}
use Rattle.mc_types.specs.declared.ask.Ask.{Ask}
use Rattle.mc_types.specs.declared.call.Origin.{Origin}
use Rattle.mc_types.specs.declared.call.Origin.TheVariants.{CopyOf}
use Rattle.mc_types.specs.declared.call.Outcome.TheVariants.{Failed}
use Rattle.mc_types.specs.Rank.{IsWorst, NoneAbove}
use Rattle.fresh_runs.specs.Calls.{Call}
use Rattle.route_tree.specs.Each.{Each}
use Rattle.route_tree.specs.Operation.{same_op}
use Rattle.route_tree.specs.Plan.{Plan, Plans, PlanPolicies, Server, Null, Failing, AllSync, Failover, MissFailover, WarmUp, ByOperation, End, More, Otherwise, Policy, IsNotEmpty, IsGoodPlan, AreGoodPlans, AreGoodPlanPolicies}
use Rattle.route_tree.specs.Word.{Given, rank, given_by, null_reply, failing_reply, plain_get, refill, PlanWord, WordOfAll, WordOfFirst, WordOfHead, WordOfPolicy}
use Rattle.route_tree.proofs.Places.{each_append}
use Rattle.route_tree.proofs.Going.{worst_none}
use Rattle.gate_coverage.specs.Computed.{asks_get, can_fail, fails_some, fails_each, fails_last, fails_head, fails_policy}
use Rattle.gate_coverage.proofs.Choices.{both_split, either_split, bool_is, cond_true, cond_false, match_true, match_false, by_get, get_is, other_is, is_get_of, no_get_of, one_less}
use Rattle.gate_coverage.proofs.Failing.{null_rank, word_fails}
use Rattle.gate_coverage.proofs.Low.{first_given, both_miss}
use Rattle.gate_gaps.specs.Turns.{tries, tries_all, tries_first, tries_head, tries_policy}
use Rattle.gate_gaps.specs.Beside.{IsTry}

pub pick_true : {A : Type 0} (t : Bool) (a b : A) → t ≡ true → cond t a b ≡ a
pick_true true a b e = refl
pick_true false a b e = absurd (cc)

pub pick_false : {A : Type 0} (t : Bool) (a b : A) → t ≡ false → cond t a b ≡ b
pick_false true a b e = absurd (cc)
pick_false false a b e = refl

-- what is known of that word
pub record IsTried (key : List ℕ) (count : ℕ) (can_fail : Bool) (calls : List Call) (given : Given) : Type 0 where
  pub tried : Each (IsTry key) calls
  pub count_is : length calls ≡ count
  pub low : 1 ≤ rank given
  pub worst : can_fail ≡ true → 4 ≤ rank given

-- of the children of a list
pub record AreTried (key : List ℕ) (count : ℕ) (can_fail : Bool) (calls : List Call) (all : List Given) : Type 0 where
  pub tried : Each (IsTry key) calls
  pub count_is : length calls ≡ count
  pub low : (w : Given) → IsWorst rank all w → 1 ≤ rank w
  pub worst : can_fail ≡ true → (r : ℕ) → NoneAbove rank all r → 4 ≤ r

join : (key : List ℕ) (front back : List Call) → Each (IsTry key) front → Each (IsTry key) back → Each (IsTry key) (front ++ back)
join key front back h k = each_append (IsTry key) front back h k

pub lengths : (front back : List Call) (m n : ℕ) → length front ≡ m → length back ≡ n → length (front ++ back) ≡ m + n
lengths front back m n e f = length-append front back ∙ ap₂ (λ x y. x + y) e f

-- a word of a tree that can't fail has no reply of the greatest rank
pub not_worst : (p : Plan) (ask : Ask) (origin : Origin) (b : ℕ) (calls : List Call) (given : Given) → PlanWord p ask origin b calls given → can_fail ask.op p ≡ false → rank given < 4
not_worst p ask origin b calls given w e =
    ⊎_elim (λ lt. lt) (λ (le : 4 ≤ rank given). absurd (let t = word_fails p ask origin b calls given w le in cc)) (cases_lt (rank given) 4)

mutual
  pub tried : (p : Plan) → IsGoodPlan p → (ask : Ask) (origin : Origin) (b : ℕ) → (calls : List Call) × (given : Given) × PlanWord p ask origin b calls given × IsTried ask.key (tries ask.op p) (can_fail ask.op p) calls given
  tried (Server t) good ask origin b =
      (record { server = t; ask = ask; origin = origin; outcome = Failed } ∷ [], given_by b Failed, (Failed, tt, refl, refl), record { tried = ((refl, refl), tt); count_is = refl; low = omega arith; worst = λ _. omega arith })
  tried Null good ask origin b = ([], null_reply ask, (refl, refl), record { tried = tt; count_is = refl; low = (let e = null_rank ask in omega arith); worst = λ h. absurd (cc) })
  tried Failing good ask origin b = ([], failing_reply, (refl, refl), record { tried = tt; count_is = refl; low = omega arith; worst = λ _. omega arith })
  tried (AllSync ps) good ask origin b =
      let w = each_tried ps good.1 ask origin b in
      let g = first_given ps good.0 ask origin b w.0 w.1 w.2 in
      (w.0, g.0, (w.1, w.2, g.1), record { tried = w.3.tried; count_is = w.3.count_is; low = w.3.low g.0 g.1; worst = λ h. w.3.worst h (rank g.0) (worst_none w.1 g.0 g.1) })
  tried (Failover ps) good ask origin b = tried_first ps good.0 good.1 ask origin b
  tried (MissFailover ps) good ask origin b =
      by_get ask.op _
      (λ op.
      let f = tried_last ps good.0 good.1 ask origin b in
      (f.0, f.1, get_is ask.op _ _ op f.2, record { tried = f.3.tried; count_is = f.3.count_is ∙ sym (pick_true (asks_get ask.op) (tries_all ask.op ps) (tries_head ask.op ps) (is_get_of ask.op op)); low = f.3.low; worst = λ h. f.3.worst (cond_true (asks_get ask.op) _ _ (is_get_of ask.op op) h) }))
      (λ n.
      let f = tried_head ps good.0 good.1 ask origin b in
      (f.0, f.1, other_is ask.op _ _ n f.2, record { tried = f.3.tried; count_is = f.3.count_is ∙ sym (pick_false (asks_get ask.op) (tries_all ask.op ps) (tries_head ask.op ps) (no_get_of ask.op n)); low = f.3.low; worst = λ h. f.3.worst (cond_false (asks_get ask.op) _ _ (no_get_of ask.op n) h) }))
  tried (WarmUp cold warm e) good ask origin b =
      let c = tried cold good.0 ask origin b in
      by_get ask.op _
      (λ op.
      let v = tried warm good.1 (plain_get ask) origin (b + length c.0) in
      let m = one_less (rank c.1) c.3.low in
      let n = one_less (rank v.1) v.3.low in
      let count : length v.0 ≡ tries ask.op warm = v.3.count_is ∙ ap (λ o. tries o warm) (sym op) in
      (c.0 ++ v.0, c.1, get_is ask.op _ _ op (both_miss ask (PlanWord cold ask origin) (PlanWord warm (plain_get ask) origin) (λ hit w. PlanWord cold (refill ask hit e) (CopyOf w)) b m.0 n.0 c.0 v.0 c.1 v.1 c.2 m.1 v.2 n.1), record { tried = join ask.key c.0 v.0 c.3.tried v.3.tried; count_is = lengths c.0 v.0 _ _ c.3.count_is count ∙ sym (pick_true (asks_get ask.op) (tries ask.op cold + tries ask.op warm) (tries ask.op cold) (is_get_of ask.op op)); low = c.3.low; worst = c.3.worst }))
      (λ n. (c.0, c.1, other_is ask.op _ _ n c.2, record { tried = c.3.tried; count_is = c.3.count_is ∙ sym (pick_false (asks_get ask.op) (tries ask.op cold + tries ask.op warm) (tries ask.op cold) (no_get_of ask.op n)); low = c.3.low; worst = c.3.worst }))
  tried (ByOperation policies) good ask origin b = tried_policy policies good ask origin b

  pub each_tried : (ps : Plans) → AreGoodPlans ps → (ask : Ask) (origin : Origin) (b : ℕ) → (calls : List Call) × (all : List Given) × WordOfAll ps ask origin b calls all × AreTried ask.key (tries_all ask.op ps) (fails_some ask.op ps) calls all
  each_tried End good ask origin b = ([], [], (refl, refl), record { tried = tt; count_is = refl; low = λ w is. absurd is; worst = λ h. absurd (cc) })
  each_tried (More p ps) good ask origin b =
      let c = tried p good.0 ask origin b in
      let rest = each_tried ps good.1 ask origin (b + length c.0) in (
        c.0 ++ rest.0,
        c.1 ∷ rest.1,
        (c.0, rest.0, refl, c.1, c.2, rest.1, refl, rest.2),
        record {
          tried = join ask.key c.0 rest.0 c.3.tried rest.3.tried;
          count_is = lengths c.0 rest.0 _ _ c.3.count_is rest.3.count_is;
          low = λ w is. ⊎_elim (λ here. (let e = ap rank here.0 in let l = c.3.low in omega arith)) (λ there. rest.3.low w there.1) is;
          worst = λ h r none. ⊎_elim (λ here. (let l = c.3.worst here in let m = none.0 in omega arith)) (λ there. rest.3.worst there r none.1) (either_split (can_fail ask.op p) (fails_some ask.op ps) h);
        },
      )

  pub tried_first : (ps : Plans) → IsNotEmpty ps → AreGoodPlans ps → (ask : Ask) (origin : Origin) (b : ℕ) → (calls : List Call) × (given : Given) × WordOfFirst ps 4 ask origin b calls given × IsTried ask.key (tries_first ask.op ps) (fails_each ask.op ps) calls given
  tried_first End some good ask origin b = absurd some
  tried_first (More p End) some good ask origin b =
      let c = tried p good.0 ask origin b in
      (c.0, c.1, inl (c.2, inr tt), record { tried = c.3.tried; count_is = c.3.count_is ∙ same (can_fail ask.op p) (tries ask.op p); low = c.3.low; worst = λ h. c.3.worst (both_split (can_fail ask.op p) true h).0 })
    where
      same : (t : Bool) (n : ℕ) → n ≡ cond t (n + 0) n
      same true n = omega arith
      same false n = refl
  tried_first (More p (More q qs)) some good ask origin b =
      let c = tried p good.0 ask origin b in
      let rest = tried_first (More q qs) tt good.1 ask origin (b + length c.0) in
      ⊎_elim
      (λ (is : can_fail ask.op p ≡ true). (
        c.0 ++ rest.0,
        rest.1,
        inr (c.0, rest.0, refl, c.1, c.2, c.3.worst is, rest.2),
        record {
          tried = join ask.key c.0 rest.0 c.3.tried rest.3.tried;
          count_is = lengths c.0 rest.0 _ _ c.3.count_is rest.3.count_is ∙ sym (pick_true (can_fail ask.op p) (tries ask.op p + tries_first ask.op (More q qs)) (tries ask.op p) is);
          low = rest.3.low;
          worst = λ h. rest.3.worst (both_split (can_fail ask.op p) (fails_each ask.op (More q qs)) h).1;
        },
      ))
      (λ (is : can_fail ask.op p ≡ false). (
        c.0,
        c.1,
        inl (c.2, inl (not_worst p ask origin b c.0 c.1 c.2 is)),
        record {
          tried = c.3.tried;
          count_is = c.3.count_is ∙ sym (pick_false (can_fail ask.op p) (tries ask.op p + tries_first ask.op (More q qs)) (tries ask.op p) is);
          low = c.3.low;
          worst = λ h. absurd (let t = (both_split (can_fail ask.op p) (fails_each ask.op (More q qs)) h).0 in cc);
        },
      ))
      (bool_is (can_fail ask.op p))

  -- a get over misses
  pub tried_last : (ps : Plans) → IsNotEmpty ps → AreGoodPlans ps → (ask : Ask) (origin : Origin) (b : ℕ) → (calls : List Call) × (given : Given) × WordOfFirst ps 1 ask origin b calls given × IsTried ask.key (tries_all ask.op ps) (fails_last ask.op ps) calls given
  tried_last End some good ask origin b = absurd some
  tried_last (More p End) some good ask origin b =
      let c = tried p good.0 ask origin b in
      (c.0, c.1, inl (c.2, inr tt), record { tried = c.3.tried; count_is = (let e = c.3.count_is in omega arith); low = c.3.low; worst = c.3.worst })
  tried_last (More p (More q qs)) some good ask origin b =
      let c = tried p good.0 ask origin b in
      let rest = tried_last (More q qs) tt good.1 ask origin (b + length c.0) in
      (c.0 ++ rest.0, rest.1, inr (c.0, rest.0, refl, c.1, c.2, c.3.low, rest.2), record { tried = join ask.key c.0 rest.0 c.3.tried rest.3.tried; count_is = lengths c.0 rest.0 _ _ c.3.count_is rest.3.count_is; low = rest.3.low; worst = rest.3.worst })

  pub tried_head : (ps : Plans) → IsNotEmpty ps → AreGoodPlans ps → (ask : Ask) (origin : Origin) (b : ℕ) → (calls : List Call) × (given : Given) × WordOfHead ps ask origin b calls given × IsTried ask.key (tries_head ask.op ps) (fails_head ask.op ps) calls given
  tried_head End some good ask origin b = absurd some
  tried_head (More p ps) some good ask origin b = tried p good.0 ask origin b

  pub tried_policy : (ps : PlanPolicies) → AreGoodPlanPolicies ps → (ask : Ask) (origin : Origin) (b : ℕ) → (calls : List Call) × (given : Given) × WordOfPolicy ps ask origin b calls given × IsTried ask.key (tries_policy ask.op ps) (fails_policy ask.op ps) calls given
  tried_policy (Otherwise p) good ask origin b = tried p good ask origin b
  tried_policy (Policy o p rest) good ask origin b =
      ⊎_elim
      (λ e.
      let c = tried p good.0 ask origin b in
      (c.0, c.1, match_true (same_op o ask.op) _ _ e c.2, record { tried = c.3.tried; count_is = c.3.count_is ∙ sym (pick_true (same_op o ask.op) (tries ask.op p) (tries_policy ask.op rest) e); low = c.3.low; worst = λ h. c.3.worst (cond_true (same_op o ask.op) _ _ e h) }))
      (λ e.
      let c = tried_policy rest good.1 ask origin b in
      (c.0, c.1, match_false (same_op o ask.op) _ _ e c.2, record { tried = c.3.tried; count_is = c.3.count_is ∙ sym (pick_false (same_op o ask.op) (tries ask.op p) (tries_policy ask.op rest) e); low = c.3.low; worst = λ h. c.3.worst (cond_false (same_op o ask.op) _ _ e h) }))
      (bool_is (same_op o ask.op))
