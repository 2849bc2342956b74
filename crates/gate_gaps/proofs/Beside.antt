-- The words in which all calls fail but a last one, and that a gap has them.
use Rattle.std.proofs.Common.{◌≡◌, ◌≢◌, ℕ, ◌+◌, Bool, true, false, cond, not, ◌&&◌, ◌||◌, List, [], ◌∷◌, ◌++◌, length, Option, Some, None, IsSome, ◌⊎◌, inl, inr, ⊎_elim, refl, sym, ap, ◌∙◌, subst, arith, nat_eq, append_assoc}
use Rattle.std.proofs.lemmas.Bool.{eqb-true, eq-eqb}
use Rattle.mc_types.specs.declared.ask.Op.{Op}
use Rattle.mc_types.specs.declared.ask.Op.TheVariants.{Get, Delete}
use Rattle.mc_types.specs.declared.ask.Dialect.{Dialect}
use Rattle.mc_types.specs.declared.ask.Dialect.TheVariants as dialects
use Rattle.mc_types.specs.declared.ask.Ask.{Ask}
use Rattle.mc_types.specs.declared.answer.Answer.{Answer}
use Rattle.mc_types.specs.declared.call.Origin.TheVariants.{Client}
use Rattle.mc_types.specs.declared.call.Outcome.TheVariants.{Answered}
use Rattle.mc_types.specs.Fits.{Fits}
use Rattle.mc_types.specs.Rank.{rank_of}
use Rattle.mc_types.specs.Shows.{shows}
use Rattle.fresh_runs.specs.Calls.{Call}
use Rattle.route_tree.specs.Each.{Each}
use Rattle.route_tree.specs.Operation.{same_op}
use Rattle.route_tree.specs.Plan.{Plan, Plans, PlanPolicies, Server, Null, Failing, AllSync, Failover, MissFailover, WarmUp, ByOperation, End, More, Otherwise, Policy, IsGoodPlan, AreGoodPlans, AreGoodPlanPolicies}
use Rattle.route_tree.specs.Word.{Given, given_by, null_reply, answer_of_nothing, PlanWord, WordOfFirst, WordOfHead, WordOfPolicy}
use Rattle.route_tree.proofs.Places.{each_append}
use Rattle.gate_coverage.specs.Computed.{asks_get, is_taking, can_fail, kept, kept_first, kept_head, kept_policy, shown, shown_first, shown_some, shown_head, shown_policy, copied, copied_some, copied_first, copied_head, copied_policy}
use Rattle.gate_coverage.proofs.Choices.{both_split, either_split, bool_is, cond_true, cond_false, match_true, match_false, true_match, false_match, by_get, get_is, other_is, is_get_of, no_get_of}
use Rattle.gate_coverage.proofs.Failing.{null_rank}
use Rattle.gate_coverage.proofs.Copying.{takes_is_taken}
use Rattle.gate_coverage.proofs.Keeping.{cleared_is_exact}
use Rattle.gate_gaps.specs.Turns.{or_that, counted_after, tries, acks, acks_first, acks_head, acks_policy, calls_before_found, finds_first, finds_some, finds_head, finds_policy}
use Rattle.gate_gaps.specs.Beside.{IsTry, answered, IsElsewhere, IsDirect, AreDirect, IsPolicyDirect, KeptIsAcked, TakenIsFound, GapsHaveWords}
use Rattle.gate_gaps.proofs.Trying.{pick_true, pick_false, tried, lengths}

-- ---- numbers that are there

abbrev none : Option ℕ
none = None

some_is : (m n : ℕ) → Some m ≡ Some n → m ≡ n
some_is m n e = cc

or_split : (x y : Option ℕ) (n : ℕ) → or_that x y ≡ Some n → (x ≡ Some n) ⊎ (y ≡ Some n)
or_split None y n e = inr e
or_split (Some m) y n e = inl e

cond_split : (t : Bool) (x : Option ℕ) (n : ℕ) → cond t x None ≡ Some n → (t ≡ true) × (x ≡ Some n)
cond_split true x n e = (refl, e)
cond_split false x n e = absurd (cc)

after_split : (m : ℕ) (x : Option ℕ) (n : ℕ) → counted_after m x ≡ Some n → (k : ℕ) × (x ≡ Some k) × (n ≡ m + k)
after_split m None n e = absurd (cc)
after_split m (Some k) n e = (k, refl, sym (some_is (m + k) n e))

or_left : (x y : Option ℕ) → IsSome x → IsSome (or_that x y)
or_left (Some m) y h = refl
or_left None y h = absurd (cc)

or_right : (x y : Option ℕ) → IsSome y → IsSome (or_that x y)
or_right (Some m) y h = refl
or_right None y h = h

cond_some : (t : Bool) (x : Option ℕ) → t ≡ true → IsSome x → IsSome (cond t x None)
cond_some true x e h = h
cond_some false x e h = absurd (cc)

after_some : (m : ℕ) (x : Option ℕ) → IsSome x → IsSome (counted_after m x)
after_some m None h = absurd (cc)
after_some m (Some k) h = refl

-- ---- a delete that is acknowledged elsewhere

quiet : (d : Dialect) → shows (answer_of_nothing d Delete) ≡ false
quiet dialects.Classic = refl
quiet dialects.Meta = refl

delete_is_other : (op : Op) → op ≡ Delete → op ≢ Get
delete_is_other op e f = cc

module _ (s : ℕ) (ask : Ask) (op : ask.op ≡ Delete) (fits : Fits ask (answer_of_nothing ask.dialect ask.op)) where
  abbrev AckedIn : (ℕ → List Call → Given → Type 0) → ℕ → ℕ → Type 0
  AckedIn W b n =
      (front last : List Call) × W b (front ++ last) (null_reply ask)
      × Each (IsTry ask.key) front × (length front ≡ n) × IsElsewhere s ask last

  nothing_given : (b : ℕ) → null_reply ask ≡ given_by b (Answered (answer_of_nothing ask.dialect ask.op))
  nothing_given b =
      let q : shows (answer_of_nothing ask.dialect ask.op) ≡ false = ap (λ o. shows (answer_of_nothing ask.dialect o)) op ∙ quiet ask.dialect in
      λ i. record { reply = answer_of_nothing ask.dialect ask.op; from = (sym (pick_false (shows (answer_of_nothing ask.dialect ask.op)) (Some b) None q)) i }

  mutual
    acked : (p : Plan) → IsGoodPlan p → (b n : ℕ) → acks s p ≡ Some n → AckedIn (PlanWord p ask Client) b n
    acked (Server t) good b n e =
        ⊎_elim
        (λ (same : nat_eq t s ≡ true). absurd (let x = pick_true (nat_eq t s) none (Some 0) same in cc))
        (λ (other : nat_eq t s ≡ false).
        ([], answered t ask (answer_of_nothing ask.dialect ask.op) ∷ [], (Answered (answer_of_nothing ask.dialect ask.op), fits, refl, nothing_given b), tt, some_is 0 n (sym (pick_false (nat_eq t s) none (Some 0) other) ∙ e), inr (t, (λ is. let x = eq-eqb t s is in cc), refl)))
        (bool_is (nat_eq t s))
    acked Null good b n e = ([], [], (refl, refl), tt, some_is 0 n e, inl refl)
    acked Failing good b n e = absurd (cc)
    acked (AllSync ps) good b n e = absurd (cc)
    acked (Failover ps) good b n e = acked_first ps good.1 b n e
    acked (MissFailover ps) good b n e =
        let f = acked_head ps good.1 b n e in
        (f.0, f.1, other_is ask.op _ _ (delete_is_other ask.op op) f.2, f.3, f.4, f.5)
    acked (WarmUp cold warm x) good b n e =
        let f = acked cold good.0 b n e in
        (f.0, f.1, other_is ask.op _ _ (delete_is_other ask.op op) f.2, f.3, f.4, f.5)
    acked (ByOperation policies) good b n e = acked_policy policies good b n e

    acked_first : (ps : Plans) → AreGoodPlans ps → (b n : ℕ) → acks_first s ps ≡ Some n → AckedIn (WordOfFirst ps 4 ask Client) b n
    acked_first End good b n e = absurd (cc)
    acked_first (More p ps) good b n e =
        ⊎_elim
        (λ here.
        let f = acked p good.0 b n here in
        (f.0, f.1, inl (f.2, inl (let r = null_rank ask in omega arith)), f.3, f.4, f.5))
        (λ there.
        let t = cond_split (can_fail Delete p) (counted_after (tries Delete p) (acks_first s ps)) n there in
        let k = after_split (tries Delete p) (acks_first s ps) n t.1 in
        let c = tried p good.0 ask Client b in
        let f = acked_first ps good.1 (b + length c.0) k.0 k.1 in
        (c.0 ++ f.0, f.1, inr (c.0, f.0 ++ f.1, append_assoc c.0 f.0 f.1, c.1, c.2, c.3.worst (subst (λ o. can_fail o p ≡ true) (sym op) t.0), f.2), each_append (IsTry ask.key) c.0 f.0 c.3.tried f.3, lengths c.0 f.0 (tries Delete p) k.0 (c.3.count_is ∙ ap (λ o. tries o p) op) f.4 ∙ sym k.2, f.5))
        (or_split (acks s p) _ n e)

    acked_head : (ps : Plans) → AreGoodPlans ps → (b n : ℕ) → acks_head s ps ≡ Some n → AckedIn (WordOfHead ps ask Client) b n
    acked_head End good b n e = absurd (cc)
    acked_head (More p ps) good b n e = acked p good.0 b n e

    acked_policy : (ps : PlanPolicies) → AreGoodPlanPolicies ps → (b n : ℕ) → acks_policy s ps ≡ Some n → AckedIn (WordOfPolicy ps ask Client) b n
    acked_policy (Otherwise p) good b n e = acked p good b n e
    acked_policy (Policy o p rest) good b n e =
        ⊎_elim
        (λ (is : same_op o Delete ≡ true).
        let f = acked p good.0 b n (sym (pick_true (same_op o Delete) (acks s p) (acks_policy s rest) is) ∙ e) in
        (f.0, f.1, match_true (same_op o ask.op) _ _ (ap (same_op o) op ∙ is) f.2, f.3, f.4, f.5))
        (λ (is : same_op o Delete ≡ false).
        let f = acked_policy rest good.1 b n (sym (pick_false (same_op o Delete) (acks s p) (acks_policy s rest) is) ∙ e) in
        (f.0, f.1, match_false (same_op o ask.op) _ _ (ap (same_op o) op ∙ is) f.2, f.3, f.4, f.5))
        (bool_is (same_op o Delete))

-- ---- a read that shows the server's item

module _ (s : ℕ) (ask : Ask) (answer : Answer) (fits : Fits ask answer) (showing : shows answer ≡ true) (done : rank_of answer ≡ 0) where
  abbrev FoundIn : (ℕ → List Call → Given → Type 0) → ℕ → ℕ → Type 0
  FoundIn W b n =
      (front : List Call) × W b (front ++ answered s ask answer ∷ []) (record { reply = answer; from = Some (b + n) })
      × Each (IsTry ask.key) front × (length front ≡ n)

  shown_given : (b n : ℕ) → 0 ≡ n → (record { reply = answer; from = Some (b + n) }) ≡ given_by b (Answered answer)
  shown_given b n z =
      let q : Some (b + n) ≡ cond (shows answer) (Some b) None = ap Some (let e = z in omega arith) ∙ sym (pick_true (shows answer) (Some b) None showing) in
      λ i. record { reply = answer; from = q i }

  -- after a part of which all calls failed
  moved : (W : ℕ → List Call → Given → Type 0) (b n m k : ℕ) (calls : List Call) → n ≡ m + k → W b calls (record { reply = answer; from = Some (b + m + k) }) → W b calls (record { reply = answer; from = Some (b + n) })
  moved W b n m k calls e w = subst (λ x. W b calls (record { reply = answer; from = Some x })) (let q = e in omega arith) w

  mutual
    found : (p : Plan) → IsGoodPlan p → (b n : ℕ) → calls_before_found ask.op s p ≡ Some n → FoundIn (PlanWord p ask Client) b n
    found (Server t) good b n e =
        ⊎_elim
        (λ (same : nat_eq t s ≡ true).
        let z = some_is 0 n (sym (pick_true (nat_eq t s) (Some 0) none same) ∙ e) in
        ([], (Answered answer, fits, ap (λ x. answered x ask answer ∷ []) (sym (eqb-true t s same)), shown_given b n z), tt, z))
        (λ (other : nat_eq t s ≡ false). absurd (let x = pick_false (nat_eq t s) (Some 0) none other in cc))
        (bool_is (nat_eq t s))
    found Null good b n e = absurd (cc)
    found Failing good b n e = absurd (cc)
    found (AllSync ps) good b n e = absurd (cc)
    found (Failover ps) good b n e = found_first ps good.1 b n e
    found (MissFailover ps) good b n e =
        by_get ask.op _
        (λ op.
        let f = found_some ps good.1 b n (sym (pick_true (asks_get ask.op) (finds_some ask.op s ps) (finds_head ask.op s ps) (is_get_of ask.op op)) ∙ e) in
        (f.0, get_is ask.op _ _ op f.1, f.2, f.3))
        (λ other.
        let f = found_head ps good.1 b n (sym (pick_false (asks_get ask.op) (finds_some ask.op s ps) (finds_head ask.op s ps) (no_get_of ask.op other)) ∙ e) in
        (f.0, other_is ask.op _ _ other f.1, f.2, f.3))
    found (WarmUp cold warm x) good b n e =
        by_get ask.op _
        (λ op. absurd (let y = pick_true (asks_get ask.op) None (calls_before_found ask.op s cold) (is_get_of ask.op op) in cc))
        (λ other.
        let f = found cold good.0 b n (sym (pick_false (asks_get ask.op) None (calls_before_found ask.op s cold) (no_get_of ask.op other)) ∙ e) in
        (f.0, other_is ask.op _ _ other f.1, f.2, f.3))
    found (ByOperation policies) good b n e = found_policy policies good b n e

    found_first : (ps : Plans) → AreGoodPlans ps → (b n : ℕ) → finds_first ask.op s ps ≡ Some n → FoundIn (WordOfFirst ps 4 ask Client) b n
    found_first End good b n e = absurd (cc)
    found_first (More p ps) good b n e =
        ⊎_elim
        (λ here.
        let f = found p good.0 b n here in
        (f.0, inl (f.1, inl (let r = done in omega arith)), f.2, f.3))
        (λ there.
        let t = cond_split (can_fail ask.op p) (counted_after (tries ask.op p) (finds_first ask.op s ps)) n there in
        let k = after_split (tries ask.op p) (finds_first ask.op s ps) n t.1 in
        let c = tried p good.0 ask Client b in
        let f = found_first ps good.1 (b + length c.0) k.0 k.1 in
        (c.0 ++ f.0, moved (WordOfFirst (More p ps) 4 ask Client) b n (length c.0) k.0 _ (k.2 ∙ ap (λ x. x + k.0) (sym c.3.count_is)) (inr (c.0, f.0 ++ answered s ask answer ∷ [], append_assoc c.0 f.0 (answered s ask answer ∷ []), c.1, c.2, c.3.worst t.0, f.1)), each_append (IsTry ask.key) c.0 f.0 c.3.tried f.2, lengths c.0 f.0 (tries ask.op p) k.0 c.3.count_is f.3 ∙ sym k.2))
        (or_split (calls_before_found ask.op s p) _ n e)

    found_some : (ps : Plans) → AreGoodPlans ps → (b n : ℕ) → finds_some ask.op s ps ≡ Some n → FoundIn (WordOfFirst ps 1 ask Client) b n
    found_some End good b n e = absurd (cc)
    found_some (More p ps) good b n e =
        ⊎_elim
        (λ here.
        let f = found p good.0 b n here in
        (f.0, inl (f.1, inl (let r = done in omega arith)), f.2, f.3))
        (λ there.
        let k = after_split (tries ask.op p) (finds_some ask.op s ps) n there in
        let c = tried p good.0 ask Client b in
        let f = found_some ps good.1 (b + length c.0) k.0 k.1 in
        (c.0 ++ f.0, moved (WordOfFirst (More p ps) 1 ask Client) b n (length c.0) k.0 _ (k.2 ∙ ap (λ x. x + k.0) (sym c.3.count_is)) (inr (c.0, f.0 ++ answered s ask answer ∷ [], append_assoc c.0 f.0 (answered s ask answer ∷ []), c.1, c.2, c.3.low, f.1)), each_append (IsTry ask.key) c.0 f.0 c.3.tried f.2, lengths c.0 f.0 (tries ask.op p) k.0 c.3.count_is f.3 ∙ sym k.2))
        (or_split (calls_before_found ask.op s p) _ n e)

    found_head : (ps : Plans) → AreGoodPlans ps → (b n : ℕ) → finds_head ask.op s ps ≡ Some n → FoundIn (WordOfHead ps ask Client) b n
    found_head End good b n e = absurd (cc)
    found_head (More p ps) good b n e = found p good.0 b n e

    found_policy : (ps : PlanPolicies) → AreGoodPlanPolicies ps → (b n : ℕ) → finds_policy ask.op s ps ≡ Some n → FoundIn (WordOfPolicy ps ask Client) b n
    found_policy (Otherwise p) good b n e = found p good b n e
    found_policy (Policy o p rest) good b n e =
        ⊎_elim
        (λ (is : same_op o ask.op ≡ true).
        let f = found p good.0 b n (sym (pick_true (same_op o ask.op) (calls_before_found ask.op s p) (finds_policy ask.op s rest) is) ∙ e) in
        (f.0, match_true (same_op o ask.op) _ _ is f.1, f.2, f.3))
        (λ (is : same_op o ask.op ≡ false).
        let f = found_policy rest good.1 b n (sym (pick_false (same_op o ask.op) (calls_before_found ask.op s p) (finds_policy ask.op s rest) is) ∙ e) in
        (f.0, match_false (same_op o ask.op) _ _ is f.1, f.2, f.3))
        (bool_is (same_op o ask.op))

-- ---- gaps have these numbers

other_server : (t : Bool) → not t ≡ true → IsSome (cond t none (Some 0))
other_server true h = absurd (cc)
other_server false h = refl

module _ (s : ℕ) where
  mutual
    kept_acked : (p : Plan) → IsDirect Delete p → kept Delete s p ≡ true → IsSome (acks s p)
    kept_acked (Server t) d h = other_server (nat_eq t s) h
    kept_acked Null d h = refl
    kept_acked Failing d h = absurd (cc)
    kept_acked (AllSync ps) d h = absurd d
    kept_acked (Failover ps) d h = kept_first_acked ps d h
    kept_acked (MissFailover ps) d h = kept_head_acked ps d h
    kept_acked (WarmUp cold warm e) d h = absurd d
    kept_acked (ByOperation policies) d h = kept_policy_acked policies d h

    kept_first_acked : (ps : Plans) → AreDirect Delete ps → kept_first Delete s ps ≡ true → IsSome (acks_first s ps)
    kept_first_acked End d h = absurd (cc)
    kept_first_acked (More p ps) d h =
        ⊎_elim
        (λ here. or_left (acks s p) _ (kept_acked p d.0 here))
        (λ there.
        let t = both_split (can_fail Delete p) (kept_first Delete s ps) there in
        or_right (acks s p) _ (cond_some (can_fail Delete p) _ t.0 (after_some (tries Delete p) _ (kept_first_acked ps d.1 t.1))))
        (either_split (kept Delete s p) (can_fail Delete p && kept_first Delete s ps) h)

    kept_head_acked : (ps : Plans) → AreDirect Delete ps → kept_head Delete s ps ≡ true → IsSome (acks_head s ps)
    kept_head_acked End d h = absurd (cc)
    kept_head_acked (More p ps) d h = kept_acked p d.0 h

    kept_policy_acked : (ps : PlanPolicies) → IsPolicyDirect Delete ps → kept_policy Delete s ps ≡ true → IsSome (acks_policy s ps)
    kept_policy_acked (Otherwise p) d h = kept_acked p d h
    kept_policy_acked (Policy o p rest) d h =
        ⊎_elim
        (λ (is : same_op o Delete ≡ true). subst IsSome (sym (pick_true (same_op o Delete) (acks s p) (acks_policy s rest) is)) (kept_acked p (true_match (same_op o Delete) _ _ is d) (cond_true (same_op o Delete) _ _ is h)))
        (λ (is : same_op o Delete ≡ false). subst IsSome (sym (pick_false (same_op o Delete) (acks s p) (acks_policy s rest) is)) (kept_policy_acked rest (false_match (same_op o Delete) _ _ is d) (cond_false (same_op o Delete) _ _ is h)))
        (bool_is (same_op o Delete))

own_server : (t : Bool) → t ≡ true → IsSome (cond t (Some 0) none)
own_server true h = refl
own_server false h = absurd (cc)

module _ (op : Op) (s : ℕ) where
  mutual
    shown_found : (p : Plan) → IsDirect op p → shown op s p ≡ true → IsSome (calls_before_found op s p)
    shown_found (Server t) d h = own_server (nat_eq t s) h
    shown_found Null d h = absurd (cc)
    shown_found Failing d h = absurd (cc)
    shown_found (AllSync ps) d h = absurd d
    shown_found (Failover ps) d h = shown_first_found ps d h
    shown_found (MissFailover ps) d h =
        ⊎_elim
        (λ (is : asks_get op ≡ true). subst IsSome (sym (pick_true (asks_get op) (finds_some op s ps) (finds_head op s ps) is)) (shown_some_found ps d (cond_true (asks_get op) _ _ is h)))
        (λ (is : asks_get op ≡ false). subst IsSome (sym (pick_false (asks_get op) (finds_some op s ps) (finds_head op s ps) is)) (shown_head_found ps d (cond_false (asks_get op) _ _ is h)))
        (bool_is (asks_get op))
    shown_found (WarmUp cold warm e) d h = absurd d
    shown_found (ByOperation policies) d h = shown_policy_found policies d h

    shown_first_found : (ps : Plans) → AreDirect op ps → shown_first op s ps ≡ true → IsSome (finds_first op s ps)
    shown_first_found End d h = absurd (cc)
    shown_first_found (More p ps) d h =
        ⊎_elim
        (λ here. or_left (calls_before_found op s p) _ (shown_found p d.0 here))
        (λ there.
        let t = both_split (can_fail op p) (shown_first op s ps) there in
        or_right (calls_before_found op s p) _ (cond_some (can_fail op p) _ t.0 (after_some (tries op p) _ (shown_first_found ps d.1 t.1))))
        (either_split (shown op s p) (can_fail op p && shown_first op s ps) h)

    shown_some_found : (ps : Plans) → AreDirect op ps → shown_some op s ps ≡ true → IsSome (finds_some op s ps)
    shown_some_found End d h = absurd (cc)
    shown_some_found (More p ps) d h =
        ⊎_elim
        (λ here. or_left (calls_before_found op s p) _ (shown_found p d.0 here))
        (λ there. or_right (calls_before_found op s p) _ (after_some (tries op p) _ (shown_some_found ps d.1 there)))
        (either_split (shown op s p) (shown_some op s ps) h)

    shown_head_found : (ps : Plans) → AreDirect op ps → shown_head op s ps ≡ true → IsSome (finds_head op s ps)
    shown_head_found End d h = absurd (cc)
    shown_head_found (More p ps) d h = shown_found p d.0 h

    shown_policy_found : (ps : PlanPolicies) → IsPolicyDirect op ps → shown_policy op s ps ≡ true → IsSome (finds_policy op s ps)
    shown_policy_found (Otherwise p) d h = shown_found p d h
    shown_policy_found (Policy o p rest) d h =
        ⊎_elim
        (λ (is : same_op o op ≡ true). subst IsSome (sym (pick_true (same_op o op) (calls_before_found op s p) (finds_policy op s rest) is)) (shown_found p (true_match (same_op o op) _ _ is d) (cond_true (same_op o op) _ _ is h)))
        (λ (is : same_op o op ≡ false). subst IsSome (sym (pick_false (same_op o op) (calls_before_found op s p) (finds_policy op s rest) is)) (shown_policy_found rest (false_match (same_op o op) _ _ is d) (cond_false (same_op o op) _ _ is h)))
        (bool_is (same_op o op))

  -- without a warm-up nothing is copied
  mutual
    none_copied : (p : Plan) → IsDirect op p → copied op s p ≡ true → ⊥
    none_copied (Server t) d h = cc
    none_copied Null d h = cc
    none_copied Failing d h = cc
    none_copied (AllSync ps) d h = d
    none_copied (Failover ps) d h = none_copied_first ps d h
    none_copied (MissFailover ps) d h =
        ⊎_elim
        (λ (is : asks_get op ≡ true). none_copied_some ps d (cond_true (asks_get op) _ _ is h))
        (λ (is : asks_get op ≡ false). none_copied_head ps d (cond_false (asks_get op) _ _ is h))
        (bool_is (asks_get op))
    none_copied (WarmUp cold warm e) d h = d
    none_copied (ByOperation policies) d h = none_copied_policy policies d h

    none_copied_some : (ps : Plans) → AreDirect op ps → copied_some op s ps ≡ true → ⊥
    none_copied_some End d h = cc
    none_copied_some (More p ps) d h = ⊎_elim (λ here. none_copied p d.0 here) (λ there. none_copied_some ps d.1 there) (either_split (copied op s p) (copied_some op s ps) h)

    none_copied_first : (ps : Plans) → AreDirect op ps → copied_first op s ps ≡ true → ⊥
    none_copied_first End d h = cc
    none_copied_first (More p ps) d h = ⊎_elim (λ here. none_copied p d.0 here) (λ there. none_copied_first ps d.1 (both_split (can_fail op p) (copied_first op s ps) there).1) (either_split (copied op s p) (can_fail op p && copied_first op s ps) h)

    none_copied_head : (ps : Plans) → AreDirect op ps → copied_head op s ps ≡ true → ⊥
    none_copied_head End d h = cc
    none_copied_head (More p ps) d h = none_copied p d.0 h

    none_copied_policy : (ps : PlanPolicies) → IsPolicyDirect op ps → copied_policy op s ps ≡ true → ⊥
    none_copied_policy (Otherwise p) d h = none_copied p d h
    none_copied_policy (Policy o p rest) d h =
        ⊎_elim
        (λ (is : same_op o op ≡ true). none_copied p (true_match (same_op o op) _ _ is d) (cond_true (same_op o op) _ _ is h))
        (λ (is : same_op o op ≡ false). none_copied_policy rest (false_match (same_op o op) _ _ is d) (cond_false (same_op o op) _ _ is h))
        (bool_is (same_op o op))

kept_is_acked : KeptIsAcked
kept_is_acked plain s kind good direct leaves =
    ⊎_elim
    (λ (is : kept Delete s plain ≡ true). kept_acked s plain direct is)
    (λ (is : kept Delete s plain ≡ false). absurd (leaves ((cleared_is_exact plain kind s good).0 (ap not is))))
    (bool_is (kept Delete s plain))

taken_is_found : TakenIsFound
taken_is_found plain op s good direct takes =
    let t = both_split (is_taking op) (shown op s plain || (asks_get op && copied op s plain)) (takes_is_taken plain op s takes) in
    ⊎_elim
    (λ here. shown_found op s plain direct here)
    (λ there. absurd (none_copied op s plain direct (both_split (asks_get op) (copied op s plain) there).1))
    (either_split (shown op s plain) (asks_get op && copied op s plain) t.1)

pub gaps_have_words : GapsHaveWords
gaps_have_words = record {
  acked = λ plain s n ask good op fits e. acked s ask op fits plain good 0 n e;
  found = λ plain s n ask answer good fits showing done e. found s ask answer fits showing done plain good 0 n e;
  kept = kept_is_acked;
  taken = taken_is_found;
}
