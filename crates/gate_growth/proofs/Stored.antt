-- What a word's calls put on a server is computed.
use Rattle.std.proofs.Common.{◌≡◌, ℕ, zero, suc, ◌+◌, Bool, true, false, not, ◌||◌, List, length, Option, Some, None, inl, inr, ⊎_elim, refl, sym, ap, ◌∙◌, subst, nat_eq, slice_get}
use Rattle.std.proofs.lemmas.Bool.{eq-eqb}
use Rattle.mc_types.specs.declared.ask.Op.{Op}
use Rattle.mc_types.specs.declared.ask.Op.TheVariants.{Get, Gat, Set, Add, Replace, Append, Prepend, Cas, Delete, Incr, Decr, Touch}
use Rattle.mc_types.specs.declared.ask.Ask.{Ask}
use Rattle.mc_types.specs.declared.answer.Answer.{Answer}
use Rattle.mc_types.specs.declared.call.Origin.{Origin}
use Rattle.mc_types.specs.declared.call.Origin.TheVariants.{Client, CopyOf}
use Rattle.fresh_runs.specs.Calls.{Call}
use Rattle.fresh_runs.proofs.Lists.{only_one}
use Rattle.fresh_runs.specs.Untouched.{IsPutting, PutsIn}
use Rattle.route_tree.specs.Operation.{same_op}
use Rattle.route_tree.specs.Plan.{Plan, Plans, PlanPolicies, Server, Null, Failing, AllSync, Failover, MissFailover, WarmUp, ByOperation, End, More, Otherwise, Policy}
use Rattle.route_tree.specs.Word.{Given, rank, plain_get, refill, is_plain_get, PlanWord, WordOfAll, WordOfFirst, WordOfHead, WordOfPolicy, AfterRefill, Refilled, AfterWarm, AfterCold, WarmUpWord}
use Rattle.route_tree.proofs.Parts.{each_at, match_bool}
use Rattle.route_tree.proofs.Words.{IsOwn, own_calls}
use Rattle.gate_coverage.specs.Computed.{asks_get, can_fail, hits}
use Rattle.gate_coverage.proofs.Choices.{both, either_left, either_right, bool_is, if_true, if_false, true_match, false_match, by_get, only_get, only_other, is_get_of, no_get_of}
use Rattle.gate_coverage.proofs.Failing.{word_fails, word_hits}
use Rattle.gate_coverage.proofs.Copying.{refill_adds}
use Rattle.gate_growth.specs.Puts.{Puts}
use Rattle.gate_growth.specs.PutsComputed.{may_store, stores_some, may_store_first, stores_head, stores_policy, puts}
use Rattle.gate_growth.proofs.Parted.{puts_either, puts_none}

-- a get puts nothing
get_puts : (op : Op) → op ≡ Get → IsPutting op → ⊥
get_puts Get e p = p
get_puts op e p = cc

no_get : (op : Op) → asks_get op ≡ false → not (asks_get op) ≡ true
no_get op e = ap not e

-- through a cold and a warm side: a call that puts is one of a cold part, of the warm one, or of an add of what the warm one hit
module _ (s : ℕ) (ask : Ask) (cold : ℕ → List Call → Given → Type 0) (warm : ℕ → List Call → Given → Type 0) (add : Answer → ℕ → ℕ → List Call → Given → Type 0) (T : Type 0) (in_cold : (b : ℕ) (calls : List Call) (given : Given) → cold b calls given → PutsIn calls s → T) (in_warm : (b : ℕ) (calls : List Call) (given : Given) → warm b calls given → PutsIn calls s → T) (in_add : (b d i : ℕ) (c2 c3 : List Call) (g stored : Given) → warm b c2 g → rank g ≡ 0 → add g.reply i d c3 stored → PutsIn c3 s → T) where
  after_refill_puts : (g : Given) (b : ℕ) (calls : List Call) (given : Given) → AfterRefill ask cold warm add g b calls given → PutsIn calls s → T
  after_refill_puts g b calls given w h = match_bool (is_plain_get ask) _ _ T w (λ k. absurd (puts_none s (subst (λ l. PutsIn l s) k.0 h))) (λ k. in_cold b calls given k h)

  refilled_puts : (b d : ℕ) (c2 back : List Call) (g given : Given) → warm b c2 g → rank g ≡ 0 → (from : Option ℕ) → Refilled ask cold warm add g from d back given → PutsIn back s → T
  refilled_puts b d c2 back g given v z None w h = absurd w
  refilled_puts b d c2 back g given v z (Some i) w h =
      ⊎_elim (λ l. in_add b d i c2 w.0 g w.3 v z w.4 l) (λ r. after_refill_puts g (d + length w.0) w.1 given w.5 r) (puts_either s w.0 w.1 (subst (λ l. PutsIn l s) w.2 h))

  after_warm_puts : (b d : ℕ) (c2 back : List Call) (first g given : Given) → warm b c2 g → (r : ℕ) → rank g ≡ r → AfterWarm ask cold warm add first g r d back given → PutsIn back s → T
  after_warm_puts b d c2 back first g given v zero e w h = refilled_puts b d c2 back g given v e g.from w h
  after_warm_puts b d c2 back first g given v (suc r) e w h = absurd (puts_none s (subst (λ l. PutsIn l s) w.0 h))

  after_cold_puts : (b : ℕ) (calls : List Call) (first given : Given) (r : ℕ) → AfterCold ask cold warm add first r b calls given → PutsIn calls s → T
  after_cold_puts b calls first given zero w h = absurd (puts_none s (subst (λ l. PutsIn l s) w.0 h))
  after_cold_puts b calls first given (suc r) w h =
      ⊎_elim (λ l. in_warm b w.0 w.3 w.4 l) (λ k. after_warm_puts b (b + length w.0) w.0 w.1 first w.3 given w.4 (rank w.3) refl w.5 k) (puts_either s w.0 w.1 (subst (λ l. PutsIn l s) w.2 h))

  warm_up_puts : (b : ℕ) (calls : List Call) (given : Given) → WarmUpWord ask cold warm add b calls given → PutsIn calls s → T
  warm_up_puts b calls given w h =
      ⊎_elim (λ l. in_cold b w.0 w.3 w.4 l) (λ r. after_cold_puts (b + length w.0) w.1 w.3 given (rank w.3) w.5 r) (puts_either s w.0 w.1 (subst (λ l. PutsIn l s) w.2 h))

module _ (s : ℕ) where
  abbrev T : Plan → Ask → Type 0
  T p ask = may_store ask.op s p ≡ true

  mutual
    pub word_stores : (p : Plan) (ask : Ask) (origin : Origin) (b : ℕ) (calls : List Call) (given : Given) → PlanWord p ask origin b calls given → PutsIn calls s → may_store ask.op s p ≡ true
    word_stores (Server t) ask origin b calls given w h =
        let call : Call = record { server = t; ask = ask; origin = origin; outcome = w.0 } in
        let is : call ≡ h.1 = only_one call h.1 h.0 (subst (λ l. slice_get l h.0 ≡ Some h.1) w.2 h.2) in
        let puts : IsPutting ask.op = subst (λ (c : Call). IsPutting c.ask.op) (sym is) h.4 in
        both (not (asks_get ask.op)) (nat_eq t s) (no_get ask.op (no_get_of ask.op (λ e. get_puts ask.op e puts))) (eq-eqb t s (ap (λ (c : Call). c.server) is ∙ h.3))
    word_stores Null ask origin b calls given w h = absurd (puts_none s (subst (λ l. PutsIn l s) w.0 h))
    word_stores Failing ask origin b calls given w h = absurd (puts_none s (subst (λ l. PutsIn l s) w.0 h))
    word_stores (AllSync ps) ask origin b calls given w h = all_stores ps ask origin b calls w.0 w.1 h
    word_stores (Failover ps) ask origin b calls given w h = first_stores ps ask origin b calls given w h
    word_stores (MissFailover ps) ask origin b calls given w h =
        by_get ask.op _
        (λ e. if_true (asks_get ask.op) _ _ (is_get_of ask.op e) (some_stores ps ask origin b calls given (only_get ask.op _ _ e w) h))
        (λ n. if_false (asks_get ask.op) _ _ (no_get_of ask.op n) (head_stores ps ask origin b calls given (only_other ask.op _ _ n w) h))
    word_stores (WarmUp cold warm e) ask origin b calls given w h =
        by_get ask.op _
        (λ op. warm_up_puts s ask (PlanWord cold ask origin) (PlanWord warm (plain_get ask) origin) (λ hit i. PlanWord cold (refill ask hit e) (CopyOf i)) (may_store ask.op s (WarmUp cold warm e) ≡ true)
        (λ b' c' g' w' k. either_left (may_store ask.op s cold) _ (word_stores cold ask origin b' c' g' w' k))
        (λ b' c' g' w' k. either_right (may_store ask.op s cold) _ (both (asks_get ask.op) _ (is_get_of ask.op op) (either_left (may_store Get s warm) _ (word_stores warm (plain_get ask) origin b' c' g' w' k))))
        (λ b' d i c2 c3 g stored v z a k. either_right (may_store ask.op s cold) _ (both (asks_get ask.op) _ (is_get_of ask.op op) (either_right (may_store Get s warm) _ (both (hits Get warm) _ (word_hits warm (plain_get ask) origin b' c2 g v z) (subst (λ o. may_store o s cold ≡ true) (refill_adds ask g.reply e) (word_stores cold (refill ask g.reply e) (CopyOf i) d c3 stored a k))))))
        b calls given (only_get ask.op _ _ op w) h)
        (λ n. either_left (may_store ask.op s cold) _ (word_stores cold ask origin b calls given (only_other ask.op _ _ n w) h))
    word_stores (ByOperation policies) ask origin b calls given w h = policy_stores policies ask origin b calls given w h

    all_stores : (ps : Plans) (ask : Ask) (origin : Origin) (b : ℕ) (calls : List Call) (all : List Given) → WordOfAll ps ask origin b calls all → PutsIn calls s → stores_some ask.op s ps ≡ true
    all_stores End ask origin b calls all w h = absurd (puts_none s (subst (λ l. PutsIn l s) w.0 h))
    all_stores (More p ps) ask origin b calls all w h =
        ⊎_elim (λ l. either_left (may_store ask.op s p) _ (word_stores p ask origin b w.0 w.3 w.4 l)) (λ r. either_right (may_store ask.op s p) _ (all_stores ps ask origin (b + length w.0) w.1 w.5 w.7 r)) (puts_either s w.0 w.1 (subst (λ l. PutsIn l s) w.2 h))

    first_stores : (ps : Plans) (ask : Ask) (origin : Origin) (b : ℕ) (calls : List Call) (given : Given) → WordOfFirst ps 4 ask origin b calls given → PutsIn calls s → may_store_first ask.op s ps ≡ true
    first_stores End ask origin b calls given w h = absurd w
    first_stores (More p ps) ask origin b calls given (inl w) h = either_left (may_store ask.op s p) _ (word_stores p ask origin b calls given w.0 h)
    first_stores (More p ps) ask origin b calls given (inr w) h =
        ⊎_elim
        (λ l. either_left (may_store ask.op s p) _ (word_stores p ask origin b w.0 w.3 w.4 l))
        (λ r. either_right (may_store ask.op s p) _ (both (can_fail ask.op p) _ (word_fails p ask origin b w.0 w.3 w.4 w.5) (first_stores ps ask origin (b + length w.0) w.1 given w.6 r)))
        (puts_either s w.0 w.1 (subst (λ l. PutsIn l s) w.2 h))

    some_stores : (ps : Plans) (ask : Ask) (origin : Origin) (b : ℕ) (calls : List Call) (given : Given) → WordOfFirst ps 1 ask origin b calls given → PutsIn calls s → stores_some ask.op s ps ≡ true
    some_stores End ask origin b calls given w h = absurd w
    some_stores (More p ps) ask origin b calls given (inl w) h = either_left (may_store ask.op s p) _ (word_stores p ask origin b calls given w.0 h)
    some_stores (More p ps) ask origin b calls given (inr w) h =
        ⊎_elim
        (λ l. either_left (may_store ask.op s p) _ (word_stores p ask origin b w.0 w.3 w.4 l))
        (λ r. either_right (may_store ask.op s p) _ (some_stores ps ask origin (b + length w.0) w.1 given w.6 r))
        (puts_either s w.0 w.1 (subst (λ l. PutsIn l s) w.2 h))

    head_stores : (ps : Plans) (ask : Ask) (origin : Origin) (b : ℕ) (calls : List Call) (given : Given) → WordOfHead ps ask origin b calls given → PutsIn calls s → stores_head ask.op s ps ≡ true
    head_stores End ask origin b calls given w h = absurd w
    head_stores (More p ps) ask origin b calls given w h = word_stores p ask origin b calls given w h

    policy_stores : (ps : PlanPolicies) (ask : Ask) (origin : Origin) (b : ℕ) (calls : List Call) (given : Given) → WordOfPolicy ps ask origin b calls given → PutsIn calls s → stores_policy ask.op s ps ≡ true
    policy_stores (Otherwise p) ask origin b calls given w h = word_stores p ask origin b calls given w h
    policy_stores (Policy o p rest) ask origin b calls given w h =
        ⊎_elim
        (λ e. if_true (same_op o ask.op) _ _ e (word_stores p ask origin b calls given (true_match _ _ _ e w) h))
        (λ e. if_false (same_op o ask.op) _ _ e (policy_stores rest ask origin b calls given (false_match _ _ _ e w) h))
        (bool_is (same_op o ask.op))

module _ (plain : Plan) (s : ℕ) where
  -- by the first operations of those that store
  abbrev pub by_two : Bool
  by_two = may_store Set s plain || may_store Add s plain

  abbrev pub by_three : Bool
  by_three = by_two || may_store Replace s plain

  abbrev pub by_four : Bool
  by_four = by_three || may_store Cas s plain

  by_putting : (op : Op) → IsPutting op → may_store op s plain ≡ true → puts plain s ≡ true
  by_putting Set p h = either_left by_four _ (either_left by_three _ (either_left by_two _ (either_left (may_store Set s plain) _ h)))
  by_putting Add p h = either_left by_four _ (either_left by_three _ (either_left by_two _ (either_right (may_store Set s plain) _ h)))
  by_putting Replace p h = either_left by_four _ (either_left by_three _ (either_right by_two _ h))
  by_putting Cas p h = either_left by_four _ (either_right by_three _ h)
  by_putting Get p h = absurd p
  by_putting Gat p h = absurd p
  by_putting Append p h = absurd p
  by_putting Prepend p h = absurd p
  by_putting Delete p h = absurd p
  by_putting Incr p h = absurd p
  by_putting Decr p h = absurd p
  by_putting Touch p h = absurd p

pub puts_are_computed : (plain : Plan) (s : ℕ) → Puts plain s → puts plain s ≡ true
puts_are_computed plain s t =
    let ask = t.0 in
    let calls = t.2 in
    let given : Given = record { reply = t.3; from = t.4 } in
    let h = t.6 in
    let stored = word_stores s plain ask Client 0 calls given t.5 h in
    ⊎_elim
    (λ own. by_putting plain s ask.op (subst (λ (a : Ask). IsPutting a.op) own.0 h.4) stored)
    (λ get. either_right (by_four plain s) _ (subst (λ o. may_store o s plain ≡ true) get stored))
    (each_at (IsOwn ask Client) calls h.0 h.1 (own_calls plain ask Client 0 calls given t.5) h.2)
