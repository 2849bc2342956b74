-- What a get copies is computed, and so what a read takes.
use Rattle.std.proofs.Common.{◌≡◌, ◌≢◌, ℕ, zero, suc, ◌+◌, Bool, true, false, List, [], ◌++◌, length, Option, Some, None, inl, inr, ⊎_elim, refl, sym, ap, ◌∙◌, subst, arith, slice_get}
use Rattle.mc_types.specs.declared.ask.Op.{Op}
use Rattle.mc_types.specs.declared.ask.Op.TheVariants.{Get, Gat, Set, Add, Replace, Append, Prepend, Cas, Delete, Incr, Decr, Touch}
use Rattle.mc_types.specs.declared.ask.Ask.{Ask}
use Rattle.mc_types.specs.declared.answer.Answer.{Answer}
use Rattle.mc_types.specs.declared.answer.Answer.TheVariants.{Hit}
use Rattle.mc_types.specs.declared.call.Origin.{Origin}
use Rattle.mc_types.specs.declared.call.Origin.TheVariants.{Client, CopyOf}
use Rattle.fresh_runs.specs.Calls.{Call}
use Rattle.fresh_runs.specs.Cover.{IsCallOf}
use Rattle.route_tree.specs.Each.{Each}
use Rattle.route_tree.specs.Operation.{same_op}
use Rattle.route_tree.specs.Plan.{Plan, Plans, PlanPolicies, Server, Null, Failing, AllSync, Failover, MissFailover, WarmUp, ByOperation, End, More, Otherwise, Policy}
use Rattle.route_tree.specs.Word.{Given, rank, plain_get, refill, is_plain_get, PlanWord, WordOfAll, WordOfFirst, WordOfHead, WordOfPolicy, AfterRefill, Refilled, AfterWarm, AfterCold, WarmUpWord}
use Rattle.route_tree.proofs.Parts.{each_at, match_bool}
use Rattle.route_tree.proofs.Words.{IsOwn, own_calls}
use Rattle.gate_coverage.specs.Cover.{IsTaking, Takes}
use Rattle.gate_coverage.specs.Computed.{asks_get, is_taking, can_fail, shown, adds, adds_some, adds_first, adds_head, adds_policy, copied, copied_some, copied_first, copied_policy, takes_server}
use Rattle.gate_coverage.proofs.Choices.{both, either_left, either_right, bool_is, if_true, if_false, true_match, false_match, only_get, only_other, is_get_of, HasCall, has_front, has_back, has_weaker, get_either, AreSome, some_either, some_at}
use Rattle.gate_coverage.proofs.Failing.{word_fails}
use Rattle.gate_coverage.proofs.Covering.{from_takes, copy_is_get, taking_get}
use Rattle.gate_coverage.proofs.Showing.{word_shows}

-- ---- a word for an add that asks a server
module _ (ask : Ask) (origin : Origin) (op : ask.op ≡ Add) where
  add_is_other : ask.op ≢ Get
  add_is_other e = cc

  mutual
    pub word_adds : (p : Plan) (b : ℕ) (calls : List Call) (given : Given) → PlanWord p ask origin b calls given → AreSome calls → adds p ≡ true
    word_adds (Server t) b calls given w h = refl
    word_adds Null b calls given w h = absurd (subst AreSome w.0 h)
    word_adds Failing b calls given w h = absurd (subst AreSome w.0 h)
    word_adds (AllSync ps) b calls given w h = all_adds ps b calls w.0 w.1 h
    word_adds (Failover ps) b calls given w h = first_adds ps b calls given w h
    word_adds (MissFailover ps) b calls given w h = head_adds ps b calls given (only_other ask.op _ _ add_is_other w) h
    word_adds (WarmUp cold warm e) b calls given w h = word_adds cold b calls given (only_other ask.op _ _ add_is_other w) h
    word_adds (ByOperation policies) b calls given w h = policy_adds policies b calls given w h

    all_adds : (ps : Plans) (b : ℕ) (calls : List Call) (all : List Given) → WordOfAll ps ask origin b calls all → AreSome calls → adds_some ps ≡ true
    all_adds End b calls all w h = absurd (subst AreSome w.0 h)
    all_adds (More p ps) b calls all w h =
        ⊎_elim (λ f. either_left (adds p) (adds_some ps) (word_adds p b w.0 w.3 w.4 f)) (λ r. either_right (adds p) (adds_some ps) (all_adds ps (b + length w.0) w.1 w.5 w.7 r)) (some_either w.0 w.1 (subst AreSome w.2 h))

    first_adds : (ps : Plans) (b : ℕ) (calls : List Call) (given : Given) → WordOfFirst ps 4 ask origin b calls given → AreSome calls → adds_first ps ≡ true
    first_adds End b calls given w h = absurd w
    first_adds (More p ps) b calls given (inl w) h = either_left (adds p) _ (word_adds p b calls given w.0 h)
    first_adds (More p ps) b calls given (inr w) h =
        ⊎_elim
        (λ f. either_left (adds p) _ (word_adds p b w.0 w.3 w.4 f))
        (λ r. either_right (adds p) _ (both (can_fail Add p) (adds_first ps) (subst (λ o. can_fail o p ≡ true) op (word_fails p ask origin b w.0 w.3 w.4 w.5)) (first_adds ps (b + length w.0) w.1 given w.6 r)))
        (some_either w.0 w.1 (subst AreSome w.2 h))

    head_adds : (ps : Plans) (b : ℕ) (calls : List Call) (given : Given) → WordOfHead ps ask origin b calls given → AreSome calls → adds_head ps ≡ true
    head_adds End b calls given w h = absurd w
    head_adds (More p ps) b calls given w h = word_adds p b calls given w h

    policy_adds : (ps : PlanPolicies) (b : ℕ) (calls : List Call) (given : Given) → WordOfPolicy ps ask origin b calls given → AreSome calls → adds_policy ps ≡ true
    policy_adds (Otherwise p) b calls given w h = word_adds p b calls given w h
    policy_adds (Policy o p rest) b calls given w h =
        ⊎_elim
        (λ e. if_true (same_op o Add) _ _ (ap (same_op o) (sym op) ∙ e) (word_adds p b calls given (true_match _ _ _ e w) h))
        (λ e. if_false (same_op o Add) _ _ (ap (same_op o) (sym op) ∙ e) (policy_adds rest b calls given (false_match _ _ _ e w) h))
        (bool_is (same_op o ask.op))

-- the ask of a refill
pub refill_adds : (ask : Ask) (answer : Answer) (e : ℕ) → (refill ask answer e).op ≡ Add
refill_adds ask (Hit a b c) e = refl
refill_adds ask _ e = refl

-- ---- what is copied

-- each copy in the part is of a call, in the list, of a server for which that is computed
abbrev pub CopiesIn : (ℕ → Bool) → ℕ → List Call → List Call → Type 0
CopiesIn test b calls part = (j k : ℕ) (copy : Call) → slice_get part j ≡ Some copy → copy.origin ≡ CopyOf k → HasCall (λ c. test c.server ≡ true) b calls k

copies_weaker : (f g : ℕ → Bool) (b : ℕ) (calls part : List Call) → ((s : ℕ) → f s ≡ true → g s ≡ true) → CopiesIn f b calls part → CopiesIn g b calls part
copies_weaker f g b calls part w h j k copy at is = has_weaker (λ c. f c.server ≡ true) (λ c. g c.server ≡ true) b calls k (λ c. w c.server) (h j k copy at is)

copies_front : (f : ℕ → Bool) (b : ℕ) (front back part : List Call) → CopiesIn f b front part → CopiesIn f b (front ++ back) part
copies_front f b front back part h j k copy at is = has_front (λ c. f c.server ≡ true) b front back k (h j k copy at is)

copies_back : (f : ℕ → Bool) (b : ℕ) (front back part : List Call) → CopiesIn f (b + length front) back part → CopiesIn f b (front ++ back) part
copies_back f b front back part h j k copy at is = has_back (λ c. f c.server ≡ true) b front back k (h j k copy at is)

copies_join : (f : ℕ → Bool) (b : ℕ) (calls front back : List Call) → CopiesIn f b calls front → CopiesIn f b calls back → CopiesIn f b calls (front ++ back)
copies_join f b calls front back h g j k copy at is =
    ⊎_elim (λ l. h j k copy l is) (λ r. g r.0 k copy r.1 is) (get_either front back j copy at)

copies_both : (f : ℕ → Bool) (b : ℕ) (front back : List Call) → CopiesIn f b front front → CopiesIn f (b + length front) back back → CopiesIn f b (front ++ back) (front ++ back)
copies_both f b front back h g = copies_join f b (front ++ back) front back (copies_front f b front back front h) (copies_back f b front back back g)

no_copies : (f : ℕ → Bool) (b : ℕ) (calls part : List Call) → part ≡ [] → CopiesIn f b calls part
no_copies f b calls part e j k copy at is = absurd (subst AreSome e (some_at part j copy at))

-- through a cold and a warm side
module _ (ask : Ask) (cold : ℕ → List Call → Given → Type 0) (warm : ℕ → List Call → Given → Type 0) (add : Answer → ℕ → ℕ → List Call → Given → Type 0) (f : ℕ → Bool) (in_cold : (b : ℕ) (calls : List Call) (given : Given) → cold b calls given → CopiesIn f b calls calls) (in_warm : (b : ℕ) (calls : List Call) (given : Given) → warm b calls given → CopiesIn f b calls calls) (in_add : (b i : ℕ) (c2 c3 : List Call) (g stored : Given) → warm b c2 g → g.from ≡ Some i → add g.reply i (b + length c2) c3 stored → CopiesIn f b c2 c3) where
  after_refill_copies : (b : ℕ) (calls : List Call) (g given : Given) → AfterRefill ask cold warm add g b calls given → CopiesIn f b calls calls
  after_refill_copies b calls g given w = match_bool (is_plain_get ask) _ _ (CopiesIn f b calls calls) w (λ k. no_copies f b calls calls k.0) (λ k. in_cold b calls given k)

  refilled_copies : (b : ℕ) (c2 back : List Call) (g given : Given) → warm b c2 g → (from : Option ℕ) → g.from ≡ from → Refilled ask cold warm add g from (b + length c2) back given → CopiesIn f b (c2 ++ back) (c2 ++ back)
  refilled_copies b c2 back g given v None is w = absurd w
  refilled_copies b c2 back g given v (Some i) is w =
      subst (λ l. CopiesIn f b (c2 ++ l) (c2 ++ l)) (sym w.2)
      (copies_join f b (c2 ++ (w.0 ++ w.1)) c2 (w.0 ++ w.1)
      (copies_front f b c2 (w.0 ++ w.1) c2 (in_warm b c2 g v))
      (copies_join f b (c2 ++ (w.0 ++ w.1)) w.0 w.1
      (copies_front f b c2 (w.0 ++ w.1) w.0 (in_add b i c2 w.0 g w.3 v is w.4))
      (copies_back f b c2 (w.0 ++ w.1) w.1 (copies_back f (b + length c2) w.0 w.1 w.1 (after_refill_copies (b + length c2 + length w.0) w.1 g given w.5)))))

  after_warm_copies : (b : ℕ) (c2 back : List Call) (first g given : Given) → warm b c2 g → (r : ℕ) → AfterWarm ask cold warm add first g r (b + length c2) back given → CopiesIn f b (c2 ++ back) (c2 ++ back)
  after_warm_copies b c2 back first g given v zero w = refilled_copies b c2 back g given v g.from refl w
  after_warm_copies b c2 back first g given v (suc r) w = copies_both f b c2 back (in_warm b c2 g v) (no_copies f (b + length c2) back back w.0)

  after_cold_copies : (b : ℕ) (calls : List Call) (first given : Given) (r : ℕ) → AfterCold ask cold warm add first r b calls given → CopiesIn f b calls calls
  after_cold_copies b calls first given zero w = no_copies f b calls calls w.0
  after_cold_copies b calls first given (suc r) w = subst (λ l. CopiesIn f b l l) (sym w.2) (after_warm_copies b w.0 w.1 first w.3 given w.4 (rank w.3) w.5)

  warm_up_copies : (b : ℕ) (calls : List Call) (given : Given) → WarmUpWord ask cold warm add b calls given → CopiesIn f b calls calls
  warm_up_copies b calls given w = subst (λ l. CopiesIn f b l l) (sym w.2) (copies_both f b w.0 w.1 (in_cold b w.0 w.3 w.4) (after_cold_copies (b + length w.0) w.1 w.3 given (rank w.3) w.5))

-- the calls of a refill copy what the warm side was answered
refill_copies : (cold warm : Plan) (e : ℕ) (ask : Ask) (b i : ℕ) (c2 c3 : List Call) (g stored : Given) → PlanWord warm (plain_get ask) Client b c2 g → g.from ≡ Some i → PlanWord cold (refill ask g.reply e) (CopyOf i) (b + length c2) c3 stored → CopiesIn (λ s. copied Get s (WarmUp cold warm e)) b c2 c3
refill_copies cold warm e ask b i c2 c3 g stored v is w j k copy at origin =
    let add = refill_adds ask g.reply e in
    let same : k ≡ i = ⊎_elim (λ own. (let o = own.1 in cc)) (λ get. absurd (cc)) (each_at (IsOwn (refill ask g.reply e) (CopyOf i)) c3 j copy (own_calls cold (refill ask g.reply e) (CopyOf i) (b + length c2) c3 stored w) at) in
    let adding = word_adds (refill ask g.reply e) (CopyOf i) add cold (b + length c2) c3 stored w (some_at c3 j copy at) in
    let x = word_shows warm (plain_get ask) Client b c2 g tt v i is in
    has_weaker (λ c. shown Get c.server warm ≡ true) (λ c. copied Get c.server (WarmUp cold warm e) ≡ true) b c2 k
    (λ c h. either_right (copied Get c.server cold) _ (either_right (copied Get c.server warm) _ (both (shown Get c.server warm) (adds cold) h adding)))
    (subst (HasCall (λ c. shown Get c.server warm ≡ true) b c2) (sym same) x.1)

-- calls that carry the client's data copy nothing
own_only : (b : ℕ) (calls : List Call) → Each (λ (c : Call). c.origin ≡ Client) calls → CopiesIn (λ s. false) b calls calls
own_only b calls own j k copy at is = let o = each_at (λ (c : Call). c.origin ≡ Client) calls j copy own at in absurd (cc)

mutual
  pub word_copies : (p : Plan) (ask : Ask) (b : ℕ) (calls : List Call) (given : Given) → ask.op ≡ Get → PlanWord p ask Client b calls given → CopiesIn (λ s. copied Get s p) b calls calls
  word_copies (Server t) ask b calls given op w = own_only b calls (subst (Each (λ (c : Call). c.origin ≡ Client)) (sym w.2) (refl, tt))
  word_copies Null ask b calls given op w = no_copies (λ s. false) b calls calls w.0
  word_copies Failing ask b calls given op w = no_copies (λ s. false) b calls calls w.0
  word_copies (AllSync ps) ask b calls given op w = all_copies ps ask b calls w.0 op w.1
  word_copies (Failover ps) ask b calls given op w = first_copies ps ask b calls given op w
  word_copies (MissFailover ps) ask b calls given op w = some_copies ps ask b calls given op (only_get ask.op _ _ op w)
  word_copies (WarmUp cold warm e) ask b calls given op w =
      warm_up_copies ask (PlanWord cold ask Client) (PlanWord warm (plain_get ask) Client) (λ hit i. PlanWord cold (refill ask hit e) (CopyOf i)) (λ s. copied Get s (WarmUp cold warm e))
      (λ b' c' g' w'. copies_weaker (λ s. copied Get s cold) (λ s. copied Get s (WarmUp cold warm e)) b' c' c' (λ s h. either_left (copied Get s cold) _ h) (word_copies cold ask b' c' g' op w'))
      (λ b' c' g' w'. copies_weaker (λ s. copied Get s warm) (λ s. copied Get s (WarmUp cold warm e)) b' c' c' (λ s h. either_right (copied Get s cold) _ (either_left (copied Get s warm) _ h)) (word_copies warm (plain_get ask) b' c' g' refl w'))
      (λ b' i c2 c3 g' st v' is' w'. refill_copies cold warm e ask b' i c2 c3 g' st v' is' w')
      b calls given (only_get ask.op _ _ op w)
  word_copies (ByOperation policies) ask b calls given op w = policy_copies policies ask b calls given op w

  all_copies : (ps : Plans) (ask : Ask) (b : ℕ) (calls : List Call) (all : List Given) → ask.op ≡ Get → WordOfAll ps ask Client b calls all → CopiesIn (λ s. copied_some Get s ps) b calls calls
  all_copies End ask b calls all op w = no_copies (λ s. false) b calls calls w.0
  all_copies (More p ps) ask b calls all op w =
      subst (λ l. CopiesIn (λ s. copied_some Get s (More p ps)) b l l) (sym w.2)
      (copies_both (λ s. copied_some Get s (More p ps)) b w.0 w.1
      (copies_weaker (λ s. copied Get s p) (λ s. copied_some Get s (More p ps)) b w.0 w.0 (λ s h. either_left (copied Get s p) _ h) (word_copies p ask b w.0 w.3 op w.4))
      (copies_weaker (λ s. copied_some Get s ps) (λ s. copied_some Get s (More p ps)) (b + length w.0) w.1 w.1 (λ s h. either_right (copied Get s p) _ h) (all_copies ps ask (b + length w.0) w.1 w.5 op w.7)))

  first_copies : (ps : Plans) (ask : Ask) (b : ℕ) (calls : List Call) (given : Given) → ask.op ≡ Get → WordOfFirst ps 4 ask Client b calls given → CopiesIn (λ s. copied_first Get s ps) b calls calls
  first_copies End ask b calls given op w = absurd w
  first_copies (More p ps) ask b calls given op (inl w) = copies_weaker (λ s. copied Get s p) (λ s. copied_first Get s (More p ps)) b calls calls (λ s h. either_left (copied Get s p) _ h) (word_copies p ask b calls given op w.0)
  first_copies (More p ps) ask b calls given op (inr w) =
      let on : can_fail Get p ≡ true = subst (λ o. can_fail o p ≡ true) op (word_fails p ask Client b w.0 w.3 w.4 w.5) in
      subst (λ l. CopiesIn (λ s. copied_first Get s (More p ps)) b l l) (sym w.2)
      (copies_both (λ s. copied_first Get s (More p ps)) b w.0 w.1
      (copies_weaker (λ s. copied Get s p) (λ s. copied_first Get s (More p ps)) b w.0 w.0 (λ s h. either_left (copied Get s p) _ h) (word_copies p ask b w.0 w.3 op w.4))
      (copies_weaker (λ s. copied_first Get s ps) (λ s. copied_first Get s (More p ps)) (b + length w.0) w.1 w.1 (λ s h. either_right (copied Get s p) _ (both (can_fail Get p) _ on h)) (first_copies ps ask (b + length w.0) w.1 given op w.6)))

  some_copies : (ps : Plans) (ask : Ask) (b : ℕ) (calls : List Call) (given : Given) → ask.op ≡ Get → WordOfFirst ps 1 ask Client b calls given → CopiesIn (λ s. copied_some Get s ps) b calls calls
  some_copies End ask b calls given op w = absurd w
  some_copies (More p ps) ask b calls given op (inl w) = copies_weaker (λ s. copied Get s p) (λ s. copied_some Get s (More p ps)) b calls calls (λ s h. either_left (copied Get s p) _ h) (word_copies p ask b calls given op w.0)
  some_copies (More p ps) ask b calls given op (inr w) =
      subst (λ l. CopiesIn (λ s. copied_some Get s (More p ps)) b l l) (sym w.2)
      (copies_both (λ s. copied_some Get s (More p ps)) b w.0 w.1
      (copies_weaker (λ s. copied Get s p) (λ s. copied_some Get s (More p ps)) b w.0 w.0 (λ s h. either_left (copied Get s p) _ h) (word_copies p ask b w.0 w.3 op w.4))
      (copies_weaker (λ s. copied_some Get s ps) (λ s. copied_some Get s (More p ps)) (b + length w.0) w.1 w.1 (λ s h. either_right (copied Get s p) _ h) (some_copies ps ask (b + length w.0) w.1 given op w.6)))

  policy_copies : (ps : PlanPolicies) (ask : Ask) (b : ℕ) (calls : List Call) (given : Given) → ask.op ≡ Get → WordOfPolicy ps ask Client b calls given → CopiesIn (λ s. copied_policy Get s ps) b calls calls
  policy_copies (Otherwise p) ask b calls given op w = word_copies p ask b calls given op w
  policy_copies (Policy o p rest) ask b calls given op w =
      ⊎_elim
      (λ e. copies_weaker (λ s. copied Get s p) (λ s. copied_policy Get s (Policy o p rest)) b calls calls (λ s h. if_true (same_op o Get) _ _ (ap (same_op o) (sym op) ∙ e) h) (word_copies p ask b calls given op (true_match _ _ _ e w)))
      (λ e. copies_weaker (λ s. copied_policy Get s rest) (λ s. copied_policy Get s (Policy o p rest)) b calls calls (λ s h. if_false (same_op o Get) _ _ (ap (same_op o) (sym op) ∙ e) h) (policy_copies rest ask b calls given op (false_match _ _ _ e w)))
      (bool_is (same_op o ask.op))

-- ---- what is taken

taking_is : (op : Op) → IsTaking op → is_taking op ≡ true
taking_is Get h = refl
taking_is Gat h = refl
taking_is Incr h = refl
taking_is Decr h = refl
taking_is Set h = absurd h
taking_is Add h = absurd h
taking_is Replace h = absurd h
taking_is Append h = absurd h
taking_is Prepend h = absurd h
taking_is Cas h = absurd h
taking_is Delete h = absurd h
taking_is Touch h = absurd h

pub is_taking_op : (op : Op) → is_taking op ≡ true → IsTaking op
is_taking_op Get h = tt
is_taking_op Gat h = tt
is_taking_op Incr h = tt
is_taking_op Decr h = tt
is_taking_op Set h = absurd (cc)
is_taking_op Add h = absurd (cc)
is_taking_op Replace h = absurd (cc)
is_taking_op Append h = absurd (cc)
is_taking_op Prepend h = absurd (cc)
is_taking_op Cas h = absurd (cc)
is_taking_op Delete h = absurd (cc)
is_taking_op Touch h = absurd (cc)

same_server : (test : ℕ → Bool) (calls : List Call) (i s : ℕ) → HasCall (λ c. test c.server ≡ true) 0 calls i → IsCallOf calls i s → test s ≡ true
same_server test calls i s h c =
    let e : h.0 ≡ i = (let k = h.1 in omega arith) in
    let at : slice_get calls i ≡ Some h.2 = subst (λ n. slice_get calls n ≡ Some h.2) e h.3 in
    let same : h.2 ≡ c.0 = (let there = c.1 in cc) in
    subst (λ t. test t ≡ true) (ap (λ (x : Call). x.server) same ∙ c.2) h.4

pub takes_is_taken : (plain : Plan) (op : Op) (s : ℕ) → Takes plain op s → takes_server plain op s ≡ true
takes_is_taken plain op s t =
    let ask = t.0 in
    let calls = t.3 in
    let given : Given = record { reply = t.4; from = t.5 } in
    ⊎_elim
    (λ f.
    let taking = from_takes plain ask Client 0 calls given t.1 t.6 t.7.0 f in
    let x = word_shows plain ask Client 0 calls given taking t.6 t.7.0 f in
    let is = same_server (λ q. shown ask.op q plain) calls t.7.0 s x.1 t.7.1 in
    subst (λ o. takes_server plain o s ≡ true) t.2 (both (is_taking ask.op) _ (taking_is ask.op taking) (either_left (shown ask.op s plain) _ is)))
    (λ c.
    let get = copy_is_get plain ask 0 calls given t.6 c.0 t.7.0 c.1 c.2 c.3 in
    let x = word_copies plain ask 0 calls given get t.6 c.0 t.7.0 c.1 c.2 c.3 in
    let is = same_server (λ q. copied Get q plain) calls t.7.0 s x t.7.1 in
    subst (λ o. takes_server plain o s ≡ true) t.2 (both (is_taking ask.op) _ (taking_is ask.op (taking_get ask.op get)) (either_right (shown ask.op s plain) _ (both (asks_get ask.op) _ (is_get_of ask.op get) (subst (λ o. copied o s plain ≡ true) (sym get) is)))))
    t.7.2
