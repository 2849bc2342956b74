-- A word that puts an item on a server on which one is computed to be put.
use Rattle.std.proofs.Common.{◌≡◌, ◌≢◌, ℕ, ◌+◌, ◌≤◌, pos, true, false, not, ◌&&◌, ◌||◌, List, [], ◌∷◌, ◌++◌, length, Some, None, inr, ⊎_elim, refl, sym, ap, ◌∙◌, subst, arith, nat_eq, append_assoc}
use Rattle.std.proofs.lemmas.Bool.{eqb-true}
use Rattle.std.proofs.lemmas.Int.{ints}
use Rattle.mc_types.specs.declared.ask.Op.{Op}
use Rattle.mc_types.specs.declared.ask.Op.TheVariants.{Get, Set, Add, Replace, Cas}
use Rattle.mc_types.specs.declared.ask.Dialect.TheVariants as dialects
use Rattle.mc_types.specs.declared.ask.Ask.{Ask}
use Rattle.mc_types.specs.declared.answer.Answer.{Answer}
use Rattle.mc_types.specs.declared.call.Origin.{Origin}
use Rattle.mc_types.specs.declared.call.Origin.TheVariants.{Client, CopyOf}
use Rattle.mc_types.specs.declared.call.Outcome.TheVariants.{Failed}
use Rattle.mc_types.specs.Asks.{IsAsk}
use Rattle.fresh_runs.specs.Calls.{Call}
use Rattle.fresh_runs.specs.Untouched.{IsPutting, PutsIn}
use Rattle.route_tree.specs.Operation.{same_op}
use Rattle.route_tree.specs.Plan.{Plan, Plans, PlanPolicies, Server, Null, Failing, AllSync, Failover, MissFailover, WarmUp, ByOperation, End, More, Otherwise, Policy, IsGoodPlan, AreGoodPlans, AreGoodPlanPolicies}
use Rattle.route_tree.specs.Word.{Given, rank, given_by, plain_get, refill, PlanWord, WordOfAll, WordOfFirst, WordOfHead, WordOfPolicy, Then, AfterRefill, Refilled, AfterWarm, AfterCold, WarmUpWord}
use Rattle.route_tree.proofs.Parts.{Replies, HasSome, Rest, then_rest}
use Rattle.route_tree.proofs.Gets.{NamesHit, get_names_hit}
use Rattle.route_tree.proofs.Going.{first_rest, has_word, all_some, first_some, after_refill_some, after_warm_some, after_cold_some}
use Rattle.gate_coverage.specs.Computed.{asks_get, can_fail, hits}
use Rattle.gate_coverage.proofs.Choices.{both_split, either_split, bool_is, cond_true, cond_false, match_true, match_false, get_is, other_is, get_of, no_get_of, one_less}
use Rattle.gate_coverage.proofs.Low.{low, first_given}
use Rattle.gate_coverage.proofs.Copying.{refill_adds}
use Rattle.gate_coverage.proofs.Finding.{some_shown, shown_word, plain_get_readable}
use Rattle.gate_growth.specs.Puts.{Puts}
use Rattle.gate_growth.specs.PutsComputed.{may_store, stores_some, may_store_first, stores_head, stores_policy, puts}
use Rattle.gate_growth.specs.Exact.{PutsIsExact}
use Rattle.gate_growth.proofs.Parted.{puts_front, puts_back}
use Rattle.gate_growth.proofs.Stored.{by_two, by_three, by_four, puts_are_computed}

-- a part after another one
then_after : {G H : Type 0} (first : ℕ → List Call → G → Type 0) (second : G → ℕ → List Call → H → Type 0) (b : ℕ) (here more : List Call) (g : G) → first b here g → Rest (second g) (b + length here) more → Rest (Then first second) b (here ++ more)
then_after first second b here more g w r = (r.0, r.1, (here, more ++ r.0, append_assoc here more r.0, g, w, r.2))

first_after : (p : Plan) (ps : Plans) (limit : ℕ) (ask : Ask) (origin : Origin) (b : ℕ) (here more : List Call) (g : Given) → PlanWord p ask origin b here g → limit ≤ rank g → Rest (WordOfFirst ps limit ask origin) (b + length here) more → Rest (WordOfFirst (More p ps) limit ask origin) b (here ++ more)
first_after p ps limit ask origin b here more g w le r = (r.0, r.1, inr (here, more ++ r.0, append_assoc here more r.0, g, w, le, r.2))

all_after : (p : Plan) (ps : Plans) (ask : Ask) (origin : Origin) (b : ℕ) (here more : List Call) (g : Given) → PlanWord p ask origin b here g → Rest (WordOfAll ps ask origin) (b + length here) more → Rest (WordOfAll (More p ps) ask origin) b (here ++ more)
all_after p ps ask origin b here more g w r = (r.0, g ∷ r.1, (here, more ++ r.0, append_assoc here more r.0, g, w, r.1, refl, r.2))

all_rest : (p : Plan) (ps : Plans) → AreGoodPlans ps → (ask : Ask) (origin : Origin) (b : ℕ) (calls : List Call) → Rest (PlanWord p ask origin) b calls → Rest (WordOfAll (More p ps) ask origin) b calls
all_rest p ps good ask origin b calls r =
    let more = all_some ps good ask origin (b + length (calls ++ r.0)) in
    (r.0 ++ more.0, r.1 ∷ more.1, (calls ++ r.0, more.0, sym (append_assoc calls r.0 more.0), r.1, r.2, more.1, refl, more.2))

-- calls with which a word of the part begins, and which put an item on the server
abbrev pub PutsBy : {G : Type 0} → (ℕ → List Call → G → Type 0) → ℕ → ℕ → Type 0
PutsBy {G} part b s = (calls : List Call) × Rest part b calls × PutsIn calls s

-- ---- a store that asks the server

module _ (ask : Ask) (origin : Origin) (putting : IsPutting ask.op) (other : ask.op ≢ Get) (s : ℕ) where
  mutual
    pub asks_word : (p : Plan) → IsGoodPlan p → (b : ℕ) → may_store ask.op s p ≡ true → PutsBy (PlanWord p ask origin) b s
    asks_word (Server t) good b h =
        let call : Call = record { server = t; ask = ask; origin = origin; outcome = Failed } in
        (call ∷ [], ([], given_by b Failed, (Failed, tt, refl, refl)), (0, call, refl, eqb-true t s (both_split (not (asks_get ask.op)) (nat_eq t s) h).1, putting))
    asks_word Null good b h = absurd cc
    asks_word Failing good b h = absurd cc
    asks_word (AllSync ps) good b h =
        let w = asks_some ps good.1 b h in
        let g = first_given ps good.0 ask origin b (w.0 ++ w.1.0) w.1.1 w.1.2 in
        (w.0, (w.1.0, g.0, (w.1.1, w.1.2, g.1)), w.2)
    asks_word (Failover ps) good b h = asks_first ps good.1 b h
    asks_word (MissFailover ps) good b h =
        let w = asks_head ps good.1 b (cond_false (asks_get ask.op) _ _ (no_get_of ask.op other) h) in
        (w.0, (w.1.0, w.1.1, other_is ask.op _ _ other w.1.2), w.2)
    asks_word (WarmUp cold warm e) good b h =
        ⊎_elim
        (λ (here : may_store ask.op s cold ≡ true). let w = asks_word cold good.0 b here in (w.0, (w.1.0, w.1.1, other_is ask.op _ _ other w.1.2), w.2))
        (λ more. absurd (other (get_of ask.op (both_split (asks_get ask.op) (may_store Get s warm || (hits Get warm && may_store Add s cold)) more).0)))
        (either_split (may_store ask.op s cold) (asks_get ask.op && (may_store Get s warm || (hits Get warm && may_store Add s cold))) h)
    asks_word (ByOperation policies) good b h = asks_policy policies good b h

    asks_some : (ps : Plans) → AreGoodPlans ps → (b : ℕ) → stores_some ask.op s ps ≡ true → PutsBy (WordOfAll ps ask origin) b s
    asks_some End good b h = absurd cc
    asks_some (More p ps) good b h =
        ⊎_elim
        (λ here. let f = asks_word p good.0 b here in (f.0, all_rest p ps good.1 ask origin b f.0 f.1, f.2))
        (λ there.
        let c = low p good.0 ask origin b in
        let f = asks_some ps good.1 (b + length c.0) there in
        (c.0 ++ f.0, all_after p ps ask origin b c.0 f.0 c.1 c.2 f.1, puts_back s c.0 f.0 f.2))
        (either_split (may_store ask.op s p) (stores_some ask.op s ps) h)

    asks_first : (ps : Plans) → AreGoodPlans ps → (b : ℕ) → may_store_first ask.op s ps ≡ true → PutsBy (WordOfFirst ps 4 ask origin) b s
    asks_first End good b h = absurd cc
    asks_first (More p ps) good b h =
        ⊎_elim
        (λ here. let f = asks_word p good.0 b here in (f.0, first_rest p ps 4 ask origin (λ some. first_some ps 4 some good.1 ask origin) b f.0 f.1, f.2))
        (λ there.
        let t = both_split (can_fail ask.op p) (may_store_first ask.op s ps) there in
        let c = low p good.0 ask origin b in
        let f = asks_first ps good.1 (b + length c.0) t.1 in
        (c.0 ++ f.0, first_after p ps 4 ask origin b c.0 f.0 c.1 c.2 (c.3.worst t.0) f.1, puts_back s c.0 f.0 f.2))
        (either_split (may_store ask.op s p) (can_fail ask.op p && may_store_first ask.op s ps) h)

    asks_head : (ps : Plans) → AreGoodPlans ps → (b : ℕ) → stores_head ask.op s ps ≡ true → PutsBy (WordOfHead ps ask origin) b s
    asks_head End good b h = absurd cc
    asks_head (More p ps) good b h = asks_word p good.0 b h

    asks_policy : (ps : PlanPolicies) → AreGoodPlanPolicies ps → (b : ℕ) → stores_policy ask.op s ps ≡ true → PutsBy (WordOfPolicy ps ask origin) b s
    asks_policy (Otherwise p) good b h = asks_word p good b h
    asks_policy (Policy o p rest) good b h =
        ⊎_elim
        (λ e. let f = asks_word p good.0 b (cond_true (same_op o ask.op) _ _ e h) in (f.0, (f.1.0, f.1.1, match_true (same_op o ask.op) _ _ e f.1.2), f.2))
        (λ e. let f = asks_policy rest good.1 b (cond_false (same_op o ask.op) _ _ e h) in (f.0, (f.1.0, f.1.1, match_false (same_op o ask.op) _ _ e f.1.2), f.2))
        (bool_is (same_op o ask.op))

add_puts : (op : Op) → op ≡ Add → IsPutting op
add_puts op e = subst IsPutting (sym e) tt

add_is_other : (op : Op) → op ≡ Add → op ≢ Get
add_is_other op e f = cc

-- ---- a get that adds to the server

-- through a cold and a warm side
module _ (cold warm : Plan) (e : ℕ) (good : IsGoodPlan cold) (good_warm : IsGoodPlan warm) (ask : Ask) (s : ℕ) where
  abbrev C : ℕ → List Call → Given → Type 0
  C = PlanWord cold ask Client

  abbrev W : ℕ → List Call → Given → Type 0
  W = PlanWord warm (plain_get ask) Client

  abbrev A : Answer → ℕ → ℕ → List Call → Given → Type 0
  A hit k = PlanWord cold (refill ask hit e) (CopyOf k)

  abbrev Through : ℕ → List Call → Given → Type 0
  Through = WarmUpWord ask C W A

  abbrev Any : Given → Type 0
  Any g = Unit {0}

  sure : (part : ℕ → List Call → Given → Type 0) → Replies Any part
  sure part b calls given w = tt

  c_some : HasSome C
  c_some = has_word cold good ask Client

  w_some : HasSome W
  w_some = has_word warm good_warm (plain_get ask) Client

  a_some : (hit : Answer) (k : ℕ) → HasSome (A hit k)
  a_some hit k = has_word cold good (refill ask hit e) (CopyOf k)

  names : Replies NamesHit W
  names = get_names_hit warm ask Client

  -- what the cold side did goes on
  in_cold : (b : ℕ) → PutsBy C b s → PutsBy Through b s
  in_cold b f = (f.0, then_rest C (λ first. AfterCold ask C W A first (rank first)) Any (sure C) (λ first _. after_cold_some ask C W A c_some w_some a_some names first (rank first)) b f.0 f.1, f.2)

  -- after a miss of the cold side
  after_miss : (b : ℕ) → ((b' : ℕ) (first : Given) → PutsBy (Then W (λ g. AfterWarm ask C W A first g (rank g))) b' s) → PutsBy Through b s
  after_miss b f =
      let c = low cold good ask Client b in
      let m = one_less (rank c.1) c.3.low in
      let x = f (b + length c.0) c.1 in
      let r : Rest (AfterCold ask C W A c.1 (rank c.1)) (b + length c.0) x.0 = subst (λ n. Rest (AfterCold ask C W A c.1 n) (b + length c.0) x.0) (sym m.1) x.1 in
      (c.0 ++ x.0, then_after C (λ first. AfterCold ask C W A first (rank first)) b c.0 x.0 c.1 c.2 r, puts_back s c.0 x.0 x.2)

  -- what the warm side did goes on
  in_warm : (b : ℕ) (first : Given) → PutsBy W b s → PutsBy (Then W (λ g. AfterWarm ask C W A first g (rank g))) b s
  in_warm b first f = (f.0, then_rest W (λ g. AfterWarm ask C W A first g (rank g)) NamesHit names (λ g h. after_warm_some ask C W A c_some w_some a_some names first g (rank g) h) b f.0 f.1, f.2)

  -- a hit of the warm side is added to the cold one
  by_add : (b : ℕ) (first : Given) → hits Get warm ≡ true → may_store Add s cold ≡ true → PutsBy (Then W (λ g. AfterWarm ask C W A first g (rank g))) b s
  by_add b first h adding =
      let x = some_shown Get warm good_warm h in
      let v = shown_word warm good_warm (plain_get ask) (plain_get_readable ask) b x.0 x.1 in
      let k = v.3.1 in
      let add = refill ask v.1.reply e in
      let op' : add.op ≡ Add = refill_adds ask v.1.reply e in
      let a = asks_word add (CopyOf k) (add_puts add.op op') (add_is_other add.op op') s cold good (b + length v.0) (subst (λ o. may_store o s cold ≡ true) (sym op') adding) in
      let filled : Rest (Refilled ask C W A v.1 (Some k)) (b + length v.0) a.0 = then_rest (A v.1.reply k) (λ _. AfterRefill ask C W A v.1) Any (sure (A v.1.reply k)) (λ _ _. after_refill_some ask C W A c_some w_some a_some names v.1) (b + length v.0) a.0 a.1 in
      let named : Rest (Refilled ask C W A v.1 v.1.from) (b + length v.0) a.0 = subst (λ o. Rest (Refilled ask C W A v.1 o) (b + length v.0) a.0) (sym v.3.2) filled in
      let after : Rest (AfterWarm ask C W A first v.1 (rank v.1)) (b + length v.0) a.0 = subst (λ n. Rest (AfterWarm ask C W A first v.1 n) (b + length v.0) a.0) (sym v.3.0) named in
      (v.0 ++ a.0, then_after W (λ g. AfterWarm ask C W A first g (rank g)) b v.0 a.0 v.1 v.2 after, puts_back s v.0 a.0 a.2)

mutual
  pub fills_word : (p : Plan) → IsGoodPlan p → (ask : Ask) → ask.op ≡ Get → (b s : ℕ) → may_store Get s p ≡ true → PutsBy (PlanWord p ask Client) b s
  fills_word (Server t) good ask op b s h = absurd cc
  fills_word Null good ask op b s h = absurd cc
  fills_word Failing good ask op b s h = absurd cc
  fills_word (AllSync ps) good ask op b s h =
      let w = fills_all ps good.1 ask op b s h in
      let g = first_given ps good.0 ask Client b (w.0 ++ w.1.0) w.1.1 w.1.2 in
      (w.0, (w.1.0, g.0, (w.1.1, w.1.2, g.1)), w.2)
  fills_word (Failover ps) good ask op b s h = fills_first ps good.1 ask op b s h
  fills_word (MissFailover ps) good ask op b s h = let w = fills_any ps good.1 ask op b s h in (w.0, (w.1.0, w.1.1, get_is ask.op _ _ op w.1.2), w.2)
  fills_word (WarmUp cold warm e) good ask op b s h =
      let w = ⊎_elim
      (λ (here : may_store Get s cold ≡ true). in_cold cold warm e good.0 good.1 ask s b (fills_word cold good.0 ask op b s here))
      (λ more. ⊎_elim
      (λ (there : may_store Get s warm ≡ true). after_miss cold warm e good.0 good.1 ask s b (λ b' first. in_warm cold warm e good.0 good.1 ask s b' first (fills_word warm good.1 (plain_get ask) refl b' s there)))
      (λ fill. let t = both_split (hits Get warm) (may_store Add s cold) fill in after_miss cold warm e good.0 good.1 ask s b (λ b' first. by_add cold warm e good.0 good.1 ask s b' first t.0 t.1))
      (either_split (may_store Get s warm) (hits Get warm && may_store Add s cold) more))
      (either_split (may_store Get s cold) (may_store Get s warm || (hits Get warm && may_store Add s cold)) h) in
      (w.0, (w.1.0, w.1.1, get_is ask.op _ _ op w.1.2), w.2)
  fills_word (ByOperation policies) good ask op b s h = fills_policy policies good ask op b s h

  fills_all : (ps : Plans) → AreGoodPlans ps → (ask : Ask) → ask.op ≡ Get → (b s : ℕ) → stores_some Get s ps ≡ true → PutsBy (WordOfAll ps ask Client) b s
  fills_all End good ask op b s h = absurd cc
  fills_all (More p ps) good ask op b s h =
      ⊎_elim
      (λ here. let f = fills_word p good.0 ask op b s here in (f.0, all_rest p ps good.1 ask Client b f.0 f.1, f.2))
      (λ there.
      let c = low p good.0 ask Client b in
      let f = fills_all ps good.1 ask op (b + length c.0) s there in
      (c.0 ++ f.0, all_after p ps ask Client b c.0 f.0 c.1 c.2 f.1, puts_back s c.0 f.0 f.2))
      (either_split (may_store Get s p) (stores_some Get s ps) h)

  fills_first : (ps : Plans) → AreGoodPlans ps → (ask : Ask) → ask.op ≡ Get → (b s : ℕ) → may_store_first Get s ps ≡ true → PutsBy (WordOfFirst ps 4 ask Client) b s
  fills_first End good ask op b s h = absurd cc
  fills_first (More p ps) good ask op b s h =
      ⊎_elim
      (λ here. let f = fills_word p good.0 ask op b s here in (f.0, first_rest p ps 4 ask Client (λ some. first_some ps 4 some good.1 ask Client) b f.0 f.1, f.2))
      (λ there.
      let t = both_split (can_fail Get p) (may_store_first Get s ps) there in
      let c = low p good.0 ask Client b in
      let f = fills_first ps good.1 ask op (b + length c.0) s t.1 in
      (c.0 ++ f.0, first_after p ps 4 ask Client b c.0 f.0 c.1 c.2 (c.3.worst (subst (λ o. can_fail o p ≡ true) (sym op) t.0)) f.1, puts_back s c.0 f.0 f.2))
      (either_split (may_store Get s p) (can_fail Get p && may_store_first Get s ps) h)

  fills_any : (ps : Plans) → AreGoodPlans ps → (ask : Ask) → ask.op ≡ Get → (b s : ℕ) → stores_some Get s ps ≡ true → PutsBy (WordOfFirst ps 1 ask Client) b s
  fills_any End good ask op b s h = absurd cc
  fills_any (More p ps) good ask op b s h =
      ⊎_elim
      (λ here. let f = fills_word p good.0 ask op b s here in (f.0, first_rest p ps 1 ask Client (λ some. first_some ps 1 some good.1 ask Client) b f.0 f.1, f.2))
      (λ there.
      let c = low p good.0 ask Client b in
      let f = fills_any ps good.1 ask op (b + length c.0) s there in
      (c.0 ++ f.0, first_after p ps 1 ask Client b c.0 f.0 c.1 c.2 c.3.low f.1, puts_back s c.0 f.0 f.2))
      (either_split (may_store Get s p) (stores_some Get s ps) h)

  fills_policy : (ps : PlanPolicies) → AreGoodPlanPolicies ps → (ask : Ask) → ask.op ≡ Get → (b s : ℕ) → stores_policy Get s ps ≡ true → PutsBy (WordOfPolicy ps ask Client) b s
  fills_policy (Otherwise p) good ask op b s h = fills_word p good ask op b s h
  fills_policy (Policy o p rest) good ask op b s h =
      ⊎_elim
      (λ e. let f = fills_word p good.0 ask op b s (cond_true (same_op o Get) _ _ e h) in (f.0, (f.1.0, f.1.1, match_true (same_op o ask.op) _ _ (ap (same_op o) op ∙ e) f.1.2), f.2))
      (λ e. let f = fills_policy rest good.1 ask op b s (cond_false (same_op o Get) _ _ e h) in (f.0, (f.1.0, f.1.1, match_false (same_op o ask.op) _ _ (ap (same_op o) op ∙ e) f.1.2), f.2))
      (bool_is (same_op o Get))

-- ---- what is computed is put

-- a classic ask
abbrev an_ask : Op → Ask
an_ask Get = record { key = 97 ∷ []; op = Get; dialect = dialects.Classic; with_cas = false; flags = 0; exptime = None; body = []; cas = None; delta = 0; tokens = [] }
an_ask Cas = record { key = 97 ∷ []; op = Cas; dialect = dialects.Classic; with_cas = false; flags = 0; exptime = Some (pos 0); body = []; cas = Some 0; delta = 0; tokens = [] }
an_ask op = record { key = 97 ∷ []; op = op; dialect = dialects.Classic; with_cas = false; flags = 0; exptime = Some (pos 0); body = []; cas = None; delta = 0; tokens = [] }

set_is : IsAsk (an_ask Set)
set_is = record { key = record { some = omega arith; short = omega arith; bytes = refl }; ranges = record { flags = omega arith; exptime = (omega (arith, ints), omega (arith, ints)); body = omega arith; cas = tt; delta = omega arith }; shape = record { with_cas = refl; flags = tt; exptime = refl; body = tt; cas = refl; delta = refl; tokens = refl } }

add_is : IsAsk (an_ask Add)
add_is = record { key = record { some = omega arith; short = omega arith; bytes = refl }; ranges = record { flags = omega arith; exptime = (omega (arith, ints), omega (arith, ints)); body = omega arith; cas = tt; delta = omega arith }; shape = record { with_cas = refl; flags = tt; exptime = refl; body = tt; cas = refl; delta = refl; tokens = refl } }

replace_is : IsAsk (an_ask Replace)
replace_is = record { key = record { some = omega arith; short = omega arith; bytes = refl }; ranges = record { flags = omega arith; exptime = (omega (arith, ints), omega (arith, ints)); body = omega arith; cas = tt; delta = omega arith }; shape = record { with_cas = refl; flags = tt; exptime = refl; body = tt; cas = refl; delta = refl; tokens = refl } }

cas_is : IsAsk (an_ask Cas)
cas_is = record { key = record { some = omega arith; short = omega arith; bytes = refl }; ranges = record { flags = omega arith; exptime = (omega (arith, ints), omega (arith, ints)); body = omega arith; cas = omega arith; delta = omega arith }; shape = record { with_cas = refl; flags = tt; exptime = refl; body = tt; cas = refl; delta = refl; tokens = refl } }

get_is_ask : IsAsk (an_ask Get)
get_is_ask = record { key = record { some = omega arith; short = omega arith; bytes = refl }; ranges = record { flags = omega arith; exptime = tt; body = omega arith; cas = tt; delta = omega arith }; shape = record { with_cas = tt; flags = refl; exptime = refl; body = refl; cas = refl; delta = refl; tokens = refl } }

of_word : (plain : Plan) (s : ℕ) (ask : Ask) → IsAsk ask → PutsBy (PlanWord plain ask Client) 0 s → Puts plain s
of_word plain s ask is f = (ask, is, f.0 ++ f.1.0, f.1.1.reply, f.1.1.from, f.1.2, puts_front s f.0 f.1.0 f.2)

-- by an operation that stores
by_storing : (plain : Plan) (s : ℕ) → IsGoodPlan plain → (op : Op) → IsPutting op → op ≢ Get → (an_ask op).op ≡ op → IsAsk (an_ask op) → may_store op s plain ≡ true → Puts plain s
by_storing plain s good op putting other same is h =
    of_word plain s (an_ask op) is (asks_word (an_ask op) Client (subst IsPutting (sym same) putting) (λ e. other (sym same ∙ e)) s plain good 0 (subst (λ o. may_store o s plain ≡ true) (sym same) h))

computed_puts : (plain : Plan) (s : ℕ) → IsGoodPlan plain → puts plain s ≡ true → Puts plain s
computed_puts plain s good h =
    ⊎_elim
    (λ four.
    ⊎_elim
    (λ three.
    ⊎_elim
    (λ two.
    ⊎_elim
    (λ set. by_storing plain s good Set tt (λ e. cc) refl set_is set)
    (λ add. by_storing plain s good Add tt (λ e. cc) refl add_is add)
    (either_split (may_store Set s plain) (may_store Add s plain) two))
    (λ replace. by_storing plain s good Replace tt (λ e. cc) refl replace_is replace)
    (either_split (by_two plain s) (may_store Replace s plain) three))
    (λ cas. by_storing plain s good Cas tt (λ e. cc) refl cas_is cas)
    (either_split (by_three plain s) (may_store Cas s plain) four))
    (λ get. of_word plain s (an_ask Get) get_is_ask (fills_word plain good (an_ask Get) refl 0 s get))
    (either_split (by_four plain s) (may_store Get s plain) h)

pub puts_is_exact : PutsIsExact
puts_is_exact plain s good = (computed_puts plain s good, puts_are_computed plain s)
