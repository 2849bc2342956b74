-- A word for what is computed of a read.
use Rattle.std.proofs.Common.{◌≡◌, ◌≢◌, ℕ, ◌+◌, ◌≤◌, pos, ℤ, true, false, cond, ◌&&◌, ◌||◌, List, [], ◌∷◌, ◌++◌, length, Option, Some, None, inl, inr, ⊎_elim, refl, sym, ap, ◌∙◌, subst, arith, nat_eq, slice_get, append_assoc, append-nil}
use Rattle.std.proofs.lemmas.Bool.{eqb-true, eq-eqb}
use Rattle.std.proofs.lemmas.Int.{ints}
use Rattle.mc_types.specs.declared.ask.Op.{Op}
use Rattle.mc_types.specs.declared.ask.Op.TheVariants.{Get, Gat, Set, Add, Replace, Append, Prepend, Cas, Delete, Incr, Decr, Touch}
use Rattle.mc_types.specs.declared.ask.Dialect.TheVariants as dialects
use Rattle.mc_types.specs.declared.ask.Ask.{Ask}
use Rattle.mc_types.specs.declared.answer.Answer.{Answer}
use Rattle.mc_types.specs.declared.answer.Answer.TheVariants.{Number, Hit}
use Rattle.mc_types.specs.declared.call.Origin.TheVariants.{Client, CopyOf}
use Rattle.mc_types.specs.declared.call.Outcome.TheVariants.{Answered}
use Rattle.mc_types.specs.Asks.{IsAsk}
use Rattle.mc_types.specs.Fits.{Fits}
use Rattle.mc_types.specs.Rank.{rank_of, IsWorst, NoneAbove}
use Rattle.mc_types.specs.Shows.{shows}
use Rattle.fresh_runs.specs.Calls.{Call}
use Rattle.route_tree.specs.Operation.{same_op}
use Rattle.route_tree.specs.Plan.{Plan, Plans, PlanPolicies, Server, Null, Failing, AllSync, Failover, MissFailover, WarmUp, ByOperation, End, More, Otherwise, Policy, IsNotEmpty, IsGoodPlan, AreGoodPlans, AreGoodPlanPolicies}
use Rattle.route_tree.specs.Word.{Given, rank, given_by, plain_get, refill, is_plain_get, PlanWord, WordOfAll, WordOfFirst, WordOfHead, WordOfPolicy, Then, AfterRefill, Refilled, AfterWarm, AfterCold, WarmUpWord}
use Rattle.route_tree.proofs.Parts.{Replies, HasSome, Rest, then_rest}
use Rattle.route_tree.proofs.Gets.{NamesHit, get_names_hit}
use Rattle.route_tree.proofs.Showing.{get_front, get_back}
use Rattle.route_tree.proofs.Words.{own_calls}
use Rattle.route_tree.proofs.Going.{first_rest, has_word, all_some, first_some, after_refill_some, after_warm_some, after_cold_some}
use Rattle.gate_coverage.specs.Cover.{IsTaking, Takes}
use Rattle.gate_coverage.specs.Computed.{asks_get, is_taking, can_fail, hits, hits_each, hits_first, hits_some, hits_head, hits_policy, shown, shown_each, shown_first, shown_some, shown_head, shown_policy, adds, copied, copied_some, copied_first, copied_policy, takes_server}
use Rattle.gate_coverage.specs.Exact.{TakenIsExact}
use Rattle.gate_coverage.proofs.Choices.{both, both_split, either_left, either_right, either_split, bool_is, cond_true, cond_false, if_true, if_false, match_true, match_false, by_get, get_is, other_is, is_get_of, get_of, no_get_of, HasCall, has_front, has_back, AreSome, one_less}
use Rattle.gate_coverage.proofs.Low.{low, first_given, cold_hit, warm_hit}
use Rattle.gate_coverage.proofs.Copying.{refill_adds, is_taking_op, takes_is_taken}

-- ---- where a hit can come, some server's item can be shown

module _ (op : Op) where
  mutual
    pub some_shown : (p : Plan) → IsGoodPlan p → hits op p ≡ true → (s : ℕ) × (shown op s p ≡ true)
    some_shown (Server t) good h = (t, eq-eqb t t refl)
    some_shown Null good h = absurd (cc)
    some_shown Failing good h = absurd (cc)
    some_shown (AllSync ps) good h = each_shown ps good.0 good.1 h
    some_shown (Failover ps) good h = first_shown ps good.1 h
    some_shown (MissFailover ps) good h =
        by_get op _
        (λ e. let x = any_shown ps good.1 (cond_true (asks_get op) _ _ (is_get_of op e) h) in (x.0, if_true (asks_get op) _ _ (is_get_of op e) x.1))
        (λ n. let x = head_shown ps good.1 (cond_false (asks_get op) _ _ (no_get_of op n) h) in (x.0, if_false (asks_get op) _ _ (no_get_of op n) x.1))
    some_shown (WarmUp cold warm e) good h =
        ⊎_elim
        (λ here. let x = some_shown cold good.0 here in (x.0, either_left (shown op x.0 cold) _ x.1))
        (λ there. let t = both_split (asks_get op) (hits op warm) there in let x = some_shown warm good.1 t.1 in (x.0, either_right (shown op x.0 cold) _ (both (asks_get op) _ t.0 x.1)))
        (either_split (hits op cold) (asks_get op && hits op warm) h)
    some_shown (ByOperation ps) good h = policy_shown ps good h

    each_shown : (ps : Plans) → IsNotEmpty ps → AreGoodPlans ps → hits_each op ps ≡ true → (s : ℕ) × (shown_each op s ps ≡ true)
    each_shown End some good h = absurd some
    each_shown (More p ps) some good h =
        let t = both_split (hits op p) (hits_each op ps) h in
        let x = some_shown p good.0 t.0 in
        (x.0, both (shown op x.0 p) _ x.1 t.1)

    first_shown : (ps : Plans) → AreGoodPlans ps → hits_first op ps ≡ true → (s : ℕ) × (shown_first op s ps ≡ true)
    first_shown End good h = absurd (cc)
    first_shown (More p ps) good h =
        ⊎_elim
        (λ here. let x = some_shown p good.0 here in (x.0, either_left (shown op x.0 p) _ x.1))
        (λ there. let t = both_split (can_fail op p) (hits_first op ps) there in let x = first_shown ps good.1 t.1 in (x.0, either_right (shown op x.0 p) _ (both (can_fail op p) _ t.0 x.1)))
        (either_split (hits op p) (can_fail op p && hits_first op ps) h)

    any_shown : (ps : Plans) → AreGoodPlans ps → hits_some op ps ≡ true → (s : ℕ) × (shown_some op s ps ≡ true)
    any_shown End good h = absurd (cc)
    any_shown (More p ps) good h =
        ⊎_elim
        (λ here. let x = some_shown p good.0 here in (x.0, either_left (shown op x.0 p) _ x.1))
        (λ there. let x = any_shown ps good.1 there in (x.0, either_right (shown op x.0 p) _ x.1))
        (either_split (hits op p) (hits_some op ps) h)

    head_shown : (ps : Plans) → AreGoodPlans ps → hits_head op ps ≡ true → (s : ℕ) × (shown_head op s ps ≡ true)
    head_shown End good h = absurd (cc)
    head_shown (More p ps) good h = some_shown p good.0 h

    policy_shown : (ps : PlanPolicies) → AreGoodPlanPolicies ps → hits_policy op ps ≡ true → (s : ℕ) × (shown_policy op s ps ≡ true)
    policy_shown (Otherwise p) good h = some_shown p good h
    policy_shown (Policy o p rest) good h =
        ⊎_elim
        (λ e. let x = some_shown p good.0 (cond_true (same_op o op) _ _ e h) in (x.0, if_true (same_op o op) _ _ e x.1))
        (λ e. let x = policy_shown rest good.1 (cond_false (same_op o op) _ _ e h) in (x.0, if_false (same_op o op) _ _ e x.1))
        (bool_is (same_op o op))

-- ---- a word that shows it

-- some answer that fits the ask shows an item, and a hit of a warm side would answer it
pub record IsReadable (ask : Ask) : Type 0 where
  pub answer : Answer
  pub fits : Fits ask answer
  pub showing : shows answer ≡ true
  pub done : rank_of answer ≡ 0
  pub plain : is_plain_get ask ≡ true

pub plain_get_readable : (ask : Ask) → IsReadable (plain_get ask)
plain_get_readable ask = record {
  answer = Hit 0 [] None;
  fits = record { ranges = (omega arith, omega arith, tt); listed = refl };
  showing = refl;
  done = refl;
  plain = refl;
}

-- the word's reply shows the server's item
abbrev pub IsOf : ℕ → ℕ → List Call → Given → Type 0
IsOf s b calls given = (rank given ≡ 0) × (k : ℕ) × (given.from ≡ Some k) × HasCall (λ c. c.server ≡ s) b calls k

of_front : (s b : ℕ) (front back : List Call) (given : Given) → IsOf s b front given → IsOf s b (front ++ back) given
of_front s b front back given h = (h.0, h.1, h.2, has_front (λ c. c.server ≡ s) b front back h.1 h.3)

of_back : (s b : ℕ) (front back : List Call) (given : Given) → IsOf s (b + length front) back given → IsOf s b (front ++ back) given
of_back s b front back given h = (h.0, h.1, h.2, has_back (λ c. c.server ≡ s) b front back h.1 h.3)

server_word : (t s b : ℕ) (ask : Ask) → (r : IsReadable ask) → nat_eq t s ≡ true → (calls : List Call) × (given : Given) × PlanWord (Server t) ask Client b calls given × IsOf s b calls given
server_word t s b ask r h =
    (record { server = t; ask = ask; origin = Client; outcome = Answered r.answer } ∷ [], given_by b (Answered r.answer), (Answered r.answer, r.fits, refl, refl), (r.done, b, ap (λ v. cond v (Some b) None) r.showing, (0, omega arith, record { server = t; ask = ask; origin = Client; outcome = Answered r.answer }, refl, eqb-true t s h)))

mutual
  pub shown_word : (p : Plan) → IsGoodPlan p → (ask : Ask) → IsReadable ask → (b s : ℕ) → shown ask.op s p ≡ true → (calls : List Call) × (given : Given) × PlanWord p ask Client b calls given × IsOf s b calls given
  shown_word (Server t) good ask r b s h = server_word t s b ask r h
  shown_word Null good ask r b s h = absurd (cc)
  shown_word Failing good ask r b s h = absurd (cc)
  shown_word (AllSync ps) good ask r b s h = let w = each_word ps good.1 ask r b s h in (w.0, w.2, (w.1, w.3, w.4), w.5)
  shown_word (Failover ps) good ask r b s h = first_word ps good.1 ask r b s h
  shown_word (MissFailover ps) good ask r b s h =
      by_get ask.op _
      (λ e. let w = any_word ps good.1 ask r b s (cond_true (asks_get ask.op) _ _ (is_get_of ask.op e) h) in (w.0, w.1, get_is ask.op _ _ e w.2, w.3))
      (λ n. let w = head_word ps good.1 ask r b s (cond_false (asks_get ask.op) _ _ (no_get_of ask.op n) h) in (w.0, w.1, other_is ask.op _ _ n w.2, w.3))
  shown_word (WarmUp cold warm e) good ask r b s h =
      ⊎_elim
      (λ here.
      let f = shown_word cold good.0 ask r b s here in
      by_get ask.op _
      (λ op. (f.0, f.1, get_is ask.op _ _ op (cold_hit ask (PlanWord cold ask Client) (PlanWord warm (plain_get ask) Client) (λ hit i. PlanWord cold (refill ask hit e) (CopyOf i)) b f.0 f.1 f.2 f.3.0), f.3))
      (λ n. (f.0, f.1, other_is ask.op _ _ n f.2, f.3)))
      (λ there.
      let t = both_split (asks_get ask.op) (shown ask.op s warm) there in
      let op = get_of ask.op t.0 in
      let c = low cold good.0 ask Client b in
      let m = one_less (rank c.1) c.3.low in
      let v = shown_word warm good.1 (plain_get ask) (plain_get_readable ask) (b + length c.0) s (subst (λ o. shown o s warm ≡ true) op t.1) in
      let a = low cold good.0 (refill ask v.1.reply e) (CopyOf v.3.1) (b + length c.0 + length v.0) in
      (c.0 ++ (v.0 ++ (a.0 ++ [])), v.1, get_is ask.op _ _ op (warm_hit ask (PlanWord cold ask Client) (PlanWord warm (plain_get ask) Client) (λ hit i. PlanWord cold (refill ask hit e) (CopyOf i)) b m.0 v.3.1 c.0 v.0 a.0 [] c.1 v.1 a.1 v.1 c.2 m.1 v.2 v.3.0 v.3.2 a.2 (match_true (is_plain_get ask) _ _ r.plain (refl, refl))), of_back s b c.0 (v.0 ++ (a.0 ++ [])) v.1 (of_front s (b + length c.0) v.0 (a.0 ++ []) v.1 v.3)))
      (either_split (shown ask.op s cold) (asks_get ask.op && shown ask.op s warm) h)
  shown_word (ByOperation policies) good ask r b s h = policy_word policies good ask r b s h

  each_word : (ps : Plans) → AreGoodPlans ps → (ask : Ask) → IsReadable ask → (b s : ℕ) → shown_each ask.op s ps ≡ true → (calls : List Call) × (all : List Given) × (worst : Given) × WordOfAll ps ask Client b calls all × IsWorst rank all worst × IsOf s b calls worst
  each_word End good ask r b s h = absurd (cc)
  each_word (More p ps) good ask r b s h =
      let t = both_split (shown ask.op s p) (hits_each ask.op ps) h in
      let f = shown_word p good.0 ask r b s t.0 in
      let rest = hit_words ps good.1 ask r (b + length f.0) t.1 in
      (f.0 ++ rest.0, f.1 ∷ rest.1, f.1, (f.0, rest.0, refl, f.1, f.2, rest.1, refl, rest.2), inl (refl, subst (NoneAbove rank rest.1) (sym f.3.0) rest.3), of_front s b f.0 rest.0 f.1 f.3)

  hit_words : (ps : Plans) → AreGoodPlans ps → (ask : Ask) → IsReadable ask → (b : ℕ) → hits_each ask.op ps ≡ true → (calls : List Call) × (all : List Given) × WordOfAll ps ask Client b calls all × NoneAbove rank all 0
  hit_words End good ask r b h = ([], [], (refl, refl), tt)
  hit_words (More p ps) good ask r b h =
      let t = both_split (hits ask.op p) (hits_each ask.op ps) h in
      let x = some_shown ask.op p good.0 t.0 in
      let f = shown_word p good.0 ask r b x.0 x.1 in
      let rest = hit_words ps good.1 ask r (b + length f.0) t.1 in
      (f.0 ++ rest.0, f.1 ∷ rest.1, (f.0, rest.0, refl, f.1, f.2, rest.1, refl, rest.2), ((let z = f.3.0 in omega arith), rest.3))

  first_word : (ps : Plans) → AreGoodPlans ps → (ask : Ask) → IsReadable ask → (b s : ℕ) → shown_first ask.op s ps ≡ true → (calls : List Call) × (given : Given) × WordOfFirst ps 4 ask Client b calls given × IsOf s b calls given
  first_word End good ask r b s h = absurd (cc)
  first_word (More p ps) good ask r b s h =
      ⊎_elim
      (λ here. let f = shown_word p good.0 ask r b s here in (f.0, f.1, inl (f.2, inl (let z = f.3.0 in omega arith)), f.3))
      (λ there.
      let t = both_split (can_fail ask.op p) (shown_first ask.op s ps) there in
      let f = low p good.0 ask Client b in
      let rest = first_word ps good.1 ask r (b + length f.0) s t.1 in
      (f.0 ++ rest.0, rest.1, inr (f.0, rest.0, refl, f.1, f.2, f.3.worst t.0, rest.2), of_back s b f.0 rest.0 rest.1 rest.3))
      (either_split (shown ask.op s p) (can_fail ask.op p && shown_first ask.op s ps) h)

  any_word : (ps : Plans) → AreGoodPlans ps → (ask : Ask) → IsReadable ask → (b s : ℕ) → shown_some ask.op s ps ≡ true → (calls : List Call) × (given : Given) × WordOfFirst ps 1 ask Client b calls given × IsOf s b calls given
  any_word End good ask r b s h = absurd (cc)
  any_word (More p ps) good ask r b s h =
      ⊎_elim
      (λ here. let f = shown_word p good.0 ask r b s here in (f.0, f.1, inl (f.2, inl (let z = f.3.0 in omega arith)), f.3))
      (λ there.
      let f = low p good.0 ask Client b in
      let rest = any_word ps good.1 ask r (b + length f.0) s there in
      (f.0 ++ rest.0, rest.1, inr (f.0, rest.0, refl, f.1, f.2, f.3.low, rest.2), of_back s b f.0 rest.0 rest.1 rest.3))
      (either_split (shown ask.op s p) (shown_some ask.op s ps) h)

  head_word : (ps : Plans) → AreGoodPlans ps → (ask : Ask) → IsReadable ask → (b s : ℕ) → shown_head ask.op s ps ≡ true → (calls : List Call) × (given : Given) × WordOfHead ps ask Client b calls given × IsOf s b calls given
  head_word End good ask r b s h = absurd (cc)
  head_word (More p ps) good ask r b s h = shown_word p good.0 ask r b s h

  policy_word : (ps : PlanPolicies) → AreGoodPlanPolicies ps → (ask : Ask) → IsReadable ask → (b s : ℕ) → shown_policy ask.op s ps ≡ true → (calls : List Call) × (given : Given) × WordOfPolicy ps ask Client b calls given × IsOf s b calls given
  policy_word (Otherwise p) good ask r b s h = shown_word p good ask r b s h
  policy_word (Policy o p rest) good ask r b s h =
      ⊎_elim
      (λ e. let f = shown_word p good.0 ask r b s (cond_true (same_op o ask.op) _ _ e h) in (f.0, f.1, match_true (same_op o ask.op) _ _ e f.2, f.3))
      (λ e. let f = policy_word rest good.1 ask r b s (cond_false (same_op o ask.op) _ _ e h) in (f.0, f.1, match_false (same_op o ask.op) _ _ e f.2, f.3))
      (bool_is (same_op o ask.op))

-- ---- calls that copy the server's item, and a word that begins with them

-- some of the calls copies what a call of the server was answered
abbrev pub HasCopy : ℕ → ℕ → List Call → Type 0
HasCopy s b calls = (k : ℕ) × (j : ℕ) × (copy : Call) × (slice_get calls j ≡ Some copy) × (copy.origin ≡ CopyOf k) × HasCall (λ c. c.server ≡ s) b calls k

copy_front : (s b : ℕ) (front back : List Call) → HasCopy s b front → HasCopy s b (front ++ back)
copy_front s b front back h = (h.0, h.1, h.2, get_front front back h.1 h.2 h.3, h.4, has_front (λ c. c.server ≡ s) b front back h.0 h.5)

copy_back : (s b : ℕ) (front back : List Call) → HasCopy s (b + length front) back → HasCopy s b (front ++ back)
copy_back s b front back h = (h.0, length front + h.1, h.2, get_back front back h.1 h.2 h.3, h.4, has_back (λ c. c.server ≡ s) b front back h.0 h.5)

-- a part after another one
then_after : {G H : Type 0} (first : ℕ → List Call → G → Type 0) (second : G → ℕ → List Call → H → Type 0) (b : ℕ) (here more : List Call) (g : G) → first b here g → Rest (second g) (b + length here) more → Rest (Then first second) b (here ++ more)
then_after first second b here more g w r = (r.0, r.1, (here, more ++ r.0, append_assoc here more r.0, g, w, r.2))

first_after : (p : Plan) (ps : Plans) (limit : ℕ) (ask : Ask) (b : ℕ) (here more : List Call) (g : Given) → PlanWord p ask Client b here g → limit ≤ rank g → Rest (WordOfFirst ps limit ask Client) (b + length here) more → Rest (WordOfFirst (More p ps) limit ask Client) b (here ++ more)
first_after p ps limit ask b here more g w le r = (r.0, r.1, inr (here, more ++ r.0, append_assoc here more r.0, g, w, le, r.2))

all_after : (p : Plan) (ps : Plans) (ask : Ask) (b : ℕ) (here more : List Call) (g : Given) → PlanWord p ask Client b here g → Rest (WordOfAll ps ask Client) (b + length here) more → Rest (WordOfAll (More p ps) ask Client) b (here ++ more)
all_after p ps ask b here more g w r = (r.0, g ∷ r.1, (here, more ++ r.0, append_assoc here more r.0, g, w, r.1, refl, r.2))

all_rest : (p : Plan) (ps : Plans) → AreGoodPlans ps → (ask : Ask) (b : ℕ) (calls : List Call) → Rest (PlanWord p ask Client) b calls → Rest (WordOfAll (More p ps) ask Client) b calls
all_rest p ps good ask b calls r =
    let more = all_some ps good ask Client (b + length (calls ++ r.0)) in
    (r.0 ++ more.0, r.1 ∷ more.1, (calls ++ r.0, more.0, sym (append_assoc calls r.0 more.0), r.1, r.2, more.1, refl, more.2))

first_is_own : (ask : Ask) (k b : ℕ) (p : Plan) (calls : List Call) (given : Given) → ask.op ≢ Get → PlanWord p ask (CopyOf k) b calls given → AreSome calls → (copy : Call) × (slice_get calls 0 ≡ Some copy) × (copy.origin ≡ CopyOf k)
first_is_own ask k b p [] given other w some = absurd some
first_is_own ask k b p (c ∷ calls) given other w some = (c, refl, ⊎_elim (λ own. own.1) (λ get. absurd (other get)) (own_calls p ask (CopyOf k) b (c ∷ calls) given w).0)

-- through a cold and a warm side
module _ (cold warm : Plan) (e : ℕ) (good : IsGoodPlan cold) (good_warm : IsGoodPlan warm) (ask : Ask) (op : ask.op ≡ Get) (s : ℕ) where
  abbrev C : ℕ → List Call → Given → Type 0
  C = PlanWord cold ask Client

  abbrev W : ℕ → List Call → Given → Type 0
  W = PlanWord warm (plain_get ask) Client

  abbrev A : Answer → ℕ → ℕ → List Call → Given → Type 0
  A hit k = PlanWord cold (refill ask hit e) (CopyOf k)

  abbrev Through : ℕ → List Call → Given → Type 0
  Through = WarmUpWord ask C W A

  abbrev Any : Given → Type 0
  Any g = Unit {0}

  sure : (part : ℕ → List Call → Given → Type 0) → Replies Any part
  sure part b calls given w = tt

  c_some : HasSome C
  c_some = has_word cold good ask Client

  w_some : HasSome W
  w_some = has_word warm good_warm (plain_get ask) Client

  a_some : (hit : Answer) (k : ℕ) → HasSome (A hit k)
  a_some hit k = has_word cold good (refill ask hit e) (CopyOf k)

  names : Replies NamesHit W
  names = get_names_hit warm ask Client

  -- what the cold side did goes on
  in_cold : (b : ℕ) (calls : List Call) → Rest C b calls → Rest Through b calls
  in_cold b calls r = then_rest C (λ first. AfterCold ask C W A first (rank first)) Any (sure C) (λ first _. after_cold_some ask C W A c_some w_some a_some names first (rank first)) b calls r

  -- after a miss of the cold side
  after_miss : (b : ℕ) → ((b' : ℕ) (first : Given) → (calls : List Call) × Rest (Then W (λ g. AfterWarm ask C W A first g (rank g))) b' calls × HasCopy s b' calls) → (calls : List Call) × Rest Through b calls × HasCopy s b calls
  after_miss b f =
      let c = low cold good ask Client b in
      let m = one_less (rank c.1) c.3.low in
      let x = f (b + length c.0) c.1 in
      let r : Rest (AfterCold ask C W A c.1 (rank c.1)) (b + length c.0) x.0 = subst (λ n. Rest (AfterCold ask C W A c.1 n) (b + length c.0) x.0) (sym m.1) x.1 in
      (c.0 ++ x.0, then_after C (λ first. AfterCold ask C W A first (rank first)) b c.0 x.0 c.1 c.2 r, copy_back s b c.0 x.0 x.2)

  -- what the warm side did goes on
  in_warm : (b : ℕ) (first : Given) (calls : List Call) → Rest W b calls → Rest (Then W (λ g. AfterWarm ask C W A first g (rank g))) b calls
  in_warm b first calls r = then_rest W (λ g. AfterWarm ask C W A first g (rank g)) NamesHit names (λ g h. after_warm_some ask C W A c_some w_some a_some names first g (rank g) h) b calls r

  -- a hit of the warm side is added to the cold one
  by_add : (b : ℕ) (first : Given) → shown Get s warm ≡ true → adds cold ≡ true → (calls : List Call) × Rest (Then W (λ g. AfterWarm ask C W A first g (rank g))) b calls × HasCopy s b calls
  by_add b first h adding =
      let v = shown_word warm good_warm (plain_get ask) (plain_get_readable ask) b s h in
      let k = v.3.1 in
      let op' = refill_adds ask v.1.reply e in
      let a = low cold good (refill ask v.1.reply e) (CopyOf k) (b + length v.0) in
      let some = a.3.some op' adding in
      let own = first_is_own (refill ask v.1.reply e) k (b + length v.0) cold a.0 a.1 (λ g. absurd (cc)) a.2 some in
      let filled : Rest (Refilled ask C W A v.1 (Some k)) (b + length v.0) a.0 = then_rest (A v.1.reply k) (λ _. AfterRefill ask C W A v.1) Any (sure (A v.1.reply k)) (λ _ _. after_refill_some ask C W A c_some w_some a_some names v.1) (b + length v.0) a.0 ([], a.1, subst (λ l. A v.1.reply k (b + length v.0) l a.1) (sym (append-nil a.0)) a.2) in
      let named : Rest (Refilled ask C W A v.1 v.1.from) (b + length v.0) a.0 = subst (λ o. Rest (Refilled ask C W A v.1 o) (b + length v.0) a.0) (sym v.3.2) filled in
      let after : Rest (AfterWarm ask C W A first v.1 (rank v.1)) (b + length v.0) a.0 = subst (λ n. Rest (AfterWarm ask C W A first v.1 n) (b + length v.0) a.0) (sym v.3.0) named in
      (v.0 ++ a.0, then_after W (λ g. AfterWarm ask C W A first g (rank g)) b v.0 a.0 v.1 v.2 after, (k, length v.0 + 0, own.0, get_back v.0 a.0 0 own.0 own.1, own.2, has_front (λ c. c.server ≡ s) b v.0 a.0 k v.3.3))

mutual
  pub copied_word : (p : Plan) → IsGoodPlan p → (ask : Ask) → ask.op ≡ Get → (b s : ℕ) → copied Get s p ≡ true → (calls : List Call) × Rest (PlanWord p ask Client) b calls × HasCopy s b calls
  copied_word (Server t) good ask op b s h = absurd (cc)
  copied_word Null good ask op b s h = absurd (cc)
  copied_word Failing good ask op b s h = absurd (cc)
  copied_word (AllSync ps) good ask op b s h =
      let w = copied_all ps good.1 ask op b s h in
      let g = first_given ps good.0 ask Client b (w.0 ++ w.1.0) w.1.1 w.1.2 in
      (w.0, (w.1.0, g.0, (w.1.1, w.1.2, g.1)), w.2)
  copied_word (Failover ps) good ask op b s h = copied_first_word ps good.1 ask op b s h
  copied_word (MissFailover ps) good ask op b s h = let w = copied_any ps good.1 ask op b s h in (w.0, (w.1.0, w.1.1, get_is ask.op _ _ op w.1.2), w.2)
  copied_word (WarmUp cold warm e) good ask op b s h =
      let w = ⊎_elim
      (λ (here : copied Get s cold ≡ true). let f = copied_word cold good.0 ask op b s here in (f.0, in_cold cold warm e good.0 good.1 ask op s b f.0 f.1, f.2))
      (λ more. ⊎_elim
      (λ (there : copied Get s warm ≡ true). after_miss cold warm e good.0 good.1 ask op s b (λ b' first. let f = copied_word warm good.1 (plain_get ask) refl b' s there in (f.0, in_warm cold warm e good.0 good.1 ask op s b' first f.0 f.1, f.2)))
      (λ fill. let t = both_split (shown Get s warm) (adds cold) fill in after_miss cold warm e good.0 good.1 ask op s b (λ b' first. by_add cold warm e good.0 good.1 ask op s b' first t.0 t.1))
      (either_split (copied Get s warm) (shown Get s warm && adds cold) more))
      (either_split (copied Get s cold) (copied Get s warm || (shown Get s warm && adds cold)) h) in
      (w.0, (w.1.0, w.1.1, get_is ask.op _ _ op w.1.2), w.2)
  copied_word (ByOperation policies) good ask op b s h = copied_policy_word policies good ask op b s h

  copied_all : (ps : Plans) → AreGoodPlans ps → (ask : Ask) → ask.op ≡ Get → (b s : ℕ) → copied_some Get s ps ≡ true → (calls : List Call) × Rest (WordOfAll ps ask Client) b calls × HasCopy s b calls
  copied_all End good ask op b s h = absurd (cc)
  copied_all (More p ps) good ask op b s h =
      ⊎_elim
      (λ here. let f = copied_word p good.0 ask op b s here in (f.0, all_rest p ps good.1 ask b f.0 f.1, f.2))
      (λ there.
      let c = low p good.0 ask Client b in
      let f = copied_all ps good.1 ask op (b + length c.0) s there in
      (c.0 ++ f.0, all_after p ps ask b c.0 f.0 c.1 c.2 f.1, copy_back s b c.0 f.0 f.2))
      (either_split (copied Get s p) (copied_some Get s ps) h)

  copied_first_word : (ps : Plans) → AreGoodPlans ps → (ask : Ask) → ask.op ≡ Get → (b s : ℕ) → copied_first Get s ps ≡ true → (calls : List Call) × Rest (WordOfFirst ps 4 ask Client) b calls × HasCopy s b calls
  copied_first_word End good ask op b s h = absurd (cc)
  copied_first_word (More p ps) good ask op b s h =
      ⊎_elim
      (λ here. let f = copied_word p good.0 ask op b s here in (f.0, first_rest p ps 4 ask Client (λ some. first_some ps 4 some good.1 ask Client) b f.0 f.1, f.2))
      (λ there.
      let t = both_split (can_fail Get p) (copied_first Get s ps) there in
      let c = low p good.0 ask Client b in
      let f = copied_first_word ps good.1 ask op (b + length c.0) s t.1 in
      (c.0 ++ f.0, first_after p ps 4 ask b c.0 f.0 c.1 c.2 (c.3.worst (subst (λ o. can_fail o p ≡ true) (sym op) t.0)) f.1, copy_back s b c.0 f.0 f.2))
      (either_split (copied Get s p) (can_fail Get p && copied_first Get s ps) h)

  copied_any : (ps : Plans) → AreGoodPlans ps → (ask : Ask) → ask.op ≡ Get → (b s : ℕ) → copied_some Get s ps ≡ true → (calls : List Call) × Rest (WordOfFirst ps 1 ask Client) b calls × HasCopy s b calls
  copied_any End good ask op b s h = absurd (cc)
  copied_any (More p ps) good ask op b s h =
      ⊎_elim
      (λ here. let f = copied_word p good.0 ask op b s here in (f.0, first_rest p ps 1 ask Client (λ some. first_some ps 1 some good.1 ask Client) b f.0 f.1, f.2))
      (λ there.
      let c = low p good.0 ask Client b in
      let f = copied_any ps good.1 ask op (b + length c.0) s there in
      (c.0 ++ f.0, first_after p ps 1 ask b c.0 f.0 c.1 c.2 c.3.low f.1, copy_back s b c.0 f.0 f.2))
      (either_split (copied Get s p) (copied_some Get s ps) h)

  copied_policy_word : (ps : PlanPolicies) → AreGoodPlanPolicies ps → (ask : Ask) → ask.op ≡ Get → (b s : ℕ) → copied_policy Get s ps ≡ true → (calls : List Call) × Rest (WordOfPolicy ps ask Client) b calls × HasCopy s b calls
  copied_policy_word (Otherwise p) good ask op b s h = copied_word p good ask op b s h
  copied_policy_word (Policy o p rest) good ask op b s h =
      ⊎_elim
      (λ e. let f = copied_word p good.0 ask op b s (cond_true (same_op o Get) _ _ e h) in (f.0, (f.1.0, f.1.1, match_true (same_op o ask.op) _ _ (ap (same_op o) op ∙ e) f.1.2), f.2))
      (λ e. let f = copied_policy_word rest good.1 ask op b s (cond_false (same_op o Get) _ _ e h) in (f.0, (f.1.0, f.1.1, match_false (same_op o ask.op) _ _ (ap (same_op o) op ∙ e) f.1.2), f.2))
      (bool_is (same_op o Get))

-- ---- what is computed is taken

-- a classic read of a key
abbrev a_read : Op → Option ℤ → Ask
a_read op exptime = record { key = 97 ∷ []; op = op; dialect = dialects.Classic; with_cas = false; flags = 0; exptime = exptime; body = []; cas = None; delta = 0; tokens = [] }

-- an ask of the operation
record HasRead (op : Op) : Type 0 where
  ask : Ask
  is : IsAsk ask
  of : ask.op ≡ op
  readable : IsReadable ask

a_hit : (op : Op) (e : Option ℤ) → Fits (a_read op e) (Hit 0 [] None) → IsReadable (a_read op e)
a_hit op e f = record { answer = Hit 0 [] None; fits = f; showing = refl; done = refl; plain = refl }

a_number : (op : Op) (e : Option ℤ) → Fits (a_read op e) (Number 0) → IsReadable (a_read op e)
a_number op e f = record { answer = Number 0; fits = f; showing = refl; done = refl; plain = refl }

some_read : (op : Op) → IsTaking op → HasRead op
some_read Get h = record { ask = a_read Get None; is = record { key = record { some = omega arith; short = omega arith; bytes = refl }; ranges = record { flags = omega arith; exptime = tt; body = omega arith; cas = tt; delta = omega arith }; shape = record { with_cas = tt; flags = refl; exptime = refl; body = refl; cas = refl; delta = refl; tokens = refl } }; of = refl; readable = a_hit Get None (record { ranges = (omega arith, omega arith, tt); listed = refl }) }
some_read Gat h = record { ask = a_read Gat (Some (pos 0)); is = record { key = record { some = omega arith; short = omega arith; bytes = refl }; ranges = record { flags = omega arith; exptime = (omega (arith, ints), omega (arith, ints)); body = omega arith; cas = tt; delta = omega arith }; shape = record { with_cas = tt; flags = refl; exptime = refl; body = refl; cas = refl; delta = refl; tokens = refl } }; of = refl; readable = a_hit Gat (Some (pos 0)) (record { ranges = (omega arith, omega arith, tt); listed = refl }) }
some_read Incr h = record { ask = a_read Incr None; is = record { key = record { some = omega arith; short = omega arith; bytes = refl }; ranges = record { flags = omega arith; exptime = tt; body = omega arith; cas = tt; delta = omega arith }; shape = record { with_cas = refl; flags = refl; exptime = refl; body = refl; cas = refl; delta = tt; tokens = refl } }; of = refl; readable = a_number Incr None (record { ranges = omega arith; listed = tt }) }
some_read Decr h = record { ask = a_read Decr None; is = record { key = record { some = omega arith; short = omega arith; bytes = refl }; ranges = record { flags = omega arith; exptime = tt; body = omega arith; cas = tt; delta = omega arith }; shape = record { with_cas = refl; flags = refl; exptime = refl; body = refl; cas = refl; delta = tt; tokens = refl } }; of = refl; readable = a_number Decr None (record { ranges = omega arith; listed = tt }) }
some_read Set h = absurd h
some_read Add h = absurd h
some_read Replace h = absurd h
some_read Append h = absurd h
some_read Prepend h = absurd h
some_read Cas h = absurd h
some_read Delete h = absurd h
some_read Touch h = absurd h

module _ (plain : Plan) (op : Op) (s : ℕ) (good : IsGoodPlan plain) where
  taken_takes : takes_server plain op s ≡ true → Takes plain op s
  taken_takes h =
      let t = both_split (is_taking op) (shown op s plain || (asks_get op && copied op s plain)) h in
      let r = some_read op (is_taking_op op t.0) in
      ⊎_elim
      (λ here.
      let f = shown_word plain good r.ask r.readable 0 s (subst (λ o. shown o s plain ≡ true) (sym r.of) here) in
      let i : f.3.1 ≡ f.3.3.0 = (let x = f.3.3.1 in omega arith) in
      (r.ask, r.is, r.of, f.0, f.1.reply, f.1.from, f.2, (f.3.3.0, (f.3.3.2, f.3.3.3, f.3.3.4), inl (f.3.2 ∙ ap Some i))))
      (λ there.
      let g = both_split (asks_get op) (copied op s plain) there in
      let get : r.ask.op ≡ Get = r.of ∙ get_of op g.0 in
      let f = copied_word plain good r.ask get 0 s (subst (λ o. copied o s plain ≡ true) (get_of op g.0) g.1) in
      let calls = f.0 ++ f.1.0 in
      let c = copy_front s 0 f.0 f.1.0 f.2 in
      let i : c.0 ≡ c.5.0 = (let x = c.5.1 in omega arith) in
      (r.ask, r.is, r.of, calls, f.1.1.reply, f.1.1.from, f.1.2, (c.5.0, (c.5.2, c.5.3, c.5.4), inr (c.1, c.2, c.3, c.4 ∙ ap CopyOf i))))
      (either_split (shown op s plain) (asks_get op && copied op s plain) t.1)

pub taken_is_exact : TakenIsExact
taken_is_exact plain op s good = (taken_takes plain op s good, takes_is_taken plain op s)
