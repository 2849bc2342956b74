-- Each reply shows no part of an item, or is the answer of the call that it names.
use Rattle.std.proofs.Common.{◌≡◌, ℕ, zero, suc, ◌+◌, true, false, cond, List, [], ◌∷◌, ◌++◌, length, Option, Some, None, MatchOption, ◌⊎◌, inl, inr, ⊎_elim, refl, sym, subst, arith, slice_get}
use Rattle.mc_types.specs.declared.ask.Op.{Op}
use Rattle.mc_types.specs.declared.ask.Op.TheVariants.{Get, Gat, Set, Add, Replace, Append, Prepend, Cas, Delete, Incr, Decr, Touch}
use Rattle.mc_types.specs.declared.ask.Dialect.{Dialect}
use Rattle.mc_types.specs.declared.ask.Dialect.TheVariants as dialects
use Rattle.mc_types.specs.declared.ask.Ask.{Ask}
use Rattle.mc_types.specs.declared.answer.Answer.{Answer}
use Rattle.mc_types.specs.declared.call.Origin.{Origin}
use Rattle.mc_types.specs.declared.call.Origin.TheVariants.{Client, CopyOf}
use Rattle.mc_types.specs.declared.call.Outcome.{Outcome}
use Rattle.mc_types.specs.declared.call.Outcome.TheVariants.{Answered, Failed}
use Rattle.mc_types.specs.Asks.{IsAsk}
use Rattle.mc_types.specs.Shows.{shows}
use Rattle.fresh_runs.specs.Calls.{Call}
use Rattle.fresh_runs.specs.Single.{FitsOutcome}
use Rattle.fresh_runs.specs.Cover.{IsAnswerOf}
use Rattle.route_tree.specs.Operation.{same_op}
use Rattle.route_tree.specs.Plan.{Plan, Plans, PlanPolicies, Server, Null, Failing, AllSync, Failover, MissFailover, WarmUp, ByOperation, End, More, Otherwise, Policy}
use Rattle.route_tree.specs.Each.{Each}
use Rattle.route_tree.specs.Word.{Given, rank, given_by, null_reply, failing_reply, word_of_nothing, answer_of_nothing, plain_get, refill, is_plain_get, PlanWord, WordOfAll, WordOfFirst, WordOfHead, WordOfPolicy, AfterRefill, Refilled, AfterWarm, AfterCold, WarmUpWord}
use Rattle.route_tree.specs.WordLaws.{RepliesShowWhatWasFound}
use Rattle.route_tree.proofs.Parts.{worst_is, match_bool, if_get, each_weaker}

-- of calls counted from b
abbrev pub IsFound : ℕ → List Call → Answer → ℕ → Type 0
IsFound b calls reply i = (j : ℕ) × (i ≡ b + j) × IsAnswerOf calls j reply

-- the reply shows nothing, or is the answer of the call that it names
abbrev pub Found : ℕ → List Call → Given → Type 0
Found b calls given = MatchOption given.from (shows given.reply ≡ false) (IsFound b calls given.reply)

match_option : {T : Type 0} (o : Option T) (A : Type 0) (P Q : T → Type 0) → ((x : T) → P x → Q x) → MatchOption o A P → MatchOption o A Q
match_option None A P Q f h = h
match_option (Some x) A P Q f h = f x h

-- a place in joined lists
pub get_front : (xs ys : List Call) (i : ℕ) (x : Call) → slice_get xs i ≡ Some x → slice_get (xs ++ ys) i ≡ Some x
get_front [] ys i x h = absurd (cc)
get_front (y ∷ xs) ys zero x h = h
get_front (y ∷ xs) ys (suc i) x h = get_front xs ys i x h

pub get_back : (xs ys : List Call) (i : ℕ) (x : Call) → slice_get ys i ≡ Some x → slice_get (xs ++ ys) (length xs + i) ≡ Some x
get_back [] ys i x h = let e : length {A = Call} [] + i ≡ i = omega arith in subst (λ n. slice_get ys n ≡ Some x) (sym e) h
get_back (y ∷ xs) ys i x h = let e : length (y ∷ xs) + i ≡ suc (length xs + i) = omega arith in subst (λ n. slice_get (y ∷ (xs ++ ys)) n ≡ Some x) (sym e) (get_back xs ys i x h)

pub answer_there : (calls more : List Call) (i j : ℕ) (reply : Answer) → ((x : Call) → slice_get calls i ≡ Some x → slice_get more j ≡ Some x) → IsAnswerOf calls i reply → IsAnswerOf more j reply
answer_there calls more i j reply there h = record { call = h.call; made = there h.call h.made; answered = h.answered; asked = h.asked; fits = h.fits; showing = h.showing }

pub found_front : (b : ℕ) (calls front back : List Call) (given : Given) → calls ≡ front ++ back → Found b front given → Found b calls given
found_front b calls front back given e h =
    subst (λ l. Found b l given) (sym e)
    (match_option given.from (shows given.reply ≡ false) (IsFound b front given.reply) (IsFound b (front ++ back) given.reply)
    (λ i k. (k.0, k.1, answer_there front (front ++ back) k.0 k.0 given.reply (get_front front back k.0) k.2)) h)

pub found_back : (b : ℕ) (calls front back : List Call) (given : Given) → calls ≡ front ++ back → Found (b + length front) back given → Found b calls given
found_back b calls front back given e h =
    subst (λ l. Found b l given) (sym e)
    (match_option given.from (shows given.reply ≡ false) (IsFound (b + length front) back given.reply) (IsFound b (front ++ back) given.reply)
    (λ i k. (length front + k.0, (let n = k.1 in omega arith), answer_there back (front ++ back) k.0 (length front + k.0) given.reply (get_back front back k.0) k.2)) h)

-- each reply of the part is found among its calls
abbrev pub Finds : (ℕ → List Call → Given → Type 0) → Type 0
Finds part = (b : ℕ) (calls : List Call) (given : Given) → part b calls given → Found b calls given

-- no reply without a call shows anything
found_nothing : (b : ℕ) (calls : List Call) (given g : Given) → given ≡ g → g.from ≡ None → shows g.reply ≡ false → Found b calls given
found_nothing b calls given g e none shown = subst (Found b calls) (sym e) (subst (λ o. MatchOption o (shows g.reply ≡ false) (IsFound b calls g.reply)) (sym none) shown)

word_shows_nothing : (op : Op) → shows (word_of_nothing op) ≡ false
word_shows_nothing Get = refl
word_shows_nothing Gat = refl
word_shows_nothing Set = refl
word_shows_nothing Add = refl
word_shows_nothing Replace = refl
word_shows_nothing Append = refl
word_shows_nothing Prepend = refl
word_shows_nothing Cas = refl
word_shows_nothing Delete = refl
word_shows_nothing Incr = refl
word_shows_nothing Decr = refl
word_shows_nothing Touch = refl

null_shows_nothing : (ask : Ask) → shows (null_reply ask).reply ≡ false
null_shows_nothing ask =
    (elim ask.dialect as (λ (d : Dialect). shows (answer_of_nothing d ask.op) ≡ false) [
      | dialects.Classic ↦ word_shows_nothing ask.op
      | dialects.Meta ↦ refl
    ])

-- the reply of a warm-up is one of its sides'
module _ (ask : Ask) (cold : ℕ → List Call → Given → Type 0) (warm : ℕ → List Call → Given → Type 0) (add : Answer → ℕ → ℕ → List Call → Given → Type 0) (in_cold : Finds cold) (in_warm : Finds warm) where
  after_refill_finds : (g : Given) (b : ℕ) (calls : List Call) (given : Given) → AfterRefill ask cold warm add g b calls given → (given ≡ g) ⊎ Found b calls given
  after_refill_finds g b calls given w = match_bool (is_plain_get ask) _ _ ((given ≡ g) ⊎ Found b calls given) w (λ h. inl h.1) (λ h. inr (in_cold b calls given h))

  refilled_finds : (g : Given) (from : Option ℕ) (b : ℕ) (calls : List Call) (given : Given) → Refilled ask cold warm add g from b calls given → (given ≡ g) ⊎ Found b calls given
  refilled_finds g None b calls given w = absurd w
  refilled_finds g (Some i) b calls given w = ⊎_elim (λ e. inl e) (λ f. inr (found_back b calls w.0 w.1 given w.2 f)) (after_refill_finds g (b + length w.0) w.1 given w.5)

  after_warm_finds : (first g : Given) (r b : ℕ) (calls : List Call) (given : Given) → AfterWarm ask cold warm add first g r b calls given → (given ≡ first) ⊎ ((given ≡ g) ⊎ Found b calls given)
  after_warm_finds first g zero b calls given w = inr (refilled_finds g g.from b calls given w)
  after_warm_finds first g (suc r) b calls given w = inl w.1

  after_cold_finds : (first : Given) (r b : ℕ) (calls : List Call) (given : Given) → AfterCold ask cold warm add first r b calls given → (given ≡ first) ⊎ Found b calls given
  after_cold_finds first zero b calls given w = inl w.1
  after_cold_finds first (suc r) b calls given w =
      ⊎_elim
      (λ e. inl e)
      (λ h. inr (⊎_elim (λ e. found_front b calls w.0 w.1 given w.2 (subst (Found b w.0) (sym e) (in_warm b w.0 w.3 w.4))) (λ f. found_back b calls w.0 w.1 given w.2 f) h))
      (after_warm_finds first w.3 (rank w.3) (b + length w.0) w.1 given w.5)

  pub warm_up_finds : Finds (WarmUpWord ask cold warm add)
  warm_up_finds b calls given w =
      ⊎_elim
      (λ e. found_front b calls w.0 w.1 given w.2 (subst (Found b w.0) (sym e) (in_cold b w.0 w.3 w.4)))
      (λ f. found_back b calls w.0 w.1 given w.2 f)
      (after_cold_finds w.3 (rank w.3) (b + length w.0) w.1 given w.5)

-- a classic get of a key is an ask
pub plain_get_is_ask : (ask : Ask) → IsAsk ask → IsAsk (plain_get ask)
plain_get_is_ask ask is = record {
  key = is.key;
  ranges = record { flags = omega arith; exptime = tt; body = omega arith; cas = tt; delta = omega arith };
  shape = record { with_cas = tt; flags = refl; exptime = refl; body = refl; cas = refl; delta = refl; tokens = refl };
}

server_finds : (s : ℕ) (ask : Ask) (origin : Origin) (b : ℕ) (outcome : Outcome) → IsAsk ask → FitsOutcome ask outcome → Found b (record { server = s; ask = ask; origin = origin; outcome = outcome } ∷ []) (given_by b outcome)
server_finds s ask origin b Failed is fit = refl
server_finds s ask origin b (Answered answer) is fit =
    (elim (shows answer) as (λ t. shows answer ≡ t → MatchOption (cond t (Some b) None) (shows answer ≡ false) (IsFound b (record { server = s; ask = ask; origin = origin; outcome = Answered answer } ∷ []) answer)) [
      | true ↦ λ h. (0, omega arith, record { call = record { server = s; ask = ask; origin = origin; outcome = Answered answer }; made = refl; answered = refl; asked = is; fits = fit; showing = h })
      | false ↦ λ h. h
    ]) refl

mutual
  pub finds : (p : Plan) (ask : Ask) → IsAsk ask → (origin : Origin) → Finds (PlanWord p ask origin)
  finds (Server s) ask is origin b calls given w =
      subst (λ l. Found b l given) (sym w.2) (subst (Found b (record { server = s; ask = ask; origin = origin; outcome = w.0 } ∷ [])) (sym w.3) (server_finds s ask origin b w.0 is w.1))
  finds Null ask is origin b calls given w = found_nothing b calls given (null_reply ask) w.1 refl (null_shows_nothing ask)
  finds Failing ask is origin b calls given w = found_nothing b calls given failing_reply w.1 refl refl
  finds (AllSync ps) ask is origin b calls given w = worst_is (Found b calls) w.0 given (all_find ps ask is origin b calls w.0 w.1) w.2
  finds (Failover ps) ask is origin b calls given w = first_finds ps 4 ask is origin b calls given w
  finds (MissFailover ps) ask is origin b calls given w =
      if_get ask.op _ _ (Found b calls given) w (λ _ h. first_finds ps 1 ask is origin b calls given h) (λ h. head_finds ps ask is origin b calls given h)
  finds (WarmUp cold warm e) ask is origin b calls given w =
      if_get ask.op _ _ (Found b calls given) w
      (λ _ h. warm_up_finds ask (PlanWord cold ask origin) (PlanWord warm (plain_get ask) origin) (λ hit i. PlanWord cold (refill ask hit e) (CopyOf i)) (finds cold ask is origin) (finds warm (plain_get ask) (plain_get_is_ask ask is) origin) b calls given h)
      (λ h. finds cold ask is origin b calls given h)
  finds (ByOperation policies) ask is origin b calls given w = policy_finds policies ask is origin b calls given w

  pub all_find : (ps : Plans) (ask : Ask) → IsAsk ask → (origin : Origin) (b : ℕ) (calls : List Call) (all : List Given) → WordOfAll ps ask origin b calls all → Each (Found b calls) all
  all_find End ask is origin b calls all w = subst (Each (Found b calls)) (sym w.1) tt
  all_find (More p ps) ask is origin b calls all w =
      subst (Each (Found b calls)) (sym w.6) (
        found_front b calls w.0 w.1 w.3 w.2 (finds p ask is origin b w.0 w.3 w.4),
        each_weaker (Found (b + length w.0) w.1) (Found b calls) w.5 (λ g f. found_back b calls w.0 w.1 g w.2 f) (all_find ps ask is origin (b + length w.0) w.1 w.5 w.7),
      )

  pub first_finds : (ps : Plans) (limit : ℕ) (ask : Ask) → IsAsk ask → (origin : Origin) → Finds (WordOfFirst ps limit ask origin)
  first_finds End limit ask is origin b calls given w = absurd w
  first_finds (More p ps) limit ask is origin b calls given (inl w) = finds p ask is origin b calls given w.0
  first_finds (More p ps) limit ask is origin b calls given (inr w) = found_back b calls w.0 w.1 given w.2 (first_finds ps limit ask is origin (b + length w.0) w.1 given w.6)

  head_finds : (ps : Plans) (ask : Ask) → IsAsk ask → (origin : Origin) → Finds (WordOfHead ps ask origin)
  head_finds End ask is origin b calls given w = absurd w
  head_finds (More p ps) ask is origin b calls given w = finds p ask is origin b calls given w

  policy_finds : (ps : PlanPolicies) (ask : Ask) → IsAsk ask → (origin : Origin) → Finds (WordOfPolicy ps ask origin)
  policy_finds (Otherwise p) ask is origin b calls given w = finds p ask is origin b calls given w
  policy_finds (Policy op p rest) ask is origin b calls given w =
      match_bool (same_op op ask.op) _ _ (Found b calls given) w (λ h. finds p ask is origin b calls given h) (λ h. policy_finds rest ask is origin b calls given h)

from_zero : (calls : List Call) (reply : Answer) (i : ℕ) → IsFound 0 calls reply i → IsAnswerOf calls i reply
from_zero calls reply i h = let e : h.0 ≡ i = (let k = h.1 in omega arith) in subst (λ n. IsAnswerOf calls n reply) e h.2

pub replies_show_what_was_found : RepliesShowWhatWasFound
replies_show_what_was_found at number ask calls reply from w =
    match_option from (shows reply ≡ false) (IsFound 0 calls reply) (λ i. IsAnswerOf calls i reply) (from_zero calls reply) (finds (at number ask.key) ask w.0 Client 0 calls (record { reply = reply; from = from }) w.1)
