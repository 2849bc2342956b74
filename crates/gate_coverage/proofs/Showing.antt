-- What a read shows and what it copies is computed.
use Rattle.std.proofs.Common.{◌≡◌, ℕ, zero, suc, ◌+◌, Bool, true, false, cond, List, [], ◌∷◌, ◌++◌, length, Option, Some, None, inl, inr, ⊎_elim, refl, sym, ap, ◌∙◌, subst, arith, nat_eq}
use Rattle.std.proofs.lemmas.Bool.{eq-eqb}
use Rattle.mc_types.specs.declared.ask.Op.{Op}
use Rattle.mc_types.specs.declared.ask.Op.TheVariants.{Get, Gat, Set, Add, Replace, Append, Prepend, Cas, Delete, Incr, Decr, Touch}
use Rattle.mc_types.specs.declared.ask.Dialect.{Dialect}
use Rattle.mc_types.specs.declared.ask.Dialect.TheVariants as dialects
use Rattle.mc_types.specs.declared.ask.Ask.{Ask}
use Rattle.mc_types.specs.declared.answer.Answer.{Answer}
use Rattle.mc_types.specs.declared.answer.Answer.TheVariants.{Stored, NotStored, Exists, NotFound, Deleted, Touched, Number, Hit, Miss, Meta, ClientError, Error, ServerError}
use Rattle.mc_types.specs.declared.answer.Code.{Code}
use Rattle.mc_types.specs.declared.answer.Code.TheVariants.{Hd, Va, En, Ns, Ex, Nf}
use Rattle.mc_types.specs.declared.answer.Fields.{Fields}
use Rattle.mc_types.specs.declared.token.Token.{Token}
use Rattle.mc_types.specs.declared.call.Origin.{Origin}
use Rattle.mc_types.specs.declared.call.Origin.TheVariants.{CopyOf}
use Rattle.mc_types.specs.declared.call.Outcome.{Outcome}
use Rattle.mc_types.specs.declared.call.Outcome.TheVariants.{Answered, Failed}
use Rattle.mc_types.specs.Fits.{Fits, FitsIn, FitsClassic, FitsMeta, FitsMetaCode}
use Rattle.mc_types.specs.Rank.{rank_of, IsWorst, NoneAbove}
use Rattle.mc_types.specs.Shows.{shows, fields_show}
use Rattle.fresh_runs.specs.Calls.{Call}
use Rattle.fresh_runs.specs.Single.{FitsOutcome}
use Rattle.route_tree.specs.Operation.{same_op}
use Rattle.route_tree.specs.Plan.{Plan, Plans, PlanPolicies, Server, Null, Failing, AllSync, Failover, MissFailover, WarmUp, ByOperation, End, More, Otherwise, Policy}
use Rattle.route_tree.specs.Word.{Given, rank, given_by, plain_get, refill, is_plain_get, PlanWord, WordOfAll, WordOfFirst, WordOfHead, WordOfPolicy, Refilled, AfterWarm, AfterCold, WarmUpWord}
use Rattle.route_tree.proofs.Parts.{match_bool}
use Rattle.gate_coverage.specs.Cover.{IsTaking}
use Rattle.gate_coverage.specs.Computed.{asks_get, can_fail, shown, shown_each, shown_first, shown_some, shown_head, shown_policy}
use Rattle.gate_coverage.proofs.Choices.{both, either_left, either_right, bool_is, if_true, if_false, true_match, false_match, by_get, only_get, only_other, is_get_of, no_get_of, HasCall, has_front, has_back, has_weaker}
use Rattle.gate_coverage.proofs.Failing.{word_fails, none_above_hits}
use Rattle.gate_coverage.proofs.Covering.{bare_shows_nothing}

-- ---- an answer that shows an item has rank 0

code_shows : (op : Op) (ts : List Token) (code : Code) (fields : Fields) → FitsMetaCode op ts code fields → IsTaking op → fields_show fields ≡ true → rank_of (Meta code fields) ≡ 0
code_shows op ts Hd fields f t h = refl
code_shows op ts Va fields f t h = refl
code_shows Get ts En fields f t h = absurd (bare_shows_nothing fields f h)
code_shows Gat ts En fields f t h = absurd (bare_shows_nothing fields f h)
code_shows Get ts Ns fields f t h = absurd f
code_shows Gat ts Ns fields f t h = absurd f
code_shows Get ts Nf fields f t h = absurd f
code_shows Gat ts Nf fields f t h = absurd f
code_shows Get ts Ex fields f t h = absurd f
code_shows Gat ts Ex fields f t h = absurd f
code_shows Incr ts En fields f t h = absurd f
code_shows Decr ts En fields f t h = absurd f
code_shows Incr ts Ns fields f t h = absurd (bare_shows_nothing fields f h)
code_shows Decr ts Ns fields f t h = absurd (bare_shows_nothing fields f h)
code_shows Incr ts Nf fields f t h = absurd (bare_shows_nothing fields f h)
code_shows Decr ts Nf fields f t h = absurd (bare_shows_nothing fields f h)
code_shows Incr ts Ex fields f t h = absurd (bare_shows_nothing fields f h)
code_shows Decr ts Ex fields f t h = absurd (bare_shows_nothing fields f h)
code_shows op ts En fields f t h = absurd t
code_shows op ts Ns fields f t h = absurd t
code_shows op ts Nf fields f t h = absurd t
code_shows op ts Ex fields f t h = absurd t

answer_shows : (op : Op) (ts : List Token) (answer : Answer) → FitsMeta op ts answer → IsTaking op → shows answer ≡ true → rank_of answer ≡ 0
answer_shows op ts (Meta c fields) f t h = code_shows op ts c fields f t h
answer_shows op ts (Number n) f t h = refl
answer_shows op ts (Hit a b c) f t h = refl
answer_shows op ts Stored f t h = refl
answer_shows op ts Deleted f t h = refl
answer_shows op ts Touched f t h = refl
answer_shows op ts NotStored f t h = absurd (cc)
answer_shows op ts Exists f t h = absurd (cc)
answer_shows op ts NotFound f t h = absurd (cc)
answer_shows op ts Miss f t h = absurd (cc)
answer_shows op ts Error f t h = absurd (cc)
answer_shows op ts (ClientError x) f t h = absurd (cc)
answer_shows op ts (ServerError x) f t h = absurd (cc)

-- no meta answer fits a classic ask
classic_fits : (op : Op) (w : Bool) (c : Code) (fields : Fields) → FitsClassic op w (Meta c fields) → ⊥
classic_fits Get w c fields f = cc
classic_fits Gat w c fields f = cc
classic_fits Set w c fields f = cc
classic_fits Add w c fields f = cc
classic_fits Replace w c fields f = cc
classic_fits Append w c fields f = cc
classic_fits Prepend w c fields f = cc
classic_fits Cas w c fields f = cc
classic_fits Delete w c fields f = cc
classic_fits Incr w c fields f = cc
classic_fits Decr w c fields f = cc
classic_fits Touch w c fields f = cc

classic_shows : (op : Op) (w : Bool) (answer : Answer) → FitsClassic op w answer → shows answer ≡ true → rank_of answer ≡ 0
classic_shows op w (Meta c fields) f h = absurd (classic_fits op w c fields f)
classic_shows op w (Number n) f h = refl
classic_shows op w (Hit a b c) f h = refl
classic_shows op w Stored f h = refl
classic_shows op w Deleted f h = refl
classic_shows op w Touched f h = refl
classic_shows op w NotStored f h = absurd (cc)
classic_shows op w Exists f h = absurd (cc)
classic_shows op w NotFound f h = absurd (cc)
classic_shows op w Miss f h = absurd (cc)
classic_shows op w Error f h = absurd (cc)
classic_shows op w (ClientError x) f h = absurd (cc)
classic_shows op w (ServerError x) f h = absurd (cc)

fit_shows : (ask : Ask) (answer : Answer) → IsTaking ask.op → Fits ask answer → shows answer ≡ true → rank_of answer ≡ 0
fit_shows ask answer t fits h = in_dialect ask.dialect fits.listed
  where
    in_dialect : (d : Dialect) → FitsIn d ask answer → rank_of answer ≡ 0
    in_dialect dialects.Classic f = classic_shows ask.op ask.with_cas answer f h
    in_dialect dialects.Meta f = answer_shows ask.op ask.tokens answer f t h

-- ---- what a reply shows

-- where the reply shows an item, it is of a call of a server for which that is computed, and has rank 0
abbrev pub ShowsOf : (ℕ → Bool) → ℕ → List Call → Given → Type 0
ShowsOf test b calls given = (k : ℕ) → given.from ≡ Some k → (rank given ≡ 0) × HasCall (λ c. test c.server ≡ true) b calls k

shows_weaker : (f g : ℕ → Bool) (b : ℕ) (calls : List Call) (given : Given) → ((s : ℕ) → f s ≡ true → g s ≡ true) → ShowsOf f b calls given → ShowsOf g b calls given
shows_weaker f g b calls given w h k e = let x = h k e in (x.0, has_weaker (λ c. f c.server ≡ true) (λ c. g c.server ≡ true) b calls k (λ c. w c.server) x.1)

shows_front : (f : ℕ → Bool) (b : ℕ) (front back : List Call) (given : Given) → ShowsOf f b front given → ShowsOf f b (front ++ back) given
shows_front f b front back given h k e = let x = h k e in (x.0, has_front (λ c. f c.server ≡ true) b front back k x.1)

shows_back : (f : ℕ → Bool) (b : ℕ) (front back : List Call) (given : Given) → ShowsOf f (b + length front) back given → ShowsOf f b (front ++ back) given
shows_back f b front back given h k e = let x = h k e in (x.0, has_back (λ c. f c.server ≡ true) b front back k x.1)

shows_none : (f : ℕ → Bool) (b : ℕ) (calls : List Call) (given : Given) → given.from ≡ None → ShowsOf f b calls given
shows_none f b calls given e k is = absurd (cc)

-- through a cold and a warm side
module _ (ask : Ask) (cold : ℕ → List Call → Given → Type 0) (warm : ℕ → List Call → Given → Type 0) (add : Answer → ℕ → ℕ → List Call → Given → Type 0) (f : ℕ → Bool) (in_cold : (b : ℕ) (calls : List Call) (given : Given) → cold b calls given → ShowsOf f b calls given) (in_warm : (b : ℕ) (calls : List Call) (given : Given) → warm b calls given → ShowsOf f b calls given) where
  refilled_shows : (b : ℕ) (c2 back : List Call) (g given : Given) → ShowsOf f b c2 g → (from : Option ℕ) → Refilled ask cold warm add g from (b + length c2) back given → ShowsOf f b (c2 ++ back) given
  refilled_shows b c2 back g given h None w = absurd w
  refilled_shows b c2 back g given h (Some i) w =
      subst (λ l. ShowsOf f b (c2 ++ l) given) (sym w.2)
      (match_bool (is_plain_get ask) _ _ (ShowsOf f b (c2 ++ (w.0 ++ w.1)) given) w.5
      (λ k. subst (ShowsOf f b (c2 ++ (w.0 ++ w.1))) (sym k.1) (shows_front f b c2 (w.0 ++ w.1) g h))
      (λ k. shows_back f b c2 (w.0 ++ w.1) given (shows_back f (b + length c2) w.0 w.1 given (in_cold (b + length c2 + length w.0) w.1 given k))))

  after_warm_shows : (b : ℕ) (c1 c2 back : List Call) (first g given : Given) → ShowsOf f b c1 first → ShowsOf f (b + length c1) c2 g → (r : ℕ) → AfterWarm ask cold warm add first g r (b + length c1 + length c2) back given → ShowsOf f b (c1 ++ (c2 ++ back)) given
  after_warm_shows b c1 c2 back first g given h k zero w = shows_back f b c1 (c2 ++ back) given (refilled_shows (b + length c1) c2 back g given k g.from w)
  after_warm_shows b c1 c2 back first g given h k (suc r) w = subst (ShowsOf f b (c1 ++ (c2 ++ back))) (sym w.1) (shows_front f b c1 (c2 ++ back) first h)

  after_cold_shows : (b : ℕ) (c1 back : List Call) (first given : Given) → ShowsOf f b c1 first → (r : ℕ) → AfterCold ask cold warm add first r (b + length c1) back given → ShowsOf f b (c1 ++ back) given
  after_cold_shows b c1 back first given h zero w = subst (ShowsOf f b (c1 ++ back)) (sym w.1) (shows_front f b c1 back first h)
  after_cold_shows b c1 back first given h (suc r) w =
      subst (λ l. ShowsOf f b (c1 ++ l) given) (sym w.2) (after_warm_shows b c1 w.0 w.1 first w.3 given h (in_warm (b + length c1) w.0 w.3 w.4) (rank w.3) w.5)

  warm_up_shows : (b : ℕ) (calls : List Call) (given : Given) → WarmUpWord ask cold warm add b calls given → ShowsOf f b calls given
  warm_up_shows b calls given w = subst (λ l. ShowsOf f b l given) (sym w.2) (after_cold_shows b w.0 w.1 w.3 given (in_cold b w.0 w.3 w.4) (rank w.3) w.5)

server_shows : (t b : ℕ) (ask : Ask) (origin : Origin) (outcome : Outcome) → IsTaking ask.op → FitsOutcome ask outcome → ShowsOf (λ s. nat_eq t s) b (record { server = t; ask = ask; origin = origin; outcome = outcome } ∷ []) (given_by b outcome)
server_shows t b ask origin Failed taking fits k e = absurd (cc)
server_shows t b ask origin (Answered answer) taking fits k e =
    (elim (shows answer) as (λ v. shows answer ≡ v → cond v (Some b) None ≡ Some k → (rank_of answer ≡ 0) × HasCall (λ c. nat_eq t c.server ≡ true) b (record { server = t; ask = ask; origin = origin; outcome = Answered answer } ∷ []) k) [
      | true ↦ λ h is. (fit_shows ask answer taking fits h, (0, (let same : b ≡ k = cc in omega arith), record { server = t; ask = ask; origin = origin; outcome = Answered answer }, refl, eq-eqb t t refl))
      | false ↦ λ _ is. absurd (cc)
    ]) refl e

abbrev Shown : Op → Plan → ℕ → List Call → Given → Type 0
Shown op p = ShowsOf (λ s. shown op s p)

mutual
  pub word_shows : (p : Plan) (ask : Ask) (origin : Origin) (b : ℕ) (calls : List Call) (given : Given) → IsTaking ask.op → PlanWord p ask origin b calls given → Shown ask.op p b calls given
  word_shows (Server t) ask origin b calls given taking w =
      subst (λ l. ShowsOf (λ s. nat_eq t s) b l given) (sym w.2) (subst (ShowsOf (λ s. nat_eq t s) b (record { server = t; ask = ask; origin = origin; outcome = w.0 } ∷ [])) (sym w.3) (server_shows t b ask origin w.0 taking w.1))
  word_shows Null ask origin b calls given taking w = shows_none (λ s. false) b calls given (ap (λ (g : Given). g.from) w.1)
  word_shows Failing ask origin b calls given taking w = shows_none (λ s. false) b calls given (ap (λ (g : Given). g.from) w.1)
  word_shows (AllSync ps) ask origin b calls given taking w = each_shows ps ask origin b calls w.0 given taking w.1 w.2
  word_shows (Failover ps) ask origin b calls given taking w = first_shows ps ask origin b calls given taking w
  word_shows (MissFailover ps) ask origin b calls given taking w =
      by_get ask.op _
      (λ e. shows_weaker (λ s. shown_some ask.op s ps) (λ s. shown ask.op s (MissFailover ps)) b calls given (λ s h. if_true (asks_get ask.op) _ _ (is_get_of ask.op e) h) (some_shows ps ask origin b calls given taking (only_get ask.op _ _ e w)))
      (λ n. shows_weaker (λ s. shown_head ask.op s ps) (λ s. shown ask.op s (MissFailover ps)) b calls given (λ s h. if_false (asks_get ask.op) _ _ (no_get_of ask.op n) h) (head_shows ps ask origin b calls given taking (only_other ask.op _ _ n w)))
  word_shows (WarmUp cold warm e) ask origin b calls given taking w =
      by_get ask.op _
      (λ op. warm_up_shows ask (PlanWord cold ask origin) (PlanWord warm (plain_get ask) origin) (λ hit i. PlanWord cold (refill ask hit e) (CopyOf i)) (λ s. shown ask.op s (WarmUp cold warm e))
      (λ b' c' g' w'. shows_weaker (λ s. shown ask.op s cold) (λ s. shown ask.op s (WarmUp cold warm e)) b' c' g' (λ s h. either_left (shown ask.op s cold) _ h) (word_shows cold ask origin b' c' g' taking w'))
      (λ b' c' g' w'. shows_weaker (λ s. shown Get s warm) (λ s. shown ask.op s (WarmUp cold warm e)) b' c' g' (λ s h. either_right (shown ask.op s cold) _ (both (asks_get ask.op) _ (is_get_of ask.op op) (subst (λ o. shown o s warm ≡ true) (sym op) h))) (word_shows warm (plain_get ask) origin b' c' g' tt w'))
      b calls given (only_get ask.op _ _ op w))
      (λ n. shows_weaker (λ s. shown ask.op s cold) (λ s. shown ask.op s (WarmUp cold warm e)) b calls given (λ s h. either_left (shown ask.op s cold) _ h) (word_shows cold ask origin b calls given taking (only_other ask.op _ _ n w)))
  word_shows (ByOperation policies) ask origin b calls given taking w = policy_shows policies ask origin b calls given taking w

  each_shows : (ps : Plans) (ask : Ask) (origin : Origin) (b : ℕ) (calls : List Call) (all : List Given) (worst : Given) → IsTaking ask.op → WordOfAll ps ask origin b calls all → IsWorst rank all worst → ShowsOf (λ s. shown_each ask.op s ps) b calls worst
  each_shows End ask origin b calls all worst taking w is k e = absurd (subst (λ a. IsWorst rank a worst) w.1 is)
  each_shows (More p ps) ask origin b calls all worst taking w is k e =
      ⊎_elim
      (λ here.
      let x = word_shows p ask origin b w.0 w.3 taking w.4 k (ap (λ (g : Given). g.from) here.0 ∙ e) in
      let z : rank worst ≡ 0 = ap rank (sym here.0) ∙ x.0 in
      let rest = none_above_hits ps ask origin (b + length w.0) w.1 w.5 w.7 (subst (NoneAbove rank w.5) z here.1) in
      (z, subst (λ l. HasCall (λ c. shown_each ask.op c.server (More p ps) ≡ true) b l k) (sym w.2) (has_front (λ c. shown_each ask.op c.server (More p ps) ≡ true) b w.0 w.1 k (has_weaker (λ c. shown ask.op c.server p ≡ true) (λ c. shown_each ask.op c.server (More p ps) ≡ true) b w.0 k (λ c h. both (shown ask.op c.server p) _ h rest) x.1))))
      (λ there.
      let x = each_shows ps ask origin (b + length w.0) w.1 w.5 worst taking w.7 there.1 k e in
      absurd (let lt = there.0 in let z = x.0 in omega arith))
      (subst (λ a. IsWorst rank a worst) w.6 is)

  first_shows : (ps : Plans) (ask : Ask) (origin : Origin) (b : ℕ) (calls : List Call) (given : Given) → IsTaking ask.op → WordOfFirst ps 4 ask origin b calls given → ShowsOf (λ s. shown_first ask.op s ps) b calls given
  first_shows End ask origin b calls given taking w = absurd w
  first_shows (More p ps) ask origin b calls given taking (inl w) =
      shows_weaker (λ s. shown ask.op s p) (λ s. shown_first ask.op s (More p ps)) b calls given (λ s h. either_left (shown ask.op s p) _ h) (word_shows p ask origin b calls given taking w.0)
  first_shows (More p ps) ask origin b calls given taking (inr w) =
      subst (λ l. ShowsOf (λ s. shown_first ask.op s (More p ps)) b l given) (sym w.2)
      (shows_back (λ s. shown_first ask.op s (More p ps)) b w.0 w.1 given
      (shows_weaker (λ s. shown_first ask.op s ps) (λ s. shown_first ask.op s (More p ps)) (b + length w.0) w.1 given (λ s h. either_right (shown ask.op s p) _ (both (can_fail ask.op p) _ (word_fails p ask origin b w.0 w.3 w.4 w.5) h)) (first_shows ps ask origin (b + length w.0) w.1 given taking w.6)))

  some_shows : (ps : Plans) (ask : Ask) (origin : Origin) (b : ℕ) (calls : List Call) (given : Given) → IsTaking ask.op → WordOfFirst ps 1 ask origin b calls given → ShowsOf (λ s. shown_some ask.op s ps) b calls given
  some_shows End ask origin b calls given taking w = absurd w
  some_shows (More p ps) ask origin b calls given taking (inl w) =
      shows_weaker (λ s. shown ask.op s p) (λ s. shown_some ask.op s (More p ps)) b calls given (λ s h. either_left (shown ask.op s p) _ h) (word_shows p ask origin b calls given taking w.0)
  some_shows (More p ps) ask origin b calls given taking (inr w) =
      subst (λ l. ShowsOf (λ s. shown_some ask.op s (More p ps)) b l given) (sym w.2)
      (shows_back (λ s. shown_some ask.op s (More p ps)) b w.0 w.1 given
      (shows_weaker (λ s. shown_some ask.op s ps) (λ s. shown_some ask.op s (More p ps)) (b + length w.0) w.1 given (λ s h. either_right (shown ask.op s p) _ h) (some_shows ps ask origin (b + length w.0) w.1 given taking w.6)))

  head_shows : (ps : Plans) (ask : Ask) (origin : Origin) (b : ℕ) (calls : List Call) (given : Given) → IsTaking ask.op → WordOfHead ps ask origin b calls given → ShowsOf (λ s. shown_head ask.op s ps) b calls given
  head_shows End ask origin b calls given taking w = absurd w
  head_shows (More p ps) ask origin b calls given taking w = word_shows p ask origin b calls given taking w

  policy_shows : (ps : PlanPolicies) (ask : Ask) (origin : Origin) (b : ℕ) (calls : List Call) (given : Given) → IsTaking ask.op → WordOfPolicy ps ask origin b calls given → ShowsOf (λ s. shown_policy ask.op s ps) b calls given
  policy_shows (Otherwise p) ask origin b calls given taking w = word_shows p ask origin b calls given taking w
  policy_shows (Policy o p rest) ask origin b calls given taking w =
      ⊎_elim
      (λ e. shows_weaker (λ s. shown ask.op s p) (λ s. shown_policy ask.op s (Policy o p rest)) b calls given (λ s h. if_true (same_op o ask.op) _ _ e h) (word_shows p ask origin b calls given taking (true_match _ _ _ e w)))
      (λ e. shows_weaker (λ s. shown_policy ask.op s rest) (λ s. shown_policy ask.op s (Policy o p rest)) b calls given (λ s h. if_false (same_op o ask.op) _ _ e h) (policy_shows rest ask origin b calls given taking (false_match _ _ _ e w)))
      (bool_is (same_op o ask.op))
