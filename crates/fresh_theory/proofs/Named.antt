-- Each call of a word that copies names one that was answered.
use Rattle.std.proofs.Common.{◌≡◌, ℕ, zero, suc, ◌+◌, false, List, [], ◌∷◌, ◌++◌, length, Option, Some, None, MatchOption, ◌⊎◌, inl, inr, ⊎_elim, refl, sym, ap, ◌∙◌, subst, arith, slice_get}
use Rattle.mc_types.specs.declared.ask.Op.TheVariants.{Get, Add}
use Rattle.mc_types.specs.declared.ask.Ask.{Ask}
use Rattle.mc_types.specs.declared.answer.Answer.{Answer}
use Rattle.mc_types.specs.declared.call.Origin.{Origin}
use Rattle.mc_types.specs.declared.call.Origin.TheVariants.{Client, CopyOf}
use Rattle.mc_types.specs.Asks.{IsAsk}
use Rattle.mc_types.specs.Shows.{shows}
use Rattle.fresh_runs.specs.Calls.{Call}
use Rattle.route_tree.specs.Operation.{same_op}
use Rattle.route_tree.specs.Plan.{Plan, Plans, PlanPolicies, Server, Null, Failing, AllSync, Failover, MissFailover, WarmUp, ByOperation, End, More, Otherwise, Policy}
use Rattle.route_tree.specs.Word.{Given, rank, plain_get, refill, is_plain_get, PlanWord, WordOfAll, WordOfFirst, WordOfHead, WordOfPolicy, AfterRefill, Refilled, AfterWarm, AfterCold, WarmUpWord}
use Rattle.route_tree.specs.Word.{tree_words}
use Rattle.route_tree.proofs.Parts.{match_bool, if_get}
use Rattle.fresh_theory.specs.Flushed.{NamesAnswered}
use Rattle.gate_coverage.proofs.Copying.{refill_adds}
use Rattle.route_tree.proofs.Showing.{IsFound, get_front, get_back, answer_there, Finds, plain_get_is_ask, finds}

get_split : (xs ys : List Call) (i : ℕ) (x : Call) → slice_get (xs ++ ys) i ≡ Some x → (slice_get xs i ≡ Some x) ⊎ ((k : ℕ) × (slice_get ys k ≡ Some x))
get_split [] ys i x h = inr (i, h)
get_split (y ∷ xs) ys zero x h = inl h
get_split (y ∷ xs) ys (suc i) x h = get_split xs ys i x h

-- of calls counted from b
abbrev IsNamed : ℕ → List Call → Call → Type 0
IsNamed b calls call = (i : ℕ) × (reply : Answer) × (call.origin ≡ CopyOf i) × IsFound b calls reply i

-- each copies so, but for those of this origin
abbrev Named : Origin → ℕ → List Call → Type 0
Named origin b calls = (j : ℕ) (call : Call) → slice_get calls j ≡ Some call → (call.origin ≡ origin) ⊎ IsNamed b calls call

front_found : (b : ℕ) (front back : List Call) (reply : Answer) (i : ℕ) → IsFound b front reply i → IsFound b (front ++ back) reply i
front_found b front back reply i k = (k.0, k.1, answer_there front (front ++ back) k.0 k.0 reply (get_front front back k.0) k.2)

named_front : (b : ℕ) (front back : List Call) (call : Call) → IsNamed b front call → IsNamed b (front ++ back) call
named_front b front back call n = (n.0, n.1, n.2, front_found b front back n.1 n.0 n.3)

named_back : (b : ℕ) (front back : List Call) (call : Call) → IsNamed (b + length front) back call → IsNamed b (front ++ back) call
named_back b front back call n =
    let k = n.3 in
    (n.0, n.1, n.2, (length front + k.0, (let e = k.1 in omega arith), answer_there back (front ++ back) k.0 (length front + k.0) n.1 (get_back front back k.0) k.2))

named_parts : (origin : Origin) (b : ℕ) (calls front back : List Call) → calls ≡ front ++ back → Named origin b front → Named origin (b + length front) back → Named origin b calls
named_parts origin b calls front back e first second =
    subst (Named origin b) (sym e)
    (λ j call got. ⊎_elim
    (λ f. ⊎_elim (λ o. inl o) (λ n. inr (named_front b front back call n)) (first j call f))
    (λ s. ⊎_elim (λ o. inl o) (λ n. inr (named_back b front back call n)) (second s.0 call s.1))
    (get_split front back j call got))

no_call : {A : Type 0} (j : ℕ) (call : Call) → slice_get [] j ≡ Some call → A
no_call j call e = absurd cc

named_none : (origin : Origin) (b : ℕ) (calls : List Call) → calls ≡ [] → Named origin b calls
named_none origin b calls e = subst (Named origin b) (sym e) (λ j call got. no_call j call got)

same_call : (a b : Call) → Some a ≡ Some b → a ≡ b
same_call a b e = cc

named_one : (b : ℕ) (c : Call) → Named c.origin b (c ∷ [])
named_one b c zero call got = inl (ap (λ (x : Call). x.origin) (sym (same_call c call got)))
named_one b c (suc j) call got = no_call j call got

-- of a warm-up
module _ (ask : Ask) (origin : Origin) (cold : ℕ → List Call → Given → Type 0) (warm : ℕ → List Call → Given → Type 0) (add : Answer → ℕ → ℕ → List Call → Given → Type 0) (in_cold : (b : ℕ) (calls : List Call) (given : Given) → cold b calls given → Named origin b calls) (in_warm : (b : ℕ) (calls : List Call) (given : Given) → warm b calls given → Named origin b calls) (find_warm : Finds warm) (in_add : (hit : Answer) (w b : ℕ) (calls : List Call) (given : Given) → add hit w b calls given → Named (CopyOf w) b calls) where
  -- or it copies what the warm side gave
  abbrev Half : Given → ℕ → List Call → Type 0
  Half g b calls = (j : ℕ) (call : Call) → slice_get calls j ≡ Some call → (call.origin ≡ origin) ⊎ (((w : ℕ) × (g.from ≡ Some w) × (call.origin ≡ CopyOf w)) ⊎ IsNamed b calls call)

  refill_named : (g : Given) (b : ℕ) (calls : List Call) (given : Given) → AfterRefill ask cold warm add g b calls given → Named origin b calls
  refill_named g b calls given w = match_bool (is_plain_get ask) _ _ (Named origin b calls) w (λ h. named_none origin b calls h.0) (λ h. in_cold b calls given h)

  refilled_half : (g : Given) (from : Option ℕ) (b : ℕ) (calls : List Call) (given : Given) → g.from ≡ from → Refilled ask cold warm add g from b calls given → Half g b calls
  refilled_half g None b calls given is w = absurd w
  refilled_half g (Some i) b calls given is w =
      subst (Half g b) (sym w.2)
      (λ j call got. ⊎_elim
      (λ f. ⊎_elim (λ o. inr (inl (i, is, o))) (λ n. inr (inr (named_front b w.0 w.1 call n))) (in_add g.reply i b w.0 w.3 w.4 j call f))
      (λ s. ⊎_elim (λ o. inl o) (λ n. inr (inr (named_back b w.0 w.1 call n))) (refill_named g (b + length w.0) w.1 given w.5 s.0 call s.1))
      (get_split w.0 w.1 j call got))

  after_warm_half : (first g : Given) (r b : ℕ) (calls : List Call) (given : Given) → AfterWarm ask cold warm add first g r b calls given → Half g b calls
  after_warm_half first g zero b calls given w = refilled_half g g.from b calls given refl w
  after_warm_half first g (suc r) b calls given w = subst (Half g b) (sym w.0) (λ j call got. no_call j call got)

  warm_found : (b : ℕ) (calls : List Call) (g : Given) (i : ℕ) → warm b calls g → g.from ≡ Some i → IsFound b calls g.reply i
  warm_found b calls g i w is = subst (λ o. MatchOption o (shows g.reply ≡ false) (IsFound b calls g.reply)) is (find_warm b calls g w)

  after_cold_named : (first : Given) (r b : ℕ) (calls : List Call) (given : Given) → AfterCold ask cold warm add first r b calls given → Named origin b calls
  after_cold_named first zero b calls given w = named_none origin b calls w.0
  after_cold_named first (suc r) b calls given w =
      subst (Named origin b) (sym w.2)
      (λ j call got. ⊎_elim
      (λ f. ⊎_elim (λ o. inl o) (λ n. inr (named_front b w.0 w.1 call n)) (in_warm b w.0 w.3 w.4 j call f))
      (λ s. ⊎_elim (λ o. inl o)
      (⊎_elim (λ c. inr (c.0, w.3.reply, c.2, front_found b w.0 w.1 w.3.reply c.0 (warm_found b w.0 w.3 c.0 w.4 c.1))) (λ n. inr (named_back b w.0 w.1 call n)))
      (after_warm_half first w.3 (rank w.3) (b + length w.0) w.1 given w.5 s.0 call s.1))
      (get_split w.0 w.1 j call got))

  warm_up_named : (b : ℕ) (calls : List Call) (given : Given) → WarmUpWord ask cold warm add b calls given → Named origin b calls
  warm_up_named b calls given w = named_parts origin b calls w.0 w.1 w.2 (in_cold b w.0 w.3 w.4) (after_cold_named w.3 (rank w.3) (b + length w.0) w.1 given w.5)

no_get : {A : Type 0} → Add ≡ Get → A
no_get e = absurd cc

mutual
  named : (p : Plan) (ask : Ask) → (ask.op ≡ Get → IsAsk ask) → (origin : Origin) (b : ℕ) (calls : List Call) (given : Given) → PlanWord p ask origin b calls given → Named origin b calls
  named (Server s) ask is origin b calls given w = subst (Named origin b) (sym w.2) (named_one b (record { server = s; ask = ask; origin = origin; outcome = w.0 }))
  named Null ask is origin b calls given w = named_none origin b calls w.0
  named Failing ask is origin b calls given w = named_none origin b calls w.0
  named (AllSync ps) ask is origin b calls given w = all_named ps ask is origin b calls w.0 w.1
  named (Failover ps) ask is origin b calls given w = first_named ps 4 ask is origin b calls given w
  named (MissFailover ps) ask is origin b calls given w =
      if_get ask.op _ _ (Named origin b calls) w (λ _ h. first_named ps 1 ask is origin b calls given h) (λ h. head_named ps ask is origin b calls given h)
  named (WarmUp cold warm e) ask is origin b calls given w =
      if_get ask.op _ _ (Named origin b calls) w
      (λ get h. let its = is get in warm_up_named ask origin (PlanWord cold ask origin) (PlanWord warm (plain_get ask) origin) (λ hit i. PlanWord cold (refill ask hit e) (CopyOf i))
      (named cold ask is origin) (named warm (plain_get ask) (λ _. plain_get_is_ask ask its) origin) (finds warm (plain_get ask) (plain_get_is_ask ask its) origin)
      (λ hit i b' calls' given' h'. named cold (refill ask hit e) (λ get'. no_get (sym (refill_adds ask hit e) ∙ get')) (CopyOf i) b' calls' given' h') b calls given h)
      (λ h. named cold ask is origin b calls given h)
  named (ByOperation policies) ask is origin b calls given w = policy_named policies ask is origin b calls given w

  all_named : (ps : Plans) (ask : Ask) → (ask.op ≡ Get → IsAsk ask) → (origin : Origin) (b : ℕ) (calls : List Call) (all : List Given) → WordOfAll ps ask origin b calls all → Named origin b calls
  all_named End ask is origin b calls all w = named_none origin b calls w.0
  all_named (More p ps) ask is origin b calls all w = named_parts origin b calls w.0 w.1 w.2 (named p ask is origin b w.0 w.3 w.4) (all_named ps ask is origin (b + length w.0) w.1 w.5 w.7)

  first_named : (ps : Plans) (limit : ℕ) (ask : Ask) → (ask.op ≡ Get → IsAsk ask) → (origin : Origin) (b : ℕ) (calls : List Call) (given : Given) → WordOfFirst ps limit ask origin b calls given → Named origin b calls
  first_named End limit ask is origin b calls given w = absurd w
  first_named (More p ps) limit ask is origin b calls given (inl w) = named p ask is origin b calls given w.0
  first_named (More p ps) limit ask is origin b calls given (inr w) = named_parts origin b calls w.0 w.1 w.2 (named p ask is origin b w.0 w.3 w.4) (first_named ps limit ask is origin (b + length w.0) w.1 given w.6)

  head_named : (ps : Plans) (ask : Ask) → (ask.op ≡ Get → IsAsk ask) → (origin : Origin) (b : ℕ) (calls : List Call) (given : Given) → WordOfHead ps ask origin b calls given → Named origin b calls
  head_named End ask is origin b calls given w = absurd w
  head_named (More p ps) ask is origin b calls given w = named p ask is origin b calls given w

  policy_named : (ps : PlanPolicies) (ask : Ask) → (ask.op ≡ Get → IsAsk ask) → (origin : Origin) (b : ℕ) (calls : List Call) (given : Given) → WordOfPolicy ps ask origin b calls given → Named origin b calls
  policy_named (Otherwise p) ask is origin b calls given w = named p ask is origin b calls given w
  policy_named (Policy op p rest) ask is origin b calls given w =
      match_bool (same_op op ask.op) _ _ (Named origin b calls) w (λ h. named p ask is origin b calls given h) (λ h. policy_named rest ask is origin b calls given h)

pub names_answered : (at : ℕ → List ℕ → Plan) → NamesAnswered (tree_words at)
names_answered at number ask calls reply from word j call i got copies =
    ⊎_elim
    (λ own. no_copy (sym own ∙ copies))
    (λ n.
    let found = n.3 in
    let same : i ≡ n.0 = copy_is i n.0 (sym copies ∙ n.2) in
    let place : found.0 ≡ i = (let k = found.1 in omega (arith, k, same)) in
    (found.2.call, subst (λ k. slice_get calls k ≡ Some found.2.call) place found.2.made, n.1, found.2.answered))
    (named (at number ask.key) ask (λ _. word.0) Client 0 calls (record { reply = reply; from = from }) word.1 j call got)
  where
    no_copy : {A : Type 0} → Client ≡ CopyOf i → A
    no_copy e = absurd cc

    copy_is : (x y : ℕ) → CopyOf x ≡ CopyOf y → x ≡ y
    copy_is x y e = cc
