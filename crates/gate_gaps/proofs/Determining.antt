-- Two words of one plain tree for one ask go the same way as long as their calls end alike.
use Rattle.std.proofs.Common.{◌≡◌, ℕ, zero, suc, ◌+◌, ◌<◌, ◌≤◌, Bool, true, false, List, [], ◌∷◌, ◌++◌, length, Option, Some, None, ◌⊎◌, inl, inr, refl, sym, ap, ap₂, ◌∙◌, subst, arith, append-nil, MatchBool}
use Rattle.mc_types.specs.declared.ask.Op.{Op}
use Rattle.mc_types.specs.declared.ask.Op.TheVariants.{Get}
use Rattle.mc_types.specs.declared.ask.Ask.{Ask}
use Rattle.mc_types.specs.declared.answer.Answer.{Answer}
use Rattle.mc_types.specs.declared.call.Origin.{Origin}
use Rattle.mc_types.specs.declared.call.Origin.TheVariants.{CopyOf}
use Rattle.mc_types.specs.declared.call.Outcome.{Outcome}
use Rattle.mc_types.specs.Rank.{IsWorst, NoneAbove}
use Rattle.fresh_runs.specs.Calls.{Call}
use Rattle.route_tree.specs.Operation.{same_op}
use Rattle.route_tree.specs.Plan.{Plan, Plans, PlanPolicies, Server, Null, Failing, AllSync, Failover, MissFailover, WarmUp, ByOperation, End, More, Otherwise, Policy}
use Rattle.route_tree.specs.Word.{Given, rank, given_by, null_reply, failing_reply, plain_get, refill, is_plain_get, IfGet, PlanWord, WordOfAll, WordOfFirst, WordOfHead, WordOfPolicy, IsEnd, Then, GivesOnly, AfterRefill, Refilled, AfterWarm, AfterCold, WarmUpWord}
use Rattle.gate_gaps.specs.Determined.{IsSameCall, Alike, outcomes_of, AreDetermined}

-- ---- lists of calls that go the same way

same_call : (x y : Call) → IsSameCall x y → x.outcome ≡ y.outcome → x ≡ y
same_call x y s o = λ i. record { server = s.server i; ask = s.ask i; origin = s.origin i; outcome = o i }

pub alike_weaker : (E F : Type 0) (xs ys : List Call) → (E → F) → Alike E xs ys → Alike F xs ys
alike_weaker E F [] [] f a = f a
alike_weaker E F [] (y ∷ ys) f a = absurd a
alike_weaker E F (x ∷ xs) [] f a = absurd a
alike_weaker E F (x ∷ xs) (y ∷ ys) f a = (a.0, λ o. alike_weaker E F xs ys f (a.1 o))

pub alike_then : (E F : Type 0) (xs ys more others : List Call) → Alike E xs ys → (xs ≡ ys → E → Alike F more others) → Alike F (xs ++ more) (ys ++ others)
alike_then E F [] [] more others a k = k refl a
alike_then E F [] (y ∷ ys) more others a k = absurd a
alike_then E F (x ∷ xs) [] more others a k = absurd a
alike_then E F (x ∷ xs) (y ∷ ys) more others a k =
    (a.0, λ o. alike_then E F xs ys more others (a.1 o) (λ same e. k (ap₂ (λ c cs. c ∷ cs) (same_call x y a.0 o) same) e))

-- one of them ends where the other may go on
alike_left : (E F : Type 0) (xs ys others : List Call) → Alike E xs ys → (xs ≡ ys → E → Alike F [] others) → Alike F xs (ys ++ others)
alike_left E F xs ys others a k = subst (λ l. Alike F l (ys ++ others)) (append-nil xs) (alike_then E F xs ys [] others a k)

alike_right : (E F : Type 0) (xs ys more : List Call) → Alike E xs ys → (xs ≡ ys → E → Alike F more []) → Alike F (xs ++ more) ys
alike_right E F xs ys more a k = subst (λ l. Alike F (xs ++ more) l) (append-nil ys) (alike_then E F xs ys more [] a k)

both_are : (E : Type 0) (xs ys us vs : List Call) → xs ≡ us → ys ≡ vs → Alike E us vs → Alike E xs ys
both_are E xs ys us vs e f a = subst (λ l. Alike E l ys) (sym e) (subst (λ l. Alike E us l) (sym f) a)

-- ---- parts

abbrev pub Sure : {G : Type 0} → (ℕ → List Call → G → Type 0) → Type 0
Sure {G} part = (b : ℕ) (xs ys : List Call) (g h : G) → part b xs g → part b ys h → Alike (g ≡ h) xs ys

gives_sure : (r : Given) → Sure (GivesOnly r)
gives_sure r b xs ys g h w v = both_are (g ≡ h) xs ys [] [] w.0 v.0 (w.1 ∙ sym v.1)

then_sure : {G H : Type 0} (first : ℕ → List Call → G → Type 0) (second : G → ℕ → List Call → H → Type 0) → Sure first → ((g : G) → Sure (second g)) → Sure (Then first second)
then_sure {G} {H} first second f s b xs ys g h w v =
    both_are (g ≡ h) xs ys (w.0 ++ w.1) (v.0 ++ v.1) w.2 v.2
    (alike_then (w.3 ≡ v.3) (g ≡ h) w.0 v.0 w.1 v.1 (f b w.0 v.0 w.3 v.3 w.4 v.4)
    (λ same e. s w.3 (b + length w.0) w.1 v.1 g h w.5 (subst (λ l. second w.3 (b + length l) v.1 h) (sym same) (subst (λ x. second x (b + length v.0) v.1 h) (sym e) v.5))))

match_sure : (t : Bool) (A B : ℕ → List Call → Given → Type 0) → Sure A → Sure B → Sure (λ b calls given. MatchBool t (A b calls given) (B b calls given))
match_sure true A B f s = f
match_sure false A B f s = s

if_sure : (op : Op) (A B : ℕ → List Call → Given → Type 0) → Sure A → Sure B → Sure (λ b calls given. IfGet op (A b calls given) (B b calls given))
if_sure Get A B f s = f
if_sure _ A B f s = s

module _ (ask : Ask) (cold : ℕ → List Call → Given → Type 0) (warm : ℕ → List Call → Given → Type 0) (add : Answer → ℕ → ℕ → List Call → Given → Type 0) (c : Sure cold) (w : Sure warm) (a : (hit : Answer) (k : ℕ) → Sure (add hit k)) where
  refill_sure : (from_warm : Given) → Sure (AfterRefill ask cold warm add from_warm)
  refill_sure from_warm = match_sure (is_plain_get ask) (GivesOnly from_warm) cold (gives_sure from_warm) c

  refilled_sure : (from_warm : Given) (from : Option ℕ) → Sure (Refilled ask cold warm add from_warm from)
  refilled_sure from_warm None = λ b xs ys g h x y. absurd x
  refilled_sure from_warm (Some k) = then_sure (add from_warm.reply k) (λ _. AfterRefill ask cold warm add from_warm) (a from_warm.reply k) (λ _. refill_sure from_warm)

  warm_sure : (first from_warm : Given) (r : ℕ) → Sure (AfterWarm ask cold warm add first from_warm r)
  warm_sure first from_warm zero = refilled_sure from_warm from_warm.from
  warm_sure first from_warm (suc r) = gives_sure first

  cold_sure : (first : Given) (r : ℕ) → Sure (AfterCold ask cold warm add first r)
  cold_sure first zero = gives_sure first
  cold_sure first (suc r) = then_sure warm (λ from_warm. AfterWarm ask cold warm add first from_warm (rank from_warm)) w (λ from_warm. warm_sure first from_warm (rank from_warm))

  warm_up_sure : Sure (WarmUpWord ask cold warm add)
  warm_up_sure = then_sure cold (λ first. AfterCold ask cold warm add first (rank first)) c (λ first. cold_sure first (rank first))

none_worst : (gs : List Given) (w : Given) (r : ℕ) → IsWorst rank gs w → NoneAbove rank gs r → r < rank w → ⊥
none_worst [] w r is none lt = is
none_worst (g ∷ gs) w r (inl h) none lt = (let e = ap rank h.0 in let n = none.0 in omega arith)
none_worst (g ∷ gs) w r (inr h) none lt = none_worst gs w r h.1 none.1 lt

worst_same : (all : List Given) (x y : Given) → IsWorst rank all x → IsWorst rank all y → x ≡ y
worst_same [] x y h k = absurd h
worst_same (g ∷ gs) x y (inl h) (inl k) = sym h.0 ∙ k.0
worst_same (g ∷ gs) x y (inr h) (inr k) = worst_same gs x y h.1 k.1
worst_same (g ∷ gs) x y (inl h) (inr k) = absurd (none_worst gs y (rank x) k.1 h.1 (let e = ap rank h.0 in let l = k.0 in omega arith))
worst_same (g ∷ gs) x y (inr h) (inl k) = absurd (none_worst gs x (rank y) h.1 k.1 (let e = ap rank k.0 in let l = h.0 in omega arith))

-- a part that ended can't go on
stops : (ps : Plans) (limit : ℕ) (ask : Ask) (origin : Origin) (g x : Given) (b : ℕ) (more : List Call) (h : Given) → (rank g < limit) ⊎ IsEnd ps → limit ≤ rank x → g ≡ x → WordOfFirst ps limit ask origin b more h → ⊥
stops ps limit ask origin g x b more h (inl lt) le e w = (let r = ap rank e in omega arith)
stops End limit ask origin g x b more h (inr end) le e w = w
stops (More p ps) limit ask origin g x b more h (inr end) le e w = end

-- ---- plain trees

mutual
  pub word_sure : (p : Plan) (ask : Ask) (origin : Origin) → Sure (PlanWord p ask origin)
  word_sure (Server t) ask origin b xs ys g h w v =
      both_are (g ≡ h) xs ys _ _ w.2 v.2 (record { server = refl; ask = refl; origin = refl }, λ o. w.3 ∙ ap (given_by b) o ∙ sym v.3)
  word_sure Null ask origin b xs ys g h w v = gives_sure (null_reply ask) b xs ys g h w v
  word_sure Failing ask origin b xs ys g h w v = gives_sure failing_reply b xs ys g h w v
  word_sure (AllSync ps) ask origin b xs ys g h w v =
      alike_weaker (w.0 ≡ v.0) (g ≡ h) xs ys (λ e. worst_same v.0 g h (subst (λ l. IsWorst rank l g) e w.2) v.2) (all_sure ps ask origin b xs ys w.0 v.0 w.1 v.1)
  word_sure (Failover ps) ask origin b xs ys g h w v = first_sure ps 4 ask origin b xs ys g h w v
  word_sure (MissFailover ps) ask origin b xs ys g h w v = if_sure ask.op (WordOfFirst ps 1 ask origin) (WordOfHead ps ask origin) (first_sure ps 1 ask origin) (head_sure ps ask origin) b xs ys g h w v
  word_sure (WarmUp cold warm e) ask origin b xs ys g h w v =
      if_sure ask.op (WarmUpWord ask (PlanWord cold ask origin) (PlanWord warm (plain_get ask) origin) (λ hit k. PlanWord cold (refill ask hit e) (CopyOf k))) (PlanWord cold ask origin)
      (warm_up_sure ask (PlanWord cold ask origin) (PlanWord warm (plain_get ask) origin) (λ hit k. PlanWord cold (refill ask hit e) (CopyOf k)) (word_sure cold ask origin) (word_sure warm (plain_get ask) origin) (λ hit k. word_sure cold (refill ask hit e) (CopyOf k)))
      (word_sure cold ask origin) b xs ys g h w v
  word_sure (ByOperation policies) ask origin b xs ys g h w v = policy_sure policies ask origin b xs ys g h w v

  pub all_sure : (ps : Plans) (ask : Ask) (origin : Origin) → Sure (WordOfAll ps ask origin)
  all_sure End ask origin b xs ys g h w v = both_are (g ≡ h) xs ys [] [] w.0 v.0 (w.1 ∙ sym v.1)
  all_sure (More p ps) ask origin b xs ys g h w v =
      both_are (g ≡ h) xs ys (w.0 ++ w.1) (v.0 ++ v.1) w.2 v.2
      (alike_then (w.3 ≡ v.3) (g ≡ h) w.0 v.0 w.1 v.1 (word_sure p ask origin b w.0 v.0 w.3 v.3 w.4 v.4)
      (λ same e. alike_weaker (w.5 ≡ v.5) (g ≡ h) w.1 v.1 (λ r. w.6 ∙ ap₂ (λ x xs. x ∷ xs) e r ∙ sym v.6)
      (all_sure ps ask origin (b + length w.0) w.1 v.1 w.5 v.5 w.7 (subst (λ l. WordOfAll ps ask origin (b + length l) v.1 v.5) (sym same) v.7))))

  pub first_sure : (ps : Plans) (limit : ℕ) (ask : Ask) (origin : Origin) → Sure (WordOfFirst ps limit ask origin)
  first_sure End limit ask origin b xs ys g h w v = absurd w
  first_sure (More p ps) limit ask origin b xs ys g h (inl w) (inl v) = word_sure p ask origin b xs ys g h w.0 v.0
  first_sure (More p ps) limit ask origin b xs ys g h (inl w) (inr v) =
      subst (λ l. Alike (g ≡ h) xs l) (sym v.2)
      (alike_left (g ≡ v.3) (g ≡ h) xs v.0 v.1 (word_sure p ask origin b xs v.0 g v.3 w.0 v.4) (λ same e. absurd (stops ps limit ask origin g v.3 _ v.1 h w.1 v.5 e v.6)))
  first_sure (More p ps) limit ask origin b xs ys g h (inr w) (inl v) =
      subst (λ l. Alike (g ≡ h) l ys) (sym w.2)
      (alike_right (w.3 ≡ h) (g ≡ h) w.0 ys w.1 (word_sure p ask origin b w.0 ys w.3 h w.4 v.0) (λ same e. absurd (stops ps limit ask origin h w.3 _ w.1 g v.1 w.5 (sym e) w.6)))
  first_sure (More p ps) limit ask origin b xs ys g h (inr w) (inr v) =
      both_are (g ≡ h) xs ys (w.0 ++ w.1) (v.0 ++ v.1) w.2 v.2
      (alike_then (w.3 ≡ v.3) (g ≡ h) w.0 v.0 w.1 v.1 (word_sure p ask origin b w.0 v.0 w.3 v.3 w.4 v.4)
      (λ same e. first_sure ps limit ask origin (b + length w.0) w.1 v.1 g h w.6 (subst (λ l. WordOfFirst ps limit ask origin (b + length l) v.1 h) (sym same) v.6)))

  pub head_sure : (ps : Plans) (ask : Ask) (origin : Origin) → Sure (WordOfHead ps ask origin)
  head_sure End ask origin b xs ys g h w v = absurd w
  head_sure (More p ps) ask origin b xs ys g h w v = word_sure p ask origin b xs ys g h w v

  pub policy_sure : (ps : PlanPolicies) (ask : Ask) (origin : Origin) → Sure (WordOfPolicy ps ask origin)
  policy_sure (Otherwise p) ask origin b xs ys g h w v = word_sure p ask origin b xs ys g h w v
  policy_sure (Policy op p rest) ask origin b xs ys g h w v = match_sure (same_op op ask.op) (PlanWord p ask origin) (WordOfPolicy rest ask origin) (word_sure p ask origin) (policy_sure rest ask origin) b xs ys g h w v

-- ---- the law

next_same : (E : Type 0) (front : List Call) (x y : Call) (xs ys : List Call) → Alike E (front ++ x ∷ xs) (front ++ y ∷ ys) → IsSameCall x y
next_same E [] x y xs ys a = a.0
next_same E (c ∷ front) x y xs ys a = next_same E front x y xs ys (a.1 refl)

none_more : (E : Type 0) (front : List Call) (y : Call) (ys : List Call) → Alike E front (front ++ y ∷ ys) → ⊥
none_more E [] y ys a = a
none_more E (c ∷ front) y ys a = none_more E front y ys (a.1 refl)

abbrev head_of : Outcome → List Outcome → Outcome
head_of o [] = o
head_of o (x ∷ xs) = x

abbrev tail_of : List Outcome → List Outcome
tail_of [] = []
tail_of (x ∷ xs) = xs

pub all_same : (E : Type 0) (xs ys : List Call) → Alike E xs ys → outcomes_of xs ≡ outcomes_of ys → (xs ≡ ys) × E
all_same E [] [] a e = (refl, a)
all_same E [] (y ∷ ys) a e = absurd a
all_same E (x ∷ xs) [] a e = absurd a
all_same E (x ∷ xs) (y ∷ ys) a e =
    let o = ap (head_of x.outcome) e in
    let r = all_same E xs ys (a.1 o) (ap tail_of e) in
    (ap₂ (λ c cs. c ∷ cs) (same_call x y a.0 o) r.0, r.1)

pub are_determined : AreDetermined
are_determined = record {
  alike = λ p ask origin b xs ys g h w v. word_sure p ask origin b xs ys g h w v;
  next = λ p ask origin b front x y xs ys g h w v. next_same (g ≡ h) front x y xs ys (word_sure p ask origin b (front ++ x ∷ xs) (front ++ y ∷ ys) g h w v);
  ends = λ p ask origin b front y ys g h w v. none_more (g ≡ h) front y ys (word_sure p ask origin b front (front ++ y ∷ ys) g h w v);
  whole = λ p ask origin b xs ys g h w v e. all_same (g ≡ h) xs ys (word_sure p ask origin b xs ys g h w v) e;
}
