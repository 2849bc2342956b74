-- The first of some children, and the others.
use Rattle.std.proofs.Common.{◌≡◌, ℕ, suc, zero, ◌+◌, ◌≤◌, ◌<◌, Bool, true, false, List, nat_lt, MatchBool, cond, refl, sym, ap, subst, arith}
use Rattle.std.proofs.lemmas.Bool.{le-ltb, lt-ltb, MatchBool-at_true, MatchBool-at_false}
use Rattle.route_tree.specs.Copies.{is_get}
use Rattle.mc_types.specs.declared.ask.Ask.{Ask}
use Rattle.mc_types.specs.declared.ask.Op.{Op}
use Rattle.mc_types.specs.declared.ask.Op.TheVariants.{Get, Gat, Set, Add, Replace, Append, Prepend, Cas, Delete, Incr, Decr, Touch}
use Rattle.mc_types.specs.declared.answer.Answer.{Answer}
use Rattle.mc_types.specs.declared.call.Origin.{Origin}
use Rattle.fresh_runs.specs.Calls.{Call}
use Rattle.route_tree.specs.Operation.{same_op}
use Rattle.route_tree.specs.Plan.{Plan, Plans, PlanPolicies, Otherwise, Policy, End, More, AllSync, plan_count, plan_count_of_all, plan_count_of_policies}
use Rattle.route_tree.specs.Levels.{chosen_plan}
use Rattle.route_tree.specs.Word.{Given, rank, GivesOnly, Then, PlanWord, WordOfFirst, WordOfPolicy, AfterCold, AfterWarm, IfGet}
use Rattle.route_job.specs.Parts.{SameAt, worse, WorstWith, AfterFirst}
use Rattle.route_job.proofs.Same.{same_refl, same_trans, all_begin, worst_more, worst_one, first_begin, choice_true, choice_false}

pub enter_all_is : (ps : Plans) (p : Plan) (qs : Plans) → ps ≡ More p qs → (ask : Ask) (origin : Origin) (b : ℕ) → SameAt b (PlanWord (AllSync ps) ask origin) (Then (PlanWord p ask origin) (WorstWith qs ask origin))
enter_all_is ps p qs e ask origin b = subst (λ x. SameAt b (PlanWord (AllSync x) ask origin) (Then (PlanWord p ask origin) (WorstWith qs ask origin))) (sym e) (all_begin p qs ask origin b)

pub next_of_all_is : (ps : Plans) (p : Plan) (qs : Plans) → ps ≡ More p qs → (ask : Ask) (origin : Origin) (worst : Given) (b : ℕ) → SameAt b (WorstWith ps ask origin worst) (Then (PlanWord p ask origin) (λ g. WorstWith qs ask origin (worse worst g)))
next_of_all_is ps p qs e ask origin worst b = subst (λ x. SameAt b (WorstWith x ask origin worst) (Then (PlanWord p ask origin) (λ g. WorstWith qs ask origin (worse worst g)))) (sym e) (worst_more p qs ask origin worst b)

pub none_of_all_is : (ps : Plans) → ps ≡ End → (ask : Ask) (origin : Origin) (worst : Given) (b : ℕ) → SameAt b (WorstWith ps ask origin worst) (GivesOnly worst)
none_of_all_is ps e ask origin worst b = subst (λ x. SameAt b (WorstWith x ask origin worst) (GivesOnly worst)) (sym e) (worst_one ask origin worst b)

pub enter_first_is : (ps : Plans) (p : Plan) (qs : Plans) → ps ≡ More p qs → (limit : ℕ) (ask : Ask) (origin : Origin) (b : ℕ) → SameAt b (WordOfFirst ps limit ask origin) (Then (PlanWord p ask origin) (AfterFirst qs limit ask origin))
enter_first_is ps p qs e limit ask origin b = subst (λ x. SameAt b (WordOfFirst x limit ask origin) (Then (PlanWord p ask origin) (AfterFirst qs limit ask origin))) (sym e) (first_begin p qs limit ask origin b)

pub good_enough : (ps : Plans) (limit : ℕ) (ask : Ask) (origin : Origin) (g : Given) → rank g < limit → (b : ℕ) → SameAt b (AfterFirst ps limit ask origin g) (GivesOnly g)
good_enough End limit ask origin g lt b calls given = ((λ w. w), (λ w. w))
good_enough (More p ps) limit ask origin g lt b calls given = (
  (λ w. MatchBool-at_true (GivesOnly g b calls given) (WordOfFirst (More p ps) limit ask origin b calls given) (lt-ltb (rank g) limit lt) w),
  (λ w. choice_true (nat_lt (rank g) limit) (GivesOnly g b calls given) (WordOfFirst (More p ps) limit ask origin b calls given) (lt-ltb (rank g) limit lt) w),
)

pub none_left_is : (ps : Plans) → ps ≡ End → (limit : ℕ) (ask : Ask) (origin : Origin) (g : Given) (b : ℕ) → SameAt b (AfterFirst ps limit ask origin g) (GivesOnly g)
none_left_is ps e limit ask origin g b = subst (λ x. SameAt b (AfterFirst x limit ask origin g) (GivesOnly g)) (sym e) (λ calls given. ((λ w. w), (λ w. w)))

goes_to : (p : Plan) (ps : Plans) (limit : ℕ) (ask : Ask) (origin : Origin) (g : Given) → limit ≤ rank g → (b : ℕ) → SameAt b (AfterFirst (More p ps) limit ask origin g) (WordOfFirst (More p ps) limit ask origin)
goes_to p ps limit ask origin g le b calls given = (
  (λ w. MatchBool-at_false (GivesOnly g b calls given) (WordOfFirst (More p ps) limit ask origin b calls given) (le-ltb (rank g) limit le) w),
  (λ w. choice_false (nat_lt (rank g) limit) (GivesOnly g b calls given) (WordOfFirst (More p ps) limit ask origin b calls given) (le-ltb (rank g) limit le) w),
)

pub next_is : (ps : Plans) (p : Plan) (qs : Plans) → ps ≡ More p qs → (limit : ℕ) (ask : Ask) (origin : Origin) (g : Given) → limit ≤ rank g → (b : ℕ) → SameAt b (AfterFirst ps limit ask origin g) (Then (PlanWord p ask origin) (AfterFirst qs limit ask origin))
next_is ps p qs e limit ask origin g le b =
    subst (λ x. SameAt b (AfterFirst x limit ask origin g) (Then (PlanWord p ask origin) (AfterFirst qs limit ask origin))) (sym e)
    (same_trans b (AfterFirst (More p qs) limit ask origin g) (WordOfFirst (More p qs) limit ask origin) (Then (PlanWord p ask origin) (AfterFirst qs limit ask origin)) (goes_to p qs limit ask origin g le b) (first_begin p qs limit ask origin b))

pub count_parts : (ps : Plans) (p : Plan) (qs : Plans) → ps ≡ More p qs → plan_count_of_all ps ≡ plan_count p + plan_count_of_all qs
count_parts ps p qs e = ap plan_count_of_all e

chosen_by : (t : Bool) (p q : Plan) (R : ℕ → List Call → Given → Type 0) (ask : Ask) (origin : Origin) (b : ℕ) → SameAt b R (PlanWord q ask origin) → SameAt b (λ n calls given. MatchBool t (PlanWord p ask origin n calls given) (R n calls given)) (PlanWord (cond t p q) ask origin)
chosen_by true p q R ask origin b h = same_refl b (PlanWord p ask origin)
chosen_by false p q R ask origin b h = h

pub chosen_is : (ps : PlanPolicies) (ask : Ask) (origin : Origin) (b : ℕ) → SameAt b (WordOfPolicy ps ask origin) (PlanWord (chosen_plan ask.op ps) ask origin)
chosen_is (Otherwise p) ask origin b = same_refl b (PlanWord p ask origin)
chosen_is (Policy o p ps) ask origin b = chosen_by (same_op o ask.op) p (chosen_plan ask.op ps) (WordOfPolicy ps ask origin) ask origin b (chosen_is ps ask origin b)

count_by : (t : Bool) (p q : Plan) (n : ℕ) → plan_count q ≤ n → plan_count (cond t p q) ≤ plan_count p + n
count_by true p q n h = omega arith
count_by false p q n h = omega (arith, h)

pub chosen_count : (ps : PlanPolicies) (ask : Ask) → plan_count (chosen_plan ask.op ps) ≤ plan_count_of_policies ps
chosen_count (Otherwise p) ask = omega arith
chosen_count (Policy o p ps) ask = count_by (same_op o ask.op) p (chosen_plan ask.op ps) (plan_count_of_policies ps) (chosen_count ps ask)

pub no_hit : (ask : Ask) (cold warm : ℕ → List Call → Given → Type 0) (add : Answer → ℕ → ℕ → List Call → Given → Type 0) (first g : Given) (r : ℕ) → (r ≡ 0 → ⊥) → (b : ℕ) → SameAt b (AfterWarm ask cold warm add first g r) (GivesOnly first)
no_hit ask cold warm add first g zero isnt b = absurd (isnt refl)
no_hit ask cold warm add first g (suc r) isnt b = same_refl b (GivesOnly first)

pub goes_warm : (ask : Ask) (cold warm : ℕ → List Call → Given → Type 0) (add : Answer → ℕ → ℕ → List Call → Given → Type 0) (first : Given) (r : ℕ) → (r ≡ 0 → ⊥) → (b : ℕ) → SameAt b (AfterCold ask cold warm add first r) (Then warm (λ g. AfterWarm ask cold warm add first g (rank g)))
goes_warm ask cold warm add first zero isnt b = absurd (isnt refl)
goes_warm ask cold warm add first (suc r) isnt b = same_refl b (Then warm (λ g. AfterWarm ask cold warm add first g (rank g)))

-- what holds of a get
pub of_get : (op : Op) (X Y : ℕ → List Call → Given → Type 0) (b : ℕ) → is_get op ≡ true → SameAt b (λ n calls given. IfGet op (X n calls given) (Y n calls given)) X
of_get Get X Y b e = same_refl b X
of_get Gat X Y b e = let h : ⊥ = cc in absurd h
of_get Set X Y b e = let h : ⊥ = cc in absurd h
of_get Add X Y b e = let h : ⊥ = cc in absurd h
of_get Replace X Y b e = let h : ⊥ = cc in absurd h
of_get Append X Y b e = let h : ⊥ = cc in absurd h
of_get Prepend X Y b e = let h : ⊥ = cc in absurd h
of_get Cas X Y b e = let h : ⊥ = cc in absurd h
of_get Delete X Y b e = let h : ⊥ = cc in absurd h
of_get Incr X Y b e = let h : ⊥ = cc in absurd h
of_get Decr X Y b e = let h : ⊥ = cc in absurd h
of_get Touch X Y b e = let h : ⊥ = cc in absurd h

-- what holds of the other operations
pub of_other : (op : Op) (X Y : ℕ → List Call → Given → Type 0) (b : ℕ) → is_get op ≡ false → SameAt b (λ n calls given. IfGet op (X n calls given) (Y n calls given)) Y
of_other Get X Y b e = let h : ⊥ = cc in absurd h
of_other Gat X Y b e = same_refl b Y
of_other Set X Y b e = same_refl b Y
of_other Add X Y b e = same_refl b Y
of_other Replace X Y b e = same_refl b Y
of_other Append X Y b e = same_refl b Y
of_other Prepend X Y b e = same_refl b Y
of_other Cas X Y b e = same_refl b Y
of_other Delete X Y b e = same_refl b Y
of_other Incr X Y b e = same_refl b Y
of_other Decr X Y b e = same_refl b Y
of_other Touch X Y b e = same_refl b Y
