-- A word is determined by how its calls end. Source: mcgate's own.
use Rattle.std.specs.Prelude.{◌≡◌, ℕ, List, [], ◌∷◌, ◌++◌, map}
use Rattle.mc_types.specs.declared.ask.Ask.{Ask}
use Rattle.mc_types.specs.declared.call.Origin.{Origin}
use Rattle.mc_types.specs.declared.call.Outcome.{Outcome}
use Rattle.fresh_runs.specs.Calls.{Call}
use Rattle.route_tree.specs.Plan.{Plan}
use Rattle.route_tree.specs.Word.{Given, PlanWord}

-- the two calls are the same, however they ended
pub record IsSameCall (x y : Call) : Type 0 where
  pub server : x.server ≡ y.server
  pub ask : x.ask ≡ y.ask
  pub origin : x.origin ≡ y.origin

-- two lists of calls: the first calls are the same, and where these ended alike so are the next ones; where all did, none is left of either, and this holds
abbrev pub Alike : Type 0 → List Call → List Call → Type 0
Alike E [] [] = E
Alike E [] (y ∷ ys) = ⊥
Alike E (x ∷ xs) [] = ⊥
Alike E (x ∷ xs) (y ∷ ys) = IsSameCall x y × (x.outcome ≡ y.outcome → Alike E xs ys)

-- how the calls ended
abbrev pub outcomes_of : List Call → List Outcome
outcomes_of calls = map (λ (c : Call). c.outcome) calls

-- two words of one plain tree for one ask are alike
abbrev pub WordsAreAlike : Type 0
WordsAreAlike =
    (plain : Plan) (ask : Ask) (origin : Origin) (b : ℕ) (xs ys : List Call) (g h : Given)
    → PlanWord plain ask origin b xs g → PlanWord plain ask origin b ys h → Alike (g ≡ h) xs ys

-- after the same calls, ended alike, the next call is the same
abbrev pub NextIsDetermined : Type 0
NextIsDetermined =
    (plain : Plan) (ask : Ask) (origin : Origin) (b : ℕ) (front : List Call) (x y : Call) (xs ys : List Call) (g h : Given)
    → PlanWord plain ask origin b (front ++ x ∷ xs) g → PlanWord plain ask origin b (front ++ y ∷ ys) h → IsSameCall x y

-- no word goes on after another
abbrev pub NoneGoesOn : Type 0
NoneGoesOn =
    (plain : Plan) (ask : Ask) (origin : Origin) (b : ℕ) (front : List Call) (y : Call) (ys : List Call) (g h : Given)
    → PlanWord plain ask origin b front g → PlanWord plain ask origin b (front ++ y ∷ ys) h → ⊥

-- where all calls end alike, calls and replies are the same
abbrev pub OutcomesDecide : Type 0
OutcomesDecide =
    (plain : Plan) (ask : Ask) (origin : Origin) (b : ℕ) (xs ys : List Call) (g h : Given)
    → PlanWord plain ask origin b xs g → PlanWord plain ask origin b ys h → outcomes_of xs ≡ outcomes_of ys → (xs ≡ ys) × (g ≡ h)

-- a word of a plain tree for an ask is determined by the outcomes of its calls
pub record AreDetermined : Type 0 where
  pub alike : WordsAreAlike
  pub next : NextIsDetermined
  pub ends : NoneGoesOn
  pub whole : OutcomesDecide
