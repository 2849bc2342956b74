-- What holds of every word of a plain tree.
use Rattle.route_tree.specs.declared.limits.TheConstants.{ROUTE_LIMIT}
use Rattle.std.specs.Prelude.{◌≡◌, ◌≢◌, ◌↔◌, ℕ, ◌≤◌, List, ◌∷◌, ◌++◌, Option, length}
use Rattle.mc_types.specs.declared.ask.Op.TheVariants.{Get, Delete}
use Rattle.mc_types.specs.declared.ask.Ask.{Ask}
use Rattle.mc_types.specs.declared.answer.Answer.{Answer}
use Rattle.mc_types.specs.declared.call.Origin.{Origin}
use Rattle.mc_types.specs.declared.call.Outcome.{Outcome}
use Rattle.fresh_runs.specs.Calls.{Call}
use Rattle.fresh_runs.specs.Single.{FitsOutcome, server_words}
use Rattle.fresh_runs.specs.Cover.{ShowsWhatItFound}
use Rattle.route_tree.specs.Each.{Each}
use Rattle.route_tree.specs.Plan.{Plan, IsGoodPlan, IsPlan, Server, plan_count}
use Rattle.route_tree.specs.Word.{Given, PlanWord, tree_words}

-- for an operation other than get each call passes on the very ask, with data of the same origin
abbrev pub AskIsPassedOn : Type 0
AskIsPassedOn =
    (plain : Plan) (ask : Ask) (origin : Origin) (b : ℕ) (calls : List Call) (given : Given)
    → ask.op ≢ Get → PlanWord plain ask origin b calls given → Each (λ call. (call.ask ≡ ask) × (call.origin ≡ origin)) calls

-- a delete asks servers for nothing but deletes
abbrev pub DeletesAskDeletes : Type 0
DeletesAskDeletes =
    (plain : Plan) (ask : Ask) (origin : Origin) (b : ℕ) (calls : List Call) (given : Given)
    → ask.op ≡ Delete → PlanWord plain ask origin b calls given → Each (λ call. call.ask.op ≡ Delete) calls

-- each plain tree without empty lists has a word for each ask
abbrev pub EachAskHasAWord : Type 0
EachAskHasAWord =
    (plain : Plan) (ask : Ask) (origin : Origin) (b : ℕ) → IsGoodPlan plain → (calls : List Call) × (given : Given) × PlanWord plain ask origin b calls given

-- the call with another outcome
abbrev pub ended : Call → Outcome → Call
ended call outcome = record { server = call.server; ask = call.ask; origin = call.origin; outcome = outcome }

-- Whatever a call of a word is answered, there is a word that goes on from there: the calls before it are the same.
abbrev pub EachOutcomeGoesOn : Type 0
EachOutcomeGoesOn =
    (plain : Plan) (ask : Ask) (origin : Origin) (b : ℕ) (front : List Call) (call : Call) (back : List Call) (given : Given) (outcome : Outcome)
    → IsGoodPlan plain → PlanWord plain ask origin b (front ++ call ∷ back) given → FitsOutcome call.ask outcome
    → (rest : List Call) × (other : Given) × PlanWord plain ask origin b (front ++ ended call outcome ∷ rest) other

-- a word has at most as many calls as its plain tree has routes, each counted three times for every cold that it stands in
abbrev pub CallsAreWithin : Type 0
CallsAreWithin =
    (plain : Plan) (ask : Ask) (origin : Origin) (b : ℕ) (calls : List Call) (given : Given)
    → PlanWord plain ask origin b calls given → (length calls ≤ plan_count plain) × (IsPlan plain → length calls ≤ ROUTE_LIMIT)

-- each reply shows no part of an item, or is the answer of the call that it names
abbrev pub RepliesShowWhatWasFound : Type 0
RepliesShowWhatWasFound = (at : ℕ → List ℕ → Plan) → ShowsWhatItFound (tree_words at)

-- the words of a plain tree that is one server are one call of it, whatever comes of it
abbrev pub OneServerIsOneCall : Type 0
OneServerIsOneCall =
    (server_of : List ℕ → ℕ) (number : ℕ) (ask : Ask) (calls : List Call) (reply : Answer) (from : Option ℕ)
    → tree_words (λ n key. Server (server_of key)) number ask calls reply from ↔ server_words server_of number ask calls reply from
