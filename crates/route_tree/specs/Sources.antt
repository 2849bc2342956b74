-- What the calls of a word ask, and whose data they carry. Source: mcgate's own.
use Rattle.std.specs.Prelude.{◌≡◌, ℕ, ◌+◌, ◌≤◌, List, [], ◌∷◌, ◌++◌, length, ◌⊎◌}
use Rattle.mc_types.specs.KeyText.{IsKey}
use Rattle.mc_types.specs.Asks.{IsAsk, HasShapeOf, shape_of, data_limit}
use Rattle.mc_types.specs.declared.ask.Dialect.{Dialect}
use Rattle.mc_types.specs.declared.ask.Dialect.TheVariants.{Classic}
use Rattle.mc_types.specs.declared.ask.Ask.{Ask}
use Rattle.mc_types.specs.declared.answer.Answer.{Answer}
use Rattle.mc_types.specs.declared.call.Origin.{Origin}
use Rattle.mc_types.specs.declared.call.Origin.TheVariants.{Client, CopyOf}
use Rattle.fresh_runs.specs.Calls.{Call}
use Rattle.fresh_runs.specs.Cover.{IsAnswerOf}
use Rattle.route_tree.specs.Plan.{Plan}
use Rattle.route_tree.specs.Word.{Given, PlanWord}

-- an ask that a client can write, but for the ranges of its numbers, which their types keep
pub record IsFormed (ask : Ask) : Type 0 where
  pub key : IsKey ask.key
  pub body : length ask.body ≤ data_limit
  pub shape : HasShapeOf ask (shape_of ask.dialect ask.op)

-- the call carries data of this origin, or of an item that one of the calls before it was answered; these are counted from b
abbrev pub IsSourced : Origin → ℕ → List Call → Call → Type 0
IsSourced origin b before call =
    (call.origin ≡ origin) ⊎ ((i : ℕ) × (answer : Answer) × (call.origin ≡ CopyOf (b + i)) × IsAnswerOf before i answer)

-- each of these calls asks what a server takes, in the classic dialect where the command is of that, and carries such data
abbrev pub AreAsked : Dialect → Origin → ℕ → List Call → List Call → Type 0
AreAsked dialect origin b before [] = Unit {0}
AreAsked dialect origin b before (call ∷ calls) =
    IsFormed call.ask × (dialect ≡ Classic → call.ask.dialect ≡ Classic) × IsSourced origin b before call
    × AreAsked dialect origin b (before ++ call ∷ []) calls

-- each call of a command asks what a server takes, and carries the command's data or those of an item that an earlier call was answered
abbrev pub CallsAreAsked : Type 0
CallsAreAsked =
    (plain : Plan) (ask : Ask) (calls : List Call) (given : Given)
    → IsAsk ask → PlanWord plain ask Client 0 calls given → AreAsked ask.dialect Client 0 [] calls
