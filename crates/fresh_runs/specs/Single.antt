-- The words of a single server for each key: one call, whatever comes of it. Source: mcgate's own.
use Rattle.std.specs.Prelude.{◌≡◌, ℕ, List, [], ◌∷◌, Option, Some, None, if◌then◌else◌}
use Rattle.mc_types.specs.declared.ask.Ask.{Ask}
use Rattle.mc_types.specs.declared.answer.Answer.{Answer}
use Rattle.mc_types.specs.declared.answer.Answer.TheVariants.{ServerError}
use Rattle.mc_types.specs.declared.call.Origin.TheVariants.{Client}
use Rattle.mc_types.specs.declared.call.Outcome.{Outcome}
use Rattle.mc_types.specs.declared.call.Outcome.TheVariants.{Answered, Failed}
use Rattle.mc_types.specs.declared.error_text.OwnText.TheVariants.{CallFailed}
use Rattle.mc_types.specs.ErrorTexts.{own_text}
use Rattle.mc_types.specs.Asks.{IsAsk}
use Rattle.mc_types.specs.Fits.{Fits}
use Rattle.mc_types.specs.Shows.{shows}
use Rattle.fresh_runs.specs.Calls.{Call}

-- an answer fits the ask; a call may always fail
abbrev pub FitsOutcome : Ask → Outcome → Type 0
FitsOutcome ask (Answered answer) = Fits ask answer
FitsOutcome ask Failed = Unit {0}

-- what the client is answered
abbrev pub reply_of : Outcome → Answer
reply_of (Answered answer) = answer
reply_of Failed = ServerError (own_text CallFailed)

-- the call whose item is shown, where the answer shows one
abbrev pub from_of : Outcome → Option ℕ
from_of (Answered answer) = if shows answer then Some 0 else None
from_of Failed = None

-- the call of the key's server
abbrev pub server_call : (List ℕ → ℕ) → Ask → Outcome → Call
server_call server_of ask outcome = record { server = server_of ask.key; ask = ask; origin = Client; outcome = outcome }

-- the ask, which is one that a client can write, is passed to the key's server, and its answer is the reply
abbrev pub server_words : (List ℕ → ℕ) → ℕ → Ask → List Call → Answer → Option ℕ → Type 0
server_words server_of number ask calls reply from =
    IsAsk ask × (outcome : Outcome) × FitsOutcome ask outcome
    × (calls ≡ server_call server_of ask outcome ∷ []) × (reply ≡ reply_of outcome) × (from ≡ from_of outcome)
