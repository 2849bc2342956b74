-- How many calls of a server a walk tells of, and that what is counted is just that. Source: mcgate's own.
use Rattle.std.specs.Prelude.{◌≡◌, ℕ, ◌+◌, Bool, false, List, [], ◌∷◌, ◌++◌, Option, Some, None, if◌then◌else◌, nat_eq, ◌&&◌}
use Rattle.mc_types.specs.declared.ask.Ask.{Ask}
use Rattle.core_proxy.specs.declared.note.Poll.TheVariants as polls
use Rattle.core_accepted.specs.declared.tally.CoreTally.{CoreTally}
use Rattle.core_accepted.specs.declared.tally.ServerTally.{ServerTally}
use Rattle.core_accepted.specs.declared.served.ServedCore.{ServedCore}
use Rattle.core_accepted.specs.Tallies.{of_server, nothing_done, MakesPlaces}
use Rattle.serve_links.specs.CoreSteps.{Step, Polled, Settled, Walks}
use Rattle.serve_links.specs.Called.{call_in, TellsCallsOut}
use Rattle.serve_links.specs.Talks.{IsOrderly}
use Rattle.serve_links.specs.Counts.{number_of, counted, answers_one, fails_one}

-- whether a call of this server was given out by a step
abbrev pub calls_server : (server : ℕ) → Step → Bool
calls_server server (Polled client (polls.Call ticket)) = nat_eq ticket.server server
calls_server server step = false

-- whether this call is one of this server
abbrev pub is_at : (server : ℕ) → Option (ℕ × Ask) → Bool
is_at server None = false
is_at server (Some call) = nat_eq call.0 server

-- whether a step settled a call of this server so, which was out after the steps before it
abbrev pub settles_at : (Step → Bool) → (server : ℕ) → Step → List Step → Bool
settles_at is server (Settled number outcome) past = is (Settled number outcome) && is_at server (call_in past number)
settles_at is server step past = false

-- how many of these steps did
abbrev pub settled_at : (Step → Bool) → (server : ℕ) → List Step → ℕ
settled_at is server [] = 0
settled_at is server (step ∷ past) = if settles_at is server step past then settled_at is server past + 1 else settled_at is server past

-- by how many of these steps a call of this server was given out is counted, and by how many one of them was answered, and has failed
pub record IsCountedAt (server : ℕ) (steps : List Step) (tally : ServerTally) : Type 0 where
  pub calls : tally.calls ≡ counted (number_of (calls_server server) steps)
  pub answered : tally.answered ≡ counted (settled_at answers_one server steps)
  pub failed : tally.failed ≡ counted (settled_at fails_one server steps)

-- so it is of each server, where none was counted at no server
abbrev pub AreCountedByServer : List Step → CoreTally → Type 0
AreCountedByServer steps tally = tally.unplaced ≡ 0 → (server : ℕ) → IsCountedAt server steps (of_server tally server)

-- laws of all walks in which those calls are settled that are out, as in an orderly walk: a core that is new has counted none of any server; and one that has counted the steps before a walk by server has counted those of the walk after it
pub record StepsAreCountedByServer : Type 0 where
  pub begins : (tally : CoreTally) → MakesPlaces nothing_done tally → AreCountedByServer [] tally
  pub goes_on :
      (steps past : List Step) (old new : ServedCore) → Walks steps old new → TellsCallsOut past old → IsOrderly (steps ++ past) → AreCountedByServer past old.tally → AreCountedByServer (steps ++ past) new.tally
