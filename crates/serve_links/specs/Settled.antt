-- The answers that are settled of the bytes that a link holds, and what is left of them. Source: mcgate's own.
use Rattle.std.specs.Prelude.{◌≡◌, ◌≢◌, ℕ, ◌++◌, ◌⊎◌, List, [], ◌∷◌, drop, Some}
use Rattle.mc_types.specs.declared.answer.Answer.{Answer}
use Rattle.mc_types.specs.declared.call.Outcome.TheVariants.{Answered}
use Rattle.core_accepted.specs.declared.served.ServedCore.{ServedCore}
use Rattle.serve_links.specs.declared.calls.calls.SentCall.{SentCall}
use Rattle.serve_links.specs.Calls.{AnswersFirst, AwaitsFirst, IsForeignToFirst, SettlesFirst}

-- nothing is held, or what is held is cut before the end of the first call's answer
abbrev pub HoldsNoAnswer : List SentCall → List ℕ → ServedCore → Type 0
HoldsNoAnswer sent bytes core = (bytes ≡ []) ⊎ AwaitsFirst sent bytes core.core

-- something is held, and it begins no answer to the first call, if one is out
pub record HoldsForeign (sent : List SentCall) (bytes : List ℕ) (core : ServedCore) : Type 0 where
  pub some : bytes ≢ []
  pub foreign : IsForeignToFirst sent bytes core.core

-- the bytes begin with this answer to the first call, as a part of them tells: the call is settled by it, what the answer takes goes, and the core goes on by that alone
pub record SettlesOne (sent : List SentCall) (bytes : List ℕ) (core : ServedCore) (answer : Answer) (sent' : List SentCall) (bytes' : List ℕ) (core' : ServedCore) : Type 0 where
  pub front : List ℕ
  pub more : List ℕ
  pub whole : bytes ≡ front ++ more
  pub used : ℕ
  pub answers : AnswersFirst sent front core.core answer used
  pub rest : bytes' ≡ drop used front ++ more
  pub client : ℕ
  pub settles : SettlesFirst sent core (Answered answer) (Some client) sent' core'

-- the bytes begin with these answers, each to the first call that is out then: the calls are settled by them, one after another, what the answers take goes, and nothing else is done
abbrev pub SettlesEach : List Answer → List SentCall → List ℕ → ServedCore → List SentCall → List ℕ → ServedCore → Type 0
SettlesEach [] sent bytes core sent' bytes' core' = (sent' ≡ sent) × (bytes' ≡ bytes) × (core' ≡ core)
SettlesEach (answer ∷ answers) sent bytes core sent' bytes' core' =
    (s : List SentCall) × (b : List ℕ) × (c : ServedCore) × SettlesOne sent bytes core answer s b c × SettlesEach answers s b c sent' bytes' core'

-- calls are settled by some answers, or none, one after another: the bytes begin with what spells them, and the others are left
pub record SettlesSome (sent : List SentCall) (bytes : List ℕ) (core : ServedCore) (sent' : List SentCall) (bytes' : List ℕ) (core' : ServedCore) : Type 0 where
  pub answers : List Answer
  pub each : SettlesEach answers sent bytes core sent' bytes' core'
  pub spelled : List ℕ
  pub bytes_are : bytes ≡ spelled ++ bytes'
