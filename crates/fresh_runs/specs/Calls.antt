-- Calls of commands to servers: how they end, and what they leave. Source: mcgate's own.
use Rattle.std.specs.Prelude.{◌≡◌, ℕ, List, [], ◌∷◌, Option, IfSome}
use Rattle.mc_types.specs.declared.ask.Ask.{Ask}
use Rattle.mc_types.specs.declared.answer.Answer.{Answer}
use Rattle.mc_types.specs.declared.call.Origin.{Origin}
use Rattle.mc_types.specs.declared.call.Outcome.{Outcome}
use Rattle.mc_types.specs.declared.call.Outcome.TheVariants.{Answered, Failed}
use Rattle.mc_types.specs.Items.{Item, after_call}
use Rattle.fresh_runs.specs.Life.{Mark, Applied}

-- one call of a command, and how it ended for the proxy
pub record Call : Type 0 where
  pub server : ℕ
  pub ask : Ask
  pub origin : Origin
  pub outcome : Outcome

-- the words of each command, by its number and its ask: which calls it may make, in order, and which reply they give, with the call whose item it shows
abbrev pub Words : Type 1
Words = ℕ → Ask → List Call → Answer → Option ℕ → Type 0

-- how a call ended: answered; applied, with the answer lost; or never applied
pub data End : Type 0 where
  Read : (stamp : ℕ) (answer : Answer) (spaces : ℕ) → End
  Unread : (stamp : ℕ) (answer : Answer) (spaces : ℕ) → End
  Never : End

-- what the proxy sees of it
abbrev pub outcome_of : End → Outcome
outcome_of (Read stamp answer spaces) = Answered answer
outcome_of (Unread stamp answer spaces) = Failed
outcome_of Never = Failed

-- the marks that a call leaves in its server's life
abbrev pub marks_of : Ask → End → List Mark
marks_of ask (Read stamp answer spaces) = Applied ask stamp answer spaces ∷ []
marks_of ask (Unread stamp answer spaces) = Applied ask stamp answer spaces ∷ []
marks_of ask Never = []

-- what the call of an ask leaves of its key
abbrev pub left_after_end : Ask → End → Option Item → Option Item
left_after_end ask (Read stamp answer spaces) before = after_call ask stamp answer spaces before
left_after_end ask (Unread stamp answer spaces) before = after_call ask stamp answer spaces before
left_after_end ask Never before = before

-- what was there before the run is older than every command
abbrev pub OpensAtZero : (ℕ → List ℕ → Option Item) → Type 0
OpensAtZero opening = (server : ℕ) (key : List ℕ) → IfSome (opening server key) (λ item. item.stamp ≡ 0)
