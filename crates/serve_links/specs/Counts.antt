-- How many steps of a walk are so, and that what is counted is just that. Source: mcgate's own.
use Rattle.std.specs.Prelude.{◌≡◌, ℕ, ◌+◌, ◌-◌, ◌^◌, Bool, true, false, List, [], ◌∷◌, ◌++◌, length, min, if◌then◌else◌, ◌&&◌}
use Rattle.mc_types.specs.declared.ask.Op.{Op}
use Rattle.mc_types.specs.declared.call.Outcome.TheVariants.{Answered, Failed}
use Rattle.route_tree.specs.Operation.{same_op}
use Rattle.core_proxy.specs.declared.note.Poll.TheVariants as polls
use Rattle.core_accepted.specs.declared.served.ServedCore.{ServedCore}
use Rattle.core_accepted.specs.declared.tally.CoreTally.{CoreTally}
use Rattle.core_accepted.specs.declared.tally.OpTally.{OpTally}
use Rattle.core_accepted.specs.Tallies.{ReplyKind, TellsError, ShowsItem, Acknowledges, TellsOther, reply_kind, nothing_done, of_op, MakesPlaces}
use Rattle.serve_links.specs.CoreSteps.{Step, Opened, NotOpened, Polled, Settled, Walks}
use Rattle.serve_links.specs.Called.{TellsCallsOut}
use Rattle.serve_links.specs.Talks.{IsOrderly}

-- how many of these steps are so
abbrev pub number_of : (Step → Bool) → List Step → ℕ
number_of is [] = 0
number_of is (step ∷ steps) = if is step then number_of is steps + 1 else number_of is steps

-- as far as a count goes
abbrev pub counted : ℕ → ℕ
counted n = min n (2 ^ 64 - 1)

-- whether two replies are of one kind
abbrev pub same_kind : ReplyKind → ReplyKind → Bool
same_kind TellsError TellsError = true
same_kind ShowsItem ShowsItem = true
same_kind Acknowledges Acknowledges = true
same_kind TellsOther TellsOther = true
same_kind a b = false

-- whether a client was opened by this step
abbrev pub opens_one : Step → Bool
opens_one (Opened client) = true
opens_one step = false

-- whether one was turned away
abbrev pub refuses_one : Step → Bool
refuses_one (NotOpened fault) = true
refuses_one step = false

-- whether a message was refused by this step
abbrev pub refuses_message : Step → Bool
refuses_message (Polled client polls.Refused) = true
refuses_message step = false

-- whether a command has ended by this step
abbrev pub ends_one : Step → Bool
ends_one (Polled client (polls.Did note)) = true
ends_one step = false

-- whether it was of this operation, and its reply of this kind
abbrev pub ends_so : Op → ReplyKind → Step → Bool
ends_so op kind (Polled client (polls.Did note)) = same_kind (reply_kind note) kind && same_op note.ask.op op
ends_so op kind step = false

-- whether a call was given out by this step
abbrev pub calls_one : Step → Bool
calls_one (Polled client (polls.Call ticket)) = true
calls_one step = false

-- whether a call was settled by it, as answered
abbrev pub answers_one : Step → Bool
answers_one (Settled number (Answered answer)) = true
answers_one step = false

-- whether a call was settled by it, as failed
abbrev pub fails_one : Step → Bool
fails_one (Settled number Failed) = true
fails_one step = false

-- how many replies of this kind were counted
abbrev pub count_of : ReplyKind → OpTally → ℕ
count_of TellsError tally = tally.errors
count_of ShowsItem tally = tally.items
count_of Acknowledges tally = tally.acknowledged
count_of TellsOther tally = tally.others

-- by how many of these steps a client was opened is counted, or turned away, or a message refused, or a command has ended, and of each operation by how many with a reply of each kind; and by how many a call was given out
pub record AreCounted (steps : List Step) (tally : CoreTally) : Type 0 where
  pub opened : tally.opened ≡ counted (number_of opens_one steps)
  pub refused : tally.refused ≡ counted (number_of refuses_one steps)
  pub bad_messages : tally.bad_messages ≡ counted (number_of refuses_message steps)
  pub ended : tally.ended ≡ counted (number_of ends_one steps)
  pub calls : tally.calls ≡ counted (number_of calls_one steps)
  pub replies : (op : Op) (kind : ReplyKind) → count_of kind (of_op tally op) ≡ counted (number_of (ends_so op kind) steps)
  pub places : (length tally.items ≡ 12) × (length tally.acknowledged ≡ 12) × (length tally.others ≡ 12) × (length tally.errors ≡ 12)

-- by how many of these steps a call was answered is counted, and by how many one has failed
pub record ResultsAreCounted (steps : List Step) (tally : CoreTally) : Type 0 where
  pub answered : tally.answered ≡ counted (number_of answers_one steps)
  pub failed : tally.failed ≡ counted (number_of fails_one steps)

-- laws of all walks: a core that is new has counted none; and one that has counted the steps before a walk has counted those of the walk after it. So it is with the results of calls where those are settled that are out, as in an orderly walk; a result for which no call was out isn't counted
pub record StepsAreCounted : Type 0 where
  pub begins : (tally : CoreTally) → MakesPlaces nothing_done tally → AreCounted [] tally
  pub goes_on : (steps past : List Step) (old new : ServedCore) → Walks steps old new → AreCounted past old.tally → AreCounted (steps ++ past) new.tally
  pub results_begin : (tally : CoreTally) → MakesPlaces nothing_done tally → ResultsAreCounted [] tally
  pub results_go_on : (steps past : List Step) (old new : ServedCore) → Walks steps old new → TellsCallsOut past old → IsOrderly (steps ++ past) → ResultsAreCounted past old.tally → ResultsAreCounted (steps ++ past) new.tally
