-- What polls and results add to each log that may have led to a core that is served. Source: mcgate's own.
use Rattle.std.specs.Prelude.{◌≡◌, ℕ, List, [], ◌∷◌, ◌++◌, Option, Some, IfSome, ◌⊎◌, if◌then◌else◌}
use Rattle.mc_types.specs.Items.{Item}
use Rattle.mc_types.specs.declared.call.Outcome.{Outcome}
use Rattle.mc_types.specs.declared.call.Origin.TheVariants.{Client as OfClient}
use Rattle.fresh_runs.specs.Calls.{End, outcome_of}
use Rattle.fresh_runs.specs.Fleet.{EndsIn}
use Rattle.fresh_runs.specs.Overlap as log
use Rattle.fresh_runs.specs.Overlap.{Entry, Happens}
use Rattle.route_job.specs.Rest.{ask_under, origin_under}
use Rattle.route_job.specs.Jobs.{server_of_pending}
use Rattle.core_commands.specs.declared.command.Command.{Command}
use Rattle.core_proxy.specs.declared.fault.CoreFault.{CoreFault}
use Rattle.core_proxy.specs.declared.fault.CoreFault.TheVariants as faults
use Rattle.core_proxy.specs.declared.note.Poll.{Poll}
use Rattle.core_proxy.specs.declared.proxy.Core.{Core}
use Rattle.core_proxy.specs.CoreState.{dialect, client_at, command_at, dropped_by, IsBeside}
use Rattle.core_proxy.specs.Steps.{event_of_call, settled_beside}
use Rattle.core_proxy.specs.Settles.{IsNotOut, Settles, SettlesRefused, freed}
use Rattle.core_proxy.specs.Polls.{StopsPolling, SoFar, EntriesThen, Perhaps, BeginsOne, IsPolled}
use Rattle.core_accepted.specs.declared.tally.CoreTally.{CoreTally}
use Rattle.core_accepted.specs.declared.served.ServedCore.{ServedCore}
use Rattle.core_accepted.specs.Logs.{MayHaveLed, LogsGoCounting, LogsGoBy}
use Rattle.core_accepted.specs.Tallies.{with_poll, with_outcome}

-- each log stays, and so it is counted
abbrev pub StaysCounting : (CoreTally → CoreTally) → ServedCore → ServedCore → Type 0
StaysCounting count old new = LogsGoCounting count old (λ entries. entries ≡ []) new

-- a poll told this: each log goes on by it, a command may have begun before it, and one that ended is counted, and a call that was given out
abbrev pub PollGoes : ServedCore → ℕ → Poll → ServedCore → Type 0
PollGoes old client poll new = LogsGoCounting (with_poll poll) old (EntriesThen (Perhaps (BeginsOne client)) (IsPolled client poll)) new

-- memory was refused in a poll: nothing is done for the client any more
pub record StopsFor (old : ServedCore) (client : ℕ) (new : ServedCore) : Type 0 where
  pub stops : StopsPolling old.core client new.core
  pub goes : LogsGoBy old (EntriesThen (SoFar client) (λ entries. entries ≡ freed stops.numbers ++ log.Drops client ∷ [])) new

-- after a fault of a poll all is as it was, but where memory was refused
abbrev pub PollStops : ServedCore → ℕ → CoreFault → ServedCore → Type 0
PollStops old client faults.NoMemory new = StopsFor old client new
PollStops old client faults.NoClient new = new ≡ old
PollStops old client faults.Spent new = new ≡ old
PollStops old client faults.TooManyClients new = new ≡ old
PollStops old client faults.InputFull new = new ≡ old
PollStops old client faults.UnderWay new = new ≡ old
PollStops old client faults.NoTicket new = new ≡ old

-- a call had this outcome: however it ended, if its server held what agrees with that, each log that may have led to the core before goes on by it, and after it by entries of this kind
abbrev pub SettlesOn : ServedCore → ℕ → Command → Outcome → (List (Entry dialect) → Type 0) → ServedCore → Type 0
SettlesOn old number a outcome IsMore new =
    (opening : ℕ → List ℕ → Option Item) (past : List (Entry dialect)) (led : MayHaveLed opening past old) (end : End) → outcome ≡ outcome_of end
    → EndsIn (led.beside.holds (server_of_pending a.job.pending) (ask_under a.job.frames.items a.job.ask).key) (led.beside.found number) number (ask_under a.job.frames.items a.job.ask) (origin_under a.job.frames.items OfClient) end
    → (more : List (Entry dialect)) × IsMore more × (led' : MayHaveLed opening ((more ++ Happens (event_of_call number a end) ∷ []) ++ past) new) × IsBeside (settled_beside (event_of_call number a end) led.beside) led'.beside

-- the call of this number is one of this server's, if it is out
abbrev pub IsCallAt : Core → ℕ → ℕ → Type 0
IsCallAt core number server = (command : Command) × (command_at core number ≡ Some command) × (server ≡ server_of_pending command.job.pending)

-- a call of this command had this outcome, which is counted, at the call's server if that was found
pub record CountsResult (command : Command) (outcome : Outcome) (old new : CoreTally) : Type 0 where
  pub server : Option ℕ
  pub found : IfSome server (λ at. at ≡ server_of_pending command.job.pending)
  pub tally : new ≡ with_outcome server outcome old

-- the command of this number has the result of its call, which is counted; where nothing is done for its client any more, it is broken off
pub record TakesResult (old : ServedCore) (number : ℕ) (outcome : Outcome) (new : ServedCore) : Type 0 where
  pub word : new.accepted ≡ old.accepted
  pub settles : Settles old.core number outcome new.core
  pub counts : CountsResult settles.command outcome old.tally new.tally
  pub goes : SettlesOn old number settles.command outcome (λ more. more ≡ (if dropped_by (client_at old.core settles.command.client) then log.Frees number ∷ [] else [])) new

-- memory was refused: the command of this number has the result all the same, which is counted, and nothing is done for its client any more
pub record BreaksWith (old : ServedCore) (number : ℕ) (outcome : Outcome) (new : ServedCore) : Type 0 where
  pub word : new.accepted ≡ old.accepted
  pub breaks : SettlesRefused old.core number outcome new.core
  pub counts : CountsResult breaks.command outcome old.tally new.tally
  pub goes : SettlesOn old number breaks.command outcome (λ more. more ≡ freed breaks.numbers ++ log.Frees number ∷ log.Drops breaks.command.client ∷ []) new

-- no call of this number was out, and all is as it was; or memory was refused
abbrev pub SettleStops : ServedCore → ℕ → Outcome → CoreFault → ServedCore → Type 0
SettleStops old number outcome faults.NoMemory new = BreaksWith old number outcome new
SettleStops old number outcome faults.NoTicket new = IsNotOut old.core number × (new ≡ old)
SettleStops old number outcome faults.TooManyClients new = ⊥
SettleStops old number outcome faults.NoClient new = ⊥
SettleStops old number outcome faults.InputFull new = ⊥
SettleStops old number outcome faults.UnderWay new = ⊥
SettleStops old number outcome faults.Spent new = ⊥

-- the core went on by this call's outcome, also where memory was refused; a call that isn't out changes nothing
abbrev pub IsSettled : ServedCore → ℕ → Outcome → ServedCore → Type 0
IsSettled old number outcome new = TakesResult old number outcome new ⊎ ((fault : CoreFault) × SettleStops old number outcome fault new)
