-- Which calls are out in a core, and what each of its calls changes of that. Source: mcgate's own.
use Rattle.std.specs.Prelude.{◌≡◌, ℕ, List, Option, Some, None, option_map, if◌then◌else◌, nat_eq}
use Rattle.mc_types.specs.declared.ask.Ask.{Ask}
use Rattle.mc_types.specs.declared.call.Outcome.{Outcome}
use Rattle.route_tree.specs.Route.{Route}
use Rattle.route_job.specs.Rest.{ask_under}
use Rattle.route_job.specs.Jobs.{server_of_pending}
use Rattle.core_commands.specs.declared.command.Command.{Command}
use Rattle.core_commands.specs.declared.ticket.Ticket.{Ticket}
use Rattle.core_proxy.specs.declared.fault.CoreFault.{CoreFault}
use Rattle.core_proxy.specs.declared.limits.CoreLimits.{CoreLimits}
use Rattle.core_proxy.specs.declared.note.Poll.{Poll}
use Rattle.core_proxy.specs.declared.note.Poll.TheVariants as polls
use Rattle.core_proxy.specs.declared.proxy.Core.{Core}
use Rattle.core_proxy.specs.CoreState.{command_at, has_call_out, Beside, FitsBeside, IsNewCore, Opens, Feeds, GivesAll, ClosesClient, LeavesLine, Reloads}
use Rattle.core_proxy.specs.Faults.{OpenFault}
use Rattle.core_proxy.specs.Polls.{Polls, PollFault}
use Rattle.core_proxy.specs.Settles.{asked, Settles, SettleFault}

-- at which server the command's call is that is out, and what it asks
abbrev pub called_by : Option Command → Option (ℕ × Ask)
called_by None = None
called_by (Some command) = if has_call_out command then Some (server_of_pending command.job.pending, ask_under command.job.frames.items command.job.ask) else None

-- the same of the command of this number
abbrev pub called : Core → ℕ → Option (ℕ × Ask)
called core n = called_by (command_at core n)

-- something can stand beside the core, as the log has it
abbrev pub CanStand : Core → Type 0
CanStand core = (beside : Beside) × FitsBeside core beside

-- each call that is out stays as it is, and no other goes out
pub record KeepsCalls (old new : Core) : Type 0 where
  pub stands : CanStand new
  pub calls : (n : ℕ) → called new n ≡ called old n

-- this call goes out, none of its number was out, and all others stay
pub record GivesCall (old : Core) (ticket : Ticket) (new : Core) : Type 0 where
  pub stands : CanStand new
  pub none : called old ticket.number ≡ None
  pub calls : (n : ℕ) → called new n ≡ (if nat_eq ticket.number n then Some (ticket.server, ticket.ask) else called old n)

-- the call of this number is out no more, and all others stay
pub record EndsCall (old : Core) (number : ℕ) (new : Core) : Type 0 where
  pub stands : CanStand new
  pub calls : (n : ℕ) → called new n ≡ (if nat_eq number n then None else called old n)

abbrev pub PollsCalls : Core → Poll → Core → Type 0
PollsCalls old polls.Idle new = KeepsCalls old new
PollsCalls old polls.Own new = KeepsCalls old new
PollsCalls old polls.Refused new = KeepsCalls old new
PollsCalls old (polls.Call ticket) new = GivesCall old ticket new
PollsCalls old polls.Waiting new = KeepsCalls old new
PollsCalls old polls.Queued new = KeepsCalls old new
PollsCalls old polls.Busy new = KeepsCalls old new
PollsCalls old (polls.Did note) new = KeepsCalls old new

-- a call that is out stays until it is settled, and asks what it asked; until then no other of its number is given out
pub record CallsStay : Type 0 where
  pub asks : (core : Core) (n : ℕ) → asked core n ≡ option_map (λ c. c.1) (called core n)
  pub begins : (tree : Route) (limits : CoreLimits) (core : Core) → IsNewCore tree limits core → CanStand core × ((n : ℕ) → called core n ≡ None)
  pub opens : (old new : Core) (client : ℕ) → CanStand old → Opens old client new → KeepsCalls old new
  pub unopened : (old new : Core) (fault : CoreFault) → CanStand old → OpenFault old fault new → KeepsCalls old new
  pub feeds : (old new : Core) (client : ℕ) (bytes : List ℕ) → CanStand old → Feeds old client bytes new → KeepsCalls old new
  pub gives : (old new : Core) (client : ℕ) (bytes : List ℕ) → CanStand old → GivesAll old client bytes new → KeepsCalls old new
  pub closes : (old new : Core) (client : ℕ) → CanStand old → ClosesClient old client new → KeepsCalls old new
  pub leaves : (old new : Core) (client : ℕ) → CanStand old → LeavesLine old client new → KeepsCalls old new
  pub reloads : (old new : Core) (tree : Route) → CanStand old → Reloads old tree new → KeepsCalls old new
  pub polls : (old new : Core) (client : ℕ) (poll : Poll) → CanStand old → Polls old client poll new → PollsCalls old poll new
  pub stops : (old new : Core) (client : ℕ) (fault : CoreFault) → CanStand old → PollFault old client fault new → KeepsCalls old new
  pub settles : (old new : Core) (number : ℕ) (outcome : Outcome) → CanStand old → Settles old number outcome new → EndsCall old number new
  pub faults : (old new : Core) (number : ℕ) (outcome : Outcome) (fault : CoreFault) → CanStand old → SettleFault old number outcome fault new → EndsCall old number new
