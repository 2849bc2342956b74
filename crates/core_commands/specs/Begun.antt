-- A command as it begins, and its next call as it goes out. Source: mcgate's own.
use Rattle.std.specs.Prelude.{◌≡◌, ◌↔◌, ℕ, ◌<◌, false, List, Some, if◌then◌else◌, nat_eq}
use Rattle.indexmap.specs.IndexMap as map
use Rattle.mc_types.specs.declared.ask.Ask.{Ask}
use Rattle.mc_types.specs.declared.call.Origin.TheVariants.{Client as OfClient}
use Rattle.fresh_runs.specs.Overlap.{Owner}
use Rattle.fresh_runs.specs.Calls.{Call}
use Rattle.route_tree.specs.At.{tree_at}
use Rattle.route_tree.specs.Route.{Route}
use Rattle.route_tree.specs.Word.{Given, PlanWord}
use Rattle.route_job.specs.Rest.{ask_under, origin_under}
use Rattle.route_job.specs.Jobs.{server_of_pending, Comes}
use Rattle.route_job.specs.declared.job.Job.{Job}
use Rattle.core_commands.specs.declared.claim.Claim.{Claim}
use Rattle.core_commands.specs.declared.command.Command.{Command}
use Rattle.core_commands.specs.declared.ticket.Ticket.{Ticket}

-- whose a command is, and what it asks
abbrev pub owner_by : Command → Owner
owner_by command = record { client = command.client; ask = command.ask }

-- a command of the client for this ask with this claim of its key, of which no call was made
pub record IsBegun (tree : Route) (client : ℕ) (ask : Ask) (claim : Claim) (command : Command) : Type 0 where
  pub owner : owner_by command ≡ record { client = client; ask = ask }
  pub claim_is : command.claim ≡ claim
  pub job : (calls : List Call) (given : Given) → Comes command.job calls given ↔ PlanWord (tree_at tree ask.key) ask OfClient 0 calls given
  pub idle : command.is_out ≡ false

-- one more fits without memory
abbrev pub FitsOneMore : {S : Type 0} → map.IndexMap ℕ Command S → Type 0
FitsOneMore commands = 0 < map.spare commands

-- the command of this number is that one, and every other one stays
abbrev pub PutsCommand : {S : Type 0} → map.IndexMap ℕ Command S → ℕ → Command → map.IndexMap ℕ Command S → ℕ → Type 0
PutsCommand old number command new n = map.get nat_eq new n ≡ (if nat_eq number n then Some command else map.get nat_eq old n)

-- a ticket of this number for the call that a job shows
pub record IsTicketFor (number : ℕ) (job : Job) (ticket : Ticket) : Type 0 where
  pub ask_is : ticket.ask ≡ ask_under job.frames.items job.ask
  pub number_is : ticket.number ≡ number
  pub origin_is : ticket.origin ≡ origin_under job.frames.items OfClient
  pub server_is : ticket.server ≡ server_of_pending job.pending
