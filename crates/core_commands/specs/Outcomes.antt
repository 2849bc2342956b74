-- The call of a command that is out, and what changes where it has its outcome. Source: mcgate's own.
use Rattle.std.specs.Prelude.{◌≡◌, ◌↔◌, ℕ, true, false, List, ◌∷◌, Option, Some, None, if◌then◌else◌}
use Rattle.mc_types.specs.declared.ask.Ask.{Ask}
use Rattle.mc_types.specs.declared.call.Outcome.{Outcome}
use Rattle.mc_types.specs.declared.call.Origin.{Origin}
use Rattle.mc_types.specs.declared.call.Origin.TheVariants.{Client as OfClient}
use Rattle.fresh_runs.specs.Calls.{Call}
use Rattle.route_tree.specs.Word.{Given}
use Rattle.route_job.specs.Rest.{ask_under, origin_under}
use Rattle.route_job.specs.Jobs.{server_of_pending, call_of, Comes}
use Rattle.core_commands.specs.declared.command.Command.{Command}
use Rattle.core_commands.specs.Begun.{owner_by}
use Rattle.core_commands.specs.Out.{has_call_out}

-- what the command's call that is out asks
abbrev pub asked_by : Option Command → Option Ask
asked_by None = None
asked_by (Some a) = if has_call_out a then Some (ask_under a.job.frames.items a.job.ask) else None

-- the call of a command that is out
pub record IsOutAs (command : Command) (server : ℕ) (ask : Ask) (origin : Origin) : Type 0 where
  pub out : has_call_out command ≡ true
  pub server_is : server ≡ server_of_pending command.job.pending
  pub ask_is : ask ≡ ask_under command.job.frames.items command.job.ask
  pub origin_is : origin ≡ origin_under command.job.frames.items OfClient

-- a command took the outcome of its call, which is out no more
pub record TakesOutcome (a : Command) (outcome : Outcome) (b : Command) : Type 0 where
  pub owner : owner_by b ≡ owner_by a
  pub claim : b.claim ≡ a.claim
  pub idle : b.is_out ≡ false
  pub rest : (calls : List Call) (given : Given) → Comes b.job calls given ↔ Comes a.job (call_of a.job outcome ∷ calls) given
