-- What changes in the table of commands where a call goes out or has its outcome. Source: mcgate's own.
use Rattle.std.specs.Prelude.{◌≡◌, ℕ, true, false, Option, Some, None, if◌then◌else◌, nat_eq}
use Rattle.indexmap.specs.IndexMap as map
use Rattle.mc_types.specs.declared.call.Outcome.{Outcome}
use Rattle.route_job.specs.Jobs.{IsCalling}
use Rattle.core_commands.specs.declared.command.Command.{Command}
use Rattle.core_commands.specs.declared.ticket.Ticket.{Ticket}
use Rattle.core_commands.specs.Begun.{IsTicketFor}
use Rattle.core_commands.specs.Counts.{ByNumber}
use Rattle.core_commands.specs.Out.{has_call_out}
use Rattle.core_commands.specs.Outcomes.{TakesOutcome}

-- the command of this number has a next call, and none out
pub record IsAtCall (commands : ByNumber) (number : ℕ) : Type 0 where
  pub command : Command
  pub was : map.get nat_eq commands number ≡ Some command
  pub idle : command.is_out ≡ false
  pub calling : IsCalling command.job

-- in the place of this command stands that one, and every other one stays
abbrev pub Replaces : ByNumber → ℕ → Command → ByNumber → Type 0
Replaces old number command new = (n : ℕ) → map.get nat_eq new n ≡ (if nat_eq number n then Some command else map.get nat_eq old n)

-- the next call of the command of this number is out
pub record CallsOut (old : ByNumber) (number : ℕ) (ticket : Ticket) (new : ByNumber) : Type 0 where
  pub command : Command
  pub was : map.get nat_eq old number ≡ Some command
  pub is : IsTicketFor number command.job ticket
  pub out : Replaces old number (record command { is_out = true }) new

-- whose call of this number is out
abbrev pub IsCallerOf : ByNumber → ℕ → Option ℕ → Type 0
IsCallerOf commands number None = (a : Command) → map.get nat_eq commands number ≡ Some a → has_call_out a ≡ false
IsCallerOf commands number (Some client) = (a : Command) × (map.get nat_eq commands number ≡ Some a) × (has_call_out a ≡ true) × (client ≡ a.client)

-- the command of this number took the outcome of its call, and if so, as a command takes it
pub record TakesAt (old : ByNumber) (number : ℕ) (outcome : Outcome) (OnTaken : Type 0 → Type 0) (new : ByNumber) : Type 0 where
  pub before : Command
  pub after : Command
  pub was : map.get nat_eq old number ≡ Some before
  pub replaces : Replaces old number after new
  pub takes : OnTaken (TakesOutcome before outcome after)
