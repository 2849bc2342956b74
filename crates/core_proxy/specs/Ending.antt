-- What changes in the core when a command of a client has its reply, nothing is done for a client any more, and a command of such a client is broken off; that each of these is a step of the core is a law. Source: mcgate's own.
use Rattle.std.specs.Prelude.{◌≡◌, ℕ, true, false, [], ◌∷◌, Option, Some, None, if◌then◌else◌, nat_eq}
use Rattle.wire_parts.specs.Sending.{bytes_of}
use Rattle.mc_types.specs.declared.answer.Answer.{Answer}
use Rattle.fresh_runs.specs.Log.{Part}
use Rattle.fresh_runs.specs.Overlap as log
use Rattle.route_job.specs.Jobs.{Comes}
use Rattle.core_client.specs.declared.client.Pending.{Pending}
use Rattle.core_client.specs.declared.client.Client.{Client}
use Rattle.core_commands.specs.declared.command.Command.{Command}
use Rattle.core_proxy.specs.declared.proxy.Core.{Core}
use Rattle.core_client.specs.ClientState.{dialect}
use Rattle.core_client.specs.Replying.{pending_in, replied_in, GoesOnAfter}
use Rattle.core_proxy.specs.CoreState.{client_at, command_at, has_call_out, GoesByEntries, GoesByOne}
use Rattle.core_proxy.specs.Steps.{Turns}

-- the command of this number, whose job is done, is over, and its client's queue has its reply
pub record Ends (old new : Core) (number : ℕ) (a : Command) (x y : Client) (pending : Pending) (reply : Answer) (from : Option ℕ) : Type 0 where
  pub was : command_at old number ≡ Some a
  pub idle : has_call_out a ≡ false
  pub done : Comes a.job [] (record { reply = reply; from = from })
  pub client_was : client_at old a.client ≡ Some x
  pub client_is : client_at new a.client ≡ Some y
  pub others : (c : ℕ) → nat_eq a.client c ≡ false → client_at new c ≡ client_at old c
  pub served : x.dropped ≡ false
  pub there : pending_in number x.queue.items ≡ Some pending
  pub queue : y.queue.items ≡ replied_in number reply x.queue.items
  pub front : GoesOnAfter pending.last x reply y
  pub output : bytes_of y.output ≡ bytes_of x.output
  pub dropped : y.dropped ≡ x.dropped
  pub commands : (n : ℕ) → command_at new n ≡ (if nat_eq number n then None else command_at old n)
  pub tree : new.tree ≡ old.tree
  pub limits : new.limits ≡ old.limits
  pub number_is : new.number ≡ old.number

-- nothing is done for the client any more, and nothing else of it changes
pub record Drops (x y : Client) : Type 0 where
  pub stream : y.stream ≡ x.stream
  pub index : y.index ≡ x.index
  pub waits : y.waits ≡ x.waits
  pub queue : y.queue.items ≡ x.queue.items
  pub output : bytes_of y.output ≡ bytes_of x.output
  pub dropped : y.dropped ≡ true

-- a command of a client for whom nothing is done any more, of which no call is out, is broken off
pub record Frees (old new : Core) (number : ℕ) (a : Command) (x : Client) : Type 0 where
  pub was : command_at old number ≡ Some a
  pub idle : a.is_out ≡ false
  pub client_was : client_at old a.client ≡ Some x
  pub dropped : x.dropped ≡ true
  pub clients : (c : ℕ) → client_at new c ≡ client_at old c
  pub commands : (n : ℕ) → command_at new n ≡ (if nat_eq number n then None else command_at old n)
  pub tree : new.tree ≡ old.tree
  pub limits : new.limits ≡ old.limits
  pub number_is : new.number ≡ old.number

-- a command has its reply
abbrev pub EndingIsAStep : Type 0
EndingIsAStep =
    (old new : Core) (number : ℕ) (a : Command) (x y : Client) (pending : Pending) (reply : Answer) (from : Option ℕ) → Ends old new number a x y pending reply from
    → GoesByEntries old (λ entries. (part : Part dialect) × (part.ask ≡ a.ask) × (entries ≡ log.Ends a.client number part reply from ∷ [])) new

-- a client is dropped
abbrev pub DroppingIsAStep : Type 0
DroppingIsAStep = (old new : Core) (client : ℕ) (x y : Client) → Turns old new client (Some x) (Some y) → Drops x y → GoesByOne old (log.Drops client) new

-- a command of a dropped client is broken off
abbrev pub FreeingIsAStep : Type 0
FreeingIsAStep = (old new : Core) (number : ℕ) (a : Command) (x : Client) → Frees old new number a x → GoesByOne old (log.Frees number) new
