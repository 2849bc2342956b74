-- What changes in the core when a command of a client begins, its call goes out and has its result, and its reply is shown; that each of these is a step of the core is a law. Source: mcgate's own.
use Rattle.std.specs.Prelude.{◌≡◌, ◌↔◌, ℕ, ◌+◌, true, false, List, [], ◌∷◌, ◌++◌, Option, Some, if◌then◌else◌, nat_eq}
use Rattle.wire_parts.specs.Sending.{bytes_of}
use Rattle.mc_types.specs.Asks.{IsAsk}
use Rattle.mc_types.specs.declared.answer.Answer.{Answer}
use Rattle.mc_types.specs.declared.call.Outcome.{Outcome}
use Rattle.mc_types.specs.declared.call.Origin.TheVariants.{Client as OfClient}
use Rattle.fresh_runs.specs.Calls.{Call, End, outcome_of}
use Rattle.fresh_runs.specs.Fleet.{EndsIn}
use Rattle.fresh_runs.specs.Single.{FitsOutcome}
use Rattle.fresh_runs.specs.Log.{Part}
use Rattle.fresh_runs.specs.Run.{Event, Calls, after_event}
use Rattle.fresh_runs.specs.Overlap.{Slot, Starts, Sends, Happens, Shows, Passes, after_start, part_slot, IsNext, out_after}
use Rattle.fresh_runs.specs.OverlapState.{Leads, found_after}
use Rattle.wire_parts.specs.Stream.{Place}
use Rattle.route_tree.specs.At.{tree_at}
use Rattle.route_tree.specs.Route.{IsTree}
use Rattle.route_tree.specs.Word.{Given, PlanWord, tree_words}
use Rattle.route_job.specs.Rest.{ask_under, origin_under}
use Rattle.route_job.specs.Jobs.{server_of_pending, call_of, Comes, IsCalling}
use Rattle.core_client.specs.declared.client.Pending.{Pending}
use Rattle.core_client.specs.declared.client.Client.{Client}
use Rattle.core_commands.specs.declared.command.Command.{Command}
use Rattle.core_proxy.specs.declared.proxy.Core.{Core}
use Rattle.core_proxy.specs.Claims.{claim_by, is_barred}
use Rattle.core_client.specs.Clients.{has_own}
use Rattle.core_client.specs.ClientState.{dialect, ClientMessage, front_by, IsSlot}
use Rattle.core_client.specs.Fronts.{PassesOne}
use Rattle.core_client.specs.Heads.{ShowsHead}
use Rattle.core_proxy.specs.CoreState.{bars_of, client_at, command_at, Beside, owner_by, state_of, FitsBeside, GoesByEntries, GoesByOne, version_by}

-- one client's place changed, and nothing else of the core but the room for clients and the lines of keys
pub record Turns (old new : Core) (client : ℕ) (a b : Option Client) : Type 0 where
  pub was : client_at old client ≡ a
  pub is : client_at new client ≡ b
  pub others : (c : ℕ) → nat_eq client c ≡ false → client_at new c ≡ client_at old c
  pub commands : (n : ℕ) → command_at new n ≡ command_at old n
  pub tree : new.tree ≡ old.tree
  pub limits : new.limits ≡ old.limits
  pub number : new.number ≡ old.number

-- the core began a command of a client: this key of the message at its front
pub record BeginsCommand (old new : Core) (client : ℕ) (x y : Client) (part : Part dialect) (pending : Pending) (command : Command) : Type 0 where
  pub was : client_at old client ≡ Some x
  pub is : client_at new client ≡ Some y
  pub others : (c : ℕ) → nat_eq client c ≡ false → client_at new c ≡ client_at old c
  pub next : IsNext (front_by (Some x)) part
  pub served : x.dropped ≡ false
  -- no command of the client on its key is without a reply, and none under way stands in the way of what it claims
  pub first : has_own part.ask.key x.queue.items ≡ false
  pub apart : is_barred part.ask.key command.claim old.commands ≡ false
  -- the client goes on, with one command more
  pub front : front_by (Some y) ≡ after_start (front_by (Some x)) part
  pub queue : y.queue.items ≡ x.queue.items ++ pending ∷ []
  pub output : bytes_of y.output ≡ bytes_of x.output
  pub dropped : y.dropped ≡ x.dropped
  pub slot : IsSlot pending (part_slot (old.number + 1) part)
  -- the command is under way, and no call of it is out
  pub owner : owner_by command ≡ record { client = client; ask = part.ask }
  pub claim : command.claim ≡ claim_by old.limits.sharing part.ask.op (tree_at old.tree part.ask.key)
  pub asks : IsAsk part.ask
  pub tree_is : IsTree old.tree
  pub job : (calls : List Call) (given : Given) → Comes command.job calls given ↔ PlanWord (tree_at old.tree part.ask.key) part.ask OfClient 0 calls given
  pub idle : command.is_out ≡ false
  pub commands : (n : ℕ) → command_at new n ≡ (if nat_eq (old.number + 1) n then Some command else command_at old n)
  pub tree : new.tree ≡ old.tree
  pub limits : new.limits ≡ old.limits
  pub number : new.number ≡ old.number + 1

-- a command's next call goes out
pub record SendsOut (old new : Core) (number : ℕ) (a : Command) : Type 0 where
  pub was : command_at old number ≡ Some a
  pub idle : a.is_out ≡ false
  pub calling : IsCalling a.job
  pub commands : (n : ℕ) → command_at new n ≡ (if nat_eq number n then Some (record a { is_out = true }) else command_at old n)
  pub clients : (c : ℕ) → client_at new c ≡ client_at old c
  pub tree : new.tree ≡ old.tree
  pub limits : new.limits ≡ old.limits
  pub number_is : new.number ≡ old.number

-- the command of this number took the outcome of its call, which is out no more
pub record Resolves (old new : Core) (number : ℕ) (a b : Command) (outcome : Outcome) : Type 0 where
  pub was : command_at old number ≡ Some a
  pub waiting : a.is_out ≡ true
  pub calling : IsCalling a.job
  pub fits : FitsOutcome (ask_under a.job.frames.items a.job.ask) outcome
  pub commands : (n : ℕ) → command_at new n ≡ (if nat_eq number n then Some b else command_at old n)
  pub idle : b.is_out ≡ false
  pub owner : owner_by b ≡ owner_by a
  pub claim : b.claim ≡ a.claim
  pub rest : (calls : List Call) (given : Given) → Comes b.job calls given ↔ Comes a.job (call_of a.job outcome ∷ calls) given
  pub clients : (c : ℕ) → client_at new c ≡ client_at old c
  pub tree : new.tree ≡ old.tree
  pub limits : new.limits ≡ old.limits
  pub number_is : new.number ≡ old.number

-- a message that asks no server is passed
abbrev pub PassingIsAStep : Type 0
PassingIsAStep =
    (old new : Core) (client : ℕ) (x y : Client) (message : ClientMessage) (next : Place) → Turns old new client (Some x) (Some y) → PassesOne (version_by old.limits) x message next y → GoesByOne old (Passes client message next) new

-- a command begins
abbrev pub BeginningIsAStep : Type 0
BeginningIsAStep =
    (old new : Core) (client : ℕ) (x y : Client) (part : Part dialect) (pending : Pending) (command : Command) → BeginsCommand old new client x y part pending command → GoesByOne old (Starts client (old.number + 1) part) new

-- a command's call goes out
abbrev pub SendingIsAStep : Type 0
SendingIsAStep =
    (old new : Core) (number : ℕ) (a : Command) → SendsOut old new number a
    → GoesByOne old (Sends number (server_of_pending a.job.pending) (ask_under a.job.frames.items a.job.ask) (origin_under a.job.frames.items OfClient)) new

-- what the call of a command is, with this end
abbrev pub event_of_call : ℕ → Command → End → Event
event_of_call number a end = Calls number (server_of_pending a.job.pending) (ask_under a.job.frames.items a.job.ask) (origin_under a.job.frames.items OfClient) end

-- what stands beside the core after this event
abbrev pub settled_beside : Event → Beside → Beside
settled_beside event beside =
    record beside {
      out = λ s. out_after event s (beside.out s);
      holds = after_event event beside.holds;
      found = found_after event beside.holds beside.found;
      turn = beside.turn + 1;
    }

-- a command's call has its result, where what the server held agrees with that
abbrev pub SettlingIsAStep : Type 0
SettlingIsAStep =
    (old new : Core) (number : ℕ) (a b : Command) (outcome : Outcome) → Resolves old new number a b outcome
    → (beside : Beside) (end : End) → FitsBeside old beside → outcome ≡ outcome_of end
    → EndsIn (beside.holds (server_of_pending a.job.pending) (ask_under a.job.frames.items a.job.ask).key) (beside.found number) number (ask_under a.job.frames.items a.job.ask) (origin_under a.job.frames.items OfClient) end
    → FitsBeside new (settled_beside (event_of_call number a end) beside)
    × Leads (tree_words beside.at) (bars_of old beside) (state_of old beside) (Happens (event_of_call number a end) ∷ []) (state_of new (settled_beside (event_of_call number a end) beside))

-- the reply at the head of a client's commands is shown
abbrev pub ShowingIsAStep : Type 0
ShowingIsAStep =
    (old new : Core) (client : ℕ) (x y : Client) (pending : Pending) (reply : Answer) → Turns old new client (Some x) (Some y) → ShowsHead x pending reply y
    → GoesByEntries old (λ entries. (slot : Slot dialect) × (slot.number ≡ pending.number) × (entries ≡ Shows client slot reply ∷ [])) new
