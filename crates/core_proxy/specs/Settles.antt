-- What changes in the core when the result of a call comes. Source: mcgate's own.
use Rattle.std.specs.Prelude.{◌≡◌, ℕ, true, false, List, [], ◌∷◌, ◌++◌, map as each, Option, Some, None, if◌then◌else◌, nat_eq}
use Rattle.mc_types.specs.declared.ask.Ask.{Ask}
use Rattle.mc_types.specs.declared.call.Outcome.{Outcome}
use Rattle.mc_types.specs.declared.call.Origin.{Origin}
use Rattle.mc_types.specs.declared.call.Origin.TheVariants.{Client as OfClient}
use Rattle.fresh_runs.specs.Calls.{End, outcome_of}
use Rattle.fresh_runs.specs.Fleet.{EndsIn}
use Rattle.fresh_runs.specs.Single.{FitsOutcome}
use Rattle.fresh_runs.specs.Overlap as log
use Rattle.fresh_runs.specs.Overlap.{Entry, Happens, without_ticket}
use Rattle.fresh_runs.specs.OverlapState.{Leads}
use Rattle.route_tree.specs.Word.{tree_words}
use Rattle.route_job.specs.Rest.{ask_under, origin_under}
use Rattle.route_job.specs.Jobs.{server_of_pending}
use Rattle.core_client.specs.declared.client.Client.{Client}
use Rattle.core_commands.specs.declared.command.Command.{Command}
use Rattle.core_proxy.specs.declared.fault.CoreFault.{CoreFault}
use Rattle.core_proxy.specs.declared.fault.CoreFault.TheVariants as faults
use Rattle.core_proxy.specs.declared.proxy.Core.{Core}
use Rattle.core_client.specs.ClientState.{dialect, output_by, dropped_by}
use Rattle.core_proxy.specs.CoreState.{bars_of, client_at, command_at, Beside, state_of, has_call_out, FitsBeside, IsBeside, GoesByEntries}
use Rattle.core_proxy.specs.Steps.{event_of_call, settled_beside}
use Rattle.core_proxy.specs.Ending.{Drops}
use Rattle.core_commands.specs.Lines as line
pub use Rattle.core_commands.specs.Outcomes.{TakesOutcome, asked_by, IsOutAs}
pub use Rattle.core_commands.specs.Owned.{is_idle, HasIdle, IsAllOut}

-- the outcome fits the ask of this core's call of this number, if one is out
abbrev pub FitsCall : Core → ℕ → Outcome → Type 0
FitsCall core number outcome = (a : Command) → command_at core number ≡ Some a → has_call_out a ≡ true → FitsOutcome (ask_under a.job.frames.items a.job.ask) outcome

-- what this core's call of this number asks, if one is out
abbrev pub asked : Core → ℕ → Option Ask
asked core number = asked_by (command_at core number)

-- this call of the core is out
pub record IsCalled (core : Core) (number server : ℕ) (ask : Ask) (origin : Origin) : Type 0 where
  pub command : Command
  pub was : command_at core number ≡ Some command
  pub is : IsOutAs command server ask origin

-- no call of this number is out
abbrev pub IsNotOut : Core → ℕ → Type 0
IsNotOut core number = (a : Command) → command_at core number ≡ Some a → has_call_out a ≡ false

-- the call of this number that is out had this outcome: however it ended, if its server held what agrees with that, the log goes on by it, and after it by entries of this kind
abbrev pub SettlesBy : Core → ℕ → Command → Outcome → (List (Entry dialect) → Type 0) → Core → Type 0
SettlesBy old number a outcome IsMore new =
    (beside : Beside) (end : End) → FitsBeside old beside → outcome ≡ outcome_of end
    → EndsIn (beside.holds (server_of_pending a.job.pending) (ask_under a.job.frames.items a.job.ask).key) (beside.found number) number (ask_under a.job.frames.items a.job.ask) (origin_under a.job.frames.items OfClient) end
    → (beside' : Beside) × (more : List (Entry dialect)) × FitsBeside new beside' × IsBeside (settled_beside (event_of_call number a end) beside) beside' × IsMore more
    × Leads (tree_words beside.at) (bars_of old beside) (state_of old beside) (more ++ Happens (event_of_call number a end) ∷ []) (state_of new beside') × (new.limits ≡ old.limits)

-- the call of this number that was out is out no more, and all others stay: whatever could stand beside the core, the same without that call can
abbrev pub StandsWithout : Core → ℕ → Command → Core → Type 0
StandsWithout old number a new =
    (beside : Beside) → FitsBeside old beside
    → (beside' : Beside) × FitsBeside new beside' × ((s : ℕ) → beside'.out s ≡ (if nat_eq (server_of_pending a.job.pending) s then without_ticket number (beside.out s) else beside.out s))

-- the command of this number has the result of its call; where nothing is done for its client any more, it is broken off
pub record Settles (old : Core) (number : ℕ) (outcome : Outcome) (new : Core) : Type 0 where
  pub command : Command
  pub was : command_at old number ≡ Some command
  pub out : has_call_out command ≡ true
  pub goes : SettlesBy old number command outcome (λ more. more ≡ (if dropped_by (client_at old command.client) then log.Frees number ∷ [] else [])) new
  pub stands : StandsWithout old number command new
  pub idle : IsNotOut new number
  pub others : (n : ℕ) → nat_eq number n ≡ false → command_at new n ≡ command_at old n
  pub clients : (c : ℕ) → client_at new c ≡ client_at old c
  pub lines : new.lines ≡ old.lines

-- these are numbers of commands of this client of which no call is out
abbrev pub AreIdle : Core → ℕ → List ℕ → Type 0
AreIdle core client [] = Unit {0}
AreIdle core client (n ∷ numbers) = HasIdle client core.commands n × AreIdle core client numbers

abbrev pub HasNoIdle : Core → ℕ → Type 0
HasNoIdle core client = IsAllOut client core.commands

-- the commands of these numbers are broken off
abbrev pub freed : List ℕ → List (Entry dialect)
freed numbers = each log.Frees numbers

-- of the commands of a client for whom nothing is done any more some were broken off, of which no call is out; the calls that are out stay
pub record FreesSome (old : Core) (client : ℕ) (new : Core) : Type 0 where
  pub numbers : List ℕ
  pub idle : AreIdle old client numbers
  pub goes : dropped_by (client_at old client) ≡ true → GoesByEntries old (λ entries. entries ≡ freed numbers) new
  pub kept : (n : ℕ) (command : Command) → command_at new n ≡ Some command → command_at old n ≡ Some command
  pub calls : (n : ℕ) → asked new n ≡ asked old n
  pub clients : (c : ℕ) → client_at new c ≡ client_at old c
  pub tree : new.tree ≡ old.tree
  pub limits : new.limits ≡ old.limits
  pub number : new.number ≡ old.number
  pub lines : new.lines ≡ old.lines

-- all commands of a client for whom nothing is done any more, of which no call is out, were broken off
abbrev pub FreesIdle : Core → ℕ → Core → Type 0
FreesIdle old client new = FreesSome old client new × HasNoIdle new client

-- nothing is done for the client any more, if it is there
abbrev pub DropsBy : Option Client → Option Client → Type 0
DropsBy None now = now ≡ None
DropsBy (Some x) now = (y : Client) × (now ≡ Some y) × Drops x y

-- a command was taken out, and nothing is done for its client any more, which stands in no line of a key
pub record TakesOut (old : Core) (number client : ℕ) (new : Core) : Type 0 where
  pub commands : (n : ℕ) → command_at new n ≡ (if nat_eq number n then None else command_at old n)
  pub client_is : DropsBy (client_at old client) (client_at new client)
  pub others : (c : ℕ) → nat_eq client c ≡ false → client_at new c ≡ client_at old c
  pub tree : new.tree ≡ old.tree
  pub limits : new.limits ≡ old.limits
  pub number_is : new.number ≡ old.number
  pub lines : new.lines ≡ line.others client old.lines

-- memory was refused: the command of this number has the result of its call all the same, nothing is done for its client any more, which keeps its output and stands in no line of a key, and its commands of which no call is out are broken off; of the calls that are out each but this one stays
pub record SettlesRefused (old : Core) (number : ℕ) (outcome : Outcome) (new : Core) : Type 0 where
  pub command : Command
  pub was : command_at old number ≡ Some command
  pub out : has_call_out command ≡ true
  pub numbers : List ℕ
  pub are : AreIdle old command.client numbers
  pub goes : SettlesBy old number command outcome (λ more. more ≡ freed numbers ++ log.Frees number ∷ log.Drops command.client ∷ []) new
  pub stands : StandsWithout old number command new
  pub gone : HasNoIdle new command.client
  pub others : (n : ℕ) → nat_eq number n ≡ false → asked new n ≡ asked old n
  pub output : (c : ℕ) → output_by (client_at new c) ≡ output_by (client_at old c)
  pub lines : new.lines ≡ line.others command.client old.lines

abbrev pub SettleFault : Core → ℕ → Outcome → CoreFault → Core → Type 0
SettleFault old number outcome faults.NoTicket new = IsNotOut old number × (new ≡ old)
SettleFault old number outcome faults.NoMemory new = SettlesRefused old number outcome new
SettleFault old number outcome faults.TooManyClients new = ⊥
SettleFault old number outcome faults.NoClient new = ⊥
SettleFault old number outcome faults.InputFull new = ⊥
SettleFault old number outcome faults.UnderWay new = ⊥
SettleFault old number outcome faults.Spent new = ⊥
