-- What the core's clients, commands and calls stand for in the log of all that happened, and what each of its calls does. Source: mcgate's own.
use Rattle.std.specs.Prelude.{◌≡◌, ℕ, ◌+◌, ◌<◌, ◌≤◌, ◌↔◌, Bool, true, false, List, [], ◌∷◌, ◌++◌, Option, Some, None, option_map, if◌then◌else◌, nat_eq}
use Rattle.slab.specs.Slab as slab
use Rattle.indexmap.specs.IndexMap as map
use Rattle.mc_types.specs.declared.ask.Ask.{Ask}
use Rattle.mc_types.specs.declared.answer.Answer.{Answer}
use Rattle.mc_types.specs.declared.call.Origin.TheVariants.{Client as OfClient}
use Rattle.mc_types.specs.Items.{Item}
use Rattle.fresh_runs.specs.Calls.{Call}
use Rattle.fresh_runs.specs.Overlap as log
use Rattle.fresh_runs.specs.Overlap.{Slot, Ticket, Entry, Resets, ticket_in, without_ticket, slot_in, is_last_slot}
use Rattle.fresh_runs.specs.OverlapState.{OverlapState, LeadsTo, Leads}
use Rattle.wire_parts.specs.Stream.{Place}
use Rattle.wire_stream.specs.Version.{version_of}
use Rattle.route_tree.specs.At.{tree_at}
use Rattle.route_tree.specs.Route.{Route}
use Rattle.route_tree.specs.Plan.{Plan, IsGoodPlan}
use Rattle.route_tree.specs.Word.{Given, PlanWord, tree_words}
use Rattle.route_job.specs.Jobs.{Comes}
use Rattle.route_job.specs.Rest.{ask_under, origin_under}
use Rattle.route_job.specs.Jobs.{server_of_pending}
use Rattle.core_client.specs.declared.client.Pending.{Pending}
use Rattle.core_client.specs.declared.client.Client.{Client}
use Rattle.core_commands.specs.declared.command.Command.{Command}
use Rattle.core_proxy.specs.declared.limits.CoreLimits.{CoreLimits}
use Rattle.core_commands.specs.declared.sharing.Sharing.{Sharing}
use Rattle.core_proxy.specs.Claims.{claim_by, bars_by}
use Rattle.core_commands.specs.Lines.{others}
use Rattle.core_proxy.specs.declared.proxy.Core.{Core}
use Rattle.core_client.specs.ClientState.{IsSlot}
use Rattle.core_proxy.specs.OutSince.{out_since}
pub use Rattle.core_client.specs.ClientState.{dialect, ClientMessage, front_by, held_by, output_by, dropped_by}
pub use Rattle.core_commands.specs.Begun.{owner_by}
pub use Rattle.core_commands.specs.Out.{is_call, has_call_out}

abbrev pub client_at : Core → ℕ → Option Client
client_at core c = slab.get core.clients c

abbrev pub command_at : Core → ℕ → Option Command
command_at core n = map.get nat_eq core.commands n

-- what no type of the core keeps: the plain trees that commands run by, the commands of each client as the log has them, the calls that are out at each server in
-- order, what servers hold, what the calls of a command found, and how many calls had their results
pub record Beside : Type 0 where
  pub at : ℕ → List ℕ → Plan
  pub queue : ℕ → List (Slot dialect)
  pub out : ℕ → List Ticket
  pub holds : ℕ → List ℕ → Option Item
  pub found : ℕ → List (Option Item)
  pub turn : ℕ

-- which commands the core doesn't let be under way together on one key: by its own rule, and by the plain trees that they run by
abbrev pub bars_of : Core → Beside → ℕ → Ask → ℕ → Ask → Type 0
bars_of core beside = bars_by core.limits.sharing beside.at

-- what may still come of a command
abbrev pub MayComeOf : Option Command → List Call → Answer → Option ℕ → Type 0
MayComeOf None calls reply from = ⊥
MayComeOf (Some command) calls reply from = Comes command.job calls (record { reply = reply; from = from })

-- the text by which the core tells clients of its version
abbrev pub version_by : CoreLimits → List ℕ
version_by limits = version_of limits.version

-- the core and what stands beside it, as the log has them
abbrev pub state_of : Core → Beside → OverlapState dialect
state_of core beside =
    record {
      front = λ c. front_by (client_at core c);
      queue = beside.queue;
      output = λ c. output_by (client_at core c);
      dropped = λ c. dropped_by (client_at core c);
      number = core.number;
      owner = λ n. option_map owner_by (command_at core n);
      to_come = λ n calls reply from. MayComeOf (command_at core n) calls reply from;
      out = beside.out;
      holds = beside.holds;
      found = beside.found;
      turn = beside.turn;
      version = version_by core.limits;
    }

abbrev pub ArePendingSlots : List Pending → List (Slot dialect) → Type 0
ArePendingSlots [] [] = Unit {0}
ArePendingSlots [] (slot ∷ slots) = ⊥
ArePendingSlots (pending ∷ rest) [] = ⊥
ArePendingSlots (pending ∷ rest) (slot ∷ slots) = IsSlot pending slot × ArePendingSlots rest slots

-- where a client waits for a reply, it is that of the last command of its queue, which asks a key of the message at its front
abbrev pub IsAtFront : Client → List (Slot dialect) → Type 0
IsAtFront x [] = x.waits ≡ false
IsAtFront x (slot ∷ []) =
    x.waits ≡ true → (slot.reply ≡ None) × (is_last_slot slot ≡ false) × (slot.index ≡ x.index) × ((next : Place) × dialect.Reads x.stream slot.message next)
IsAtFront x (slot ∷ next ∷ slots) = IsAtFront x (next ∷ slots)

-- only of the last command of its queue a client waits for the reply: where that isn't of the last key of its message, it does
abbrev pub IsWaitedFor : Bool → List (Slot dialect) → Type 0
IsWaitedFor waits [] = Unit {0}
IsWaitedFor waits (slot ∷ slots) = (slot.reply ≡ None → is_last_slot slot ≡ false → (slots ≡ []) × (waits ≡ true)) × IsWaitedFor waits slots

-- these can be the commands of a client
abbrev pub IsQueue : Option Client → List (Slot dialect) → Type 0
IsQueue None slots = slots ≡ []
IsQueue (Some x) slots = ArePendingSlots x.queue.items slots × IsAtFront x slots × IsWaitedFor x.waits slots

-- a command is that of its number in the queue of its client, without a reply; where nothing is done for the client any more, it need not be
abbrev pub IsHeld : ℕ → Command → Option Client → List (Slot dialect) → Type 0
IsHeld n command None slots = ⊥
IsHeld n command (Some x) slots = x.dropped ≡ false → (slot : Slot dialect) × (slot_in slots n ≡ Some slot) × (slot.ask ≡ command.ask) × (slot.reply ≡ None)

-- a command claims of its key what it does by this plain tree; after some calls, what may still come of it is what is left of the words of that tree, of which each outcome goes on
pub record IsOnItsWay (sharing : Sharing) (plan : Plan) (command : Command) : Type 0 where
  pub claim : command.claim ≡ claim_by sharing command.ask.op plan
  pub good : IsGoodPlan plan
  pub before : List Call
  pub rest : (calls : List Call) (given : Given) → Comes command.job calls given ↔ PlanWord plan command.ask OfClient 0 (before ++ calls) given
  pub some : (calls : List Call) × (given : Given) × Comes command.job calls given

-- the ticket at this server of a command of this number
abbrev pub ticket_by : Option Command → ℕ → ℕ → Option Ticket
ticket_by None n s = None
ticket_by (Some command) n s =
    if has_call_out command
    then if nat_eq (server_of_pending command.job.pending) s
    then Some (record { number = n; ask = ask_under command.job.frames.items command.job.ask; origin = origin_under command.job.frames.items OfClient })
    else None
    else None

-- these can stand beside the core: it keeps of clients' commands and of calls that are out what agrees with them, a command has one call out at most, and commands to come have not begun, found nothing, and run by its tree
pub record FitsBeside (core : Core) (beside : Beside) : Type 0 where
  pub queues : (c : ℕ) → IsQueue (client_at core c) (beside.queue c)
  pub held : (n : ℕ) (command : Command) → command_at core n ≡ Some command → IsHeld n command (client_at core command.client) (beside.queue command.client)
  pub numbered : (c n : ℕ) → core.number < n → slot_in (beside.queue c) n ≡ None
  pub to_come : (n : ℕ) (command : Command) → command_at core n ≡ Some command → IsOnItsWay core.limits.sharing (beside.at n command.ask.key) command
  pub tickets : (s n : ℕ) → ticket_in (beside.out s) n ≡ ticket_by (command_at core n) n s
  pub single : (s n : ℕ) → ticket_in (without_ticket n (beside.out s)) n ≡ None
  pub numbers : (n : ℕ) → core.number < n → command_at core n ≡ None
  pub unseen : (n : ℕ) → core.number < n → beside.found n ≡ []
  pub trees : (n : ℕ) (key : List ℕ) → core.number < n → beside.at n key ≡ tree_at core.tree key

-- nothing happened yet: all servers hold their opening items
abbrev pub nothing_beside : (ℕ → List ℕ → Plan) → (ℕ → List ℕ → Option Item) → Beside
nothing_beside at opening = record { at = at; queue = λ c. []; out = λ s. []; holds = opening; found = λ n. []; turn = 0 }

-- a core on this tree where nothing happened yet: the empty log leads to it
pub record IsNewCore (tree : Route) (limits : CoreLimits) (core : Core) : Type 0 where
  pub clients : (c : ℕ) → client_at core c ≡ None
  pub commands : (n : ℕ) → command_at core n ≡ None
  pub lines : core.lines ≡ []
  pub limits_are : core.limits ≡ limits
  pub tree_is : core.tree ≡ tree
  pub number : core.number ≡ 0
  pub generation : core.generation ≡ 1
  pub fits : (at : ℕ → List ℕ → Plan) (opening : ℕ → List ℕ → Option Item) → ((n : ℕ) (key : List ℕ) → 0 < n → at n key ≡ tree_at tree key) → FitsBeside core (nothing_beside at opening)
  pub leads : (at : ℕ → List ℕ → Plan) (opening : ℕ → List ℕ → Option Item) → LeadsTo (tree_words at) (bars_by limits.sharing at) opening [] (state_of core (nothing_beside at opening))

-- servers and trees are the same
pub record IsBeside (old new : Beside) : Type 0 where
  pub at : new.at ≡ old.at
  pub holds : new.holds ≡ old.holds
  pub found : new.found ≡ old.found
  pub turn : new.turn ≡ old.turn

-- by entries of this kind, the latest first, each log that led to the core before, with whatever stood beside it, leads to the core after. Servers and limits stay, and so do the calls that are out but for what the entries tell of them
abbrev pub GoesByEntries : Core → (List (Entry dialect) → Type 0) → Core → Type 0
GoesByEntries old IsKind new =
    (beside : Beside) → FitsBeside old beside
    → (beside' : Beside) × (entries : List (Entry dialect)) × FitsBeside new beside' × IsBeside beside beside' × IsKind entries
    × Leads (tree_words beside.at) (bars_of old beside) (state_of old beside) entries (state_of new beside') × (new.limits ≡ old.limits)
    × ((s : ℕ) → beside'.out s ≡ out_since entries beside.out s)

-- this entry comes
abbrev pub GoesByOne : Core → Entry dialect → Core → Type 0
GoesByOne old entry new = GoesByEntries old (λ entries. entries ≡ entry ∷ []) new

-- commands are under way
abbrev pub IsOut : Core → Type 0
IsOut core = 0 < map.index_map_len core.commands

-- a place that was free is that of a new client, which said nothing
pub record Opens (old : Core) (client : ℕ) (new : Core) : Type 0 where
  pub free : client_at old client ≡ None
  pub opened : (x : Client) × (client_at new client ≡ Some x)
  pub others : (c : ℕ) → nat_eq client c ≡ false → client_at new c ≡ client_at old c
  pub goes : GoesByEntries old (λ entries. entries ≡ []) new

-- a client for whom nothing is done any more takes no piece; every other client's stream goes on by it
abbrev pub FeedsOpen : Bool → Core → ℕ → List ℕ → Core → Type 0
FeedsOpen true old client bytes new = new ≡ old
FeedsOpen false old client bytes new = GoesByOne old (log.Feeds client bytes) new

abbrev pub Feeds : Core → ℕ → List ℕ → Core → Type 0
Feeds old client bytes new = FeedsOpen (dropped_by (client_at old client)) old client bytes new

-- the client is given all its new output
abbrev pub GivesAll : Core → ℕ → List ℕ → Core → Type 0
GivesAll old client bytes new = (bytes ≡ output_by (client_at old client)) × GoesByOne old (log.Gives client bytes) new

-- the client's place is free, and the client stands in no line of a key
abbrev pub ClosesClient : Core → ℕ → Core → Type 0
ClosesClient old client new = (client_at new client ≡ None) × GoesByOne old (Resets client) new × (new.lines ≡ others client old.lines)

-- the client stands in no line of a key, and nothing else changes
abbrev pub LeavesLine : Core → ℕ → Core → Type 0
LeavesLine old client new = (new ≡ record old { lines = others client old.lines }) × GoesByEntries old (λ entries. entries ≡ []) new

-- these are the plain trees of what has begun, and after that of this tree
pub record IsTakenOver (old : Core) (tree : Route) (beside : Beside) (at : ℕ → List ℕ → Plan) : Type 0 where
  pub begun : (n : ℕ) (key : List ℕ) → n ≤ old.number → at n key ≡ beside.at n key
  pub coming : (n : ℕ) (key : List ℕ) → old.number < n → at n key ≡ tree_at tree key

-- commands that begin from now on run by this tree, and all else is as it was. Whatever trees commands ran by, each log that led to the core before leads to the core after, with the plain trees of this one for numbers to come
pub record Reloads (old : Core) (tree : Route) (new : Core) : Type 0 where
  pub core_is : new ≡ record old { tree = tree; generation = old.generation + 1 }
  pub fits : (beside : Beside) (at : ℕ → List ℕ → Plan) → FitsBeside old beside → IsTakenOver old tree beside at → FitsBeside new (record beside { at = at })
  pub leads :
      (beside : Beside) (at : ℕ → List ℕ → Plan) → IsTakenOver old tree beside at
      → (opening : ℕ → List ℕ → Option Item) (log : List (Entry dialect)) → LeadsTo (tree_words beside.at) (bars_of old beside) opening log (state_of old beside) → LeadsTo (tree_words at) (bars_of new (record beside { at = at })) opening log (state_of new (record beside { at = at }))
