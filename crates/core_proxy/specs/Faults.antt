-- When a call of the core does nothing, and why. Source: mcgate's own.
use Rattle.std.specs.Prelude.{◌≡◌, ℕ, ◌<◌, ◌≤◌, true, false, List, None, MatchOption, IsSome}
use Rattle.slab.specs.Slab.{slab_len}
use Rattle.core_proxy.specs.declared.fault.CoreFault.{CoreFault}
use Rattle.core_proxy.specs.declared.fault.CoreFault.TheVariants as faults
use Rattle.mc_types.specs.declared.limits.TheConstants.{SCRIPT_CLIENTS}
use Rattle.core_proxy.specs.declared.limits.TheConstants.{SCRIPT_HELD}
use Rattle.core_proxy.specs.declared.limits.CoreLimits.{CoreLimits}
use Rattle.core_commands.specs.declared.sharing.Sharing.TheVariants.{Alone}
use Rattle.core_proxy.specs.declared.proxy.Core.{Core}
use Rattle.core_client.specs.Clients.{IsEnded}
use Rattle.core_proxy.specs.Feeding.{HoldsAtMost, RoomFault}
use Rattle.core_proxy.specs.CoreState.{client_at}
pub use Rattle.core_commands.specs.Owned.{has_commands}

abbrev pub script_limits : CoreLimits
script_limits = record { clients = SCRIPT_CLIENTS; held = SCRIPT_HELD; depth = 1; window = 1; sharing = Alone; version = None }

-- nothing is read of the client any more, or there is none
abbrev pub IsClosed : Core → ℕ → Type 0
IsClosed core client = MatchOption (client_at core client) (Unit {0}) IsEnded

abbrev pub HasClient : Core → ℕ → Type 0
HasClient core client = IsSome (client_at core client)

abbrev pub CanOpen : Core → Type 0
CanOpen core = slab_len core.clients < core.limits.clients

abbrev pub CanFeed : Core → ℕ → List ℕ → Type 0
CanFeed core client bytes = MatchOption (client_at core client) ⊥ (λ x. HoldsAtMost core.limits.held x bytes)

abbrev pub CanClose : Core → ℕ → Type 0
CanClose core client = HasClient core client × (has_commands client core.commands ≡ false)

-- all is as it was, but for room for more clients
abbrev pub IsSame : Core → Core → Type 0
IsSame old new = new ≡ record old { clients = record old.clients { capacity = new.clients.capacity } }

abbrev pub OpenFault : Core → CoreFault → Core → Type 0
OpenFault old faults.TooManyClients new = (old.limits.clients ≤ slab_len old.clients) × (new ≡ old)
OpenFault old faults.NoTicket new = ⊥
OpenFault old faults.NoMemory new = IsSame old new
OpenFault old faults.NoClient new = ⊥
OpenFault old faults.InputFull new = ⊥
OpenFault old faults.UnderWay new = ⊥
OpenFault old faults.Spent new = ⊥

abbrev pub FeedFault : Core → ℕ → List ℕ → CoreFault → Type 0
FeedFault core client bytes faults.NoClient = client_at core client ≡ None
FeedFault core client bytes faults.InputFull = MatchOption (client_at core client) ⊥ (λ x. RoomFault core.limits.held x bytes faults.InputFull)
FeedFault core client bytes faults.NoTicket = ⊥
FeedFault core client bytes faults.NoMemory = HasClient core client
FeedFault core client bytes faults.TooManyClients = ⊥
FeedFault core client bytes faults.UnderWay = ⊥
FeedFault core client bytes faults.Spent = ⊥

abbrev pub OutputFault : Core → ℕ → CoreFault → Type 0
OutputFault core client faults.NoClient = client_at core client ≡ None
OutputFault core client faults.NoTicket = ⊥
OutputFault core client faults.NoMemory = HasClient core client
OutputFault core client faults.InputFull = ⊥
OutputFault core client faults.TooManyClients = ⊥
OutputFault core client faults.UnderWay = ⊥
OutputFault core client faults.Spent = ⊥

abbrev pub CloseFault : Core → ℕ → CoreFault → Type 0
CloseFault core client faults.NoClient = client_at core client ≡ None
CloseFault core client faults.UnderWay = HasClient core client × (has_commands client core.commands ≡ true)
CloseFault core client faults.Spent = ⊥
CloseFault core client faults.NoTicket = ⊥
CloseFault core client faults.NoMemory = ⊥
CloseFault core client faults.InputFull = ⊥
CloseFault core client faults.TooManyClients = ⊥
