-- How a proxy that serves goes on: by turns, and by loads of configurations. Source: mcgate's own.
use Rattle.std.specs.Prelude.{◌≡◌, ℕ, ◌⊎◌, Bool, true, false, List, Option, IsSome, Ok}
use Rattle.serde_json.specs.Read.{read}
use Rattle.route_json.specs.Servers.{Addresses}
use Rattle.route_json.specs.Configs.{read_after}
use Rattle.route_json.specs.Configuration.{Configuration}
use Rattle.core_accepted.specs.declared.served.ServedCore.{ServedCore}
use Rattle.core_accepted.specs.Loading.{IsLoaded}
use Rattle.serve_wire.specs.Events.{WireEvent}
use Rattle.serve_links.specs.CoreSteps.{Step, Opened, NotOpened, Fed, Polled, Stopped, Settled, Gave, Closed, LeftLine, Broke, Ticked, Loaded, Linked, Asked, Greeted, Spelled, Late, CameLate, Lost, Noted}
use Rattle.serve_links.specs.Story.{AnEnd}
use Rattle.serve_proxy.specs.declared.proxy.ProxyEnd.{ProxyEnd}
use Rattle.serve_proxy.specs.Ends.{end_of, AllGrow}
use Rattle.mcgate_serve.specs.InFleet.{StandsBeside, in_use_after}

-- the text says this configuration, whose servers are numbered after these
abbrev pub TextSaysAfter : Addresses → List ℕ → Configuration → Type 0
TextSaysAfter servers text configuration = read_after servers (read text) ≡ Ok (configuration.tree, configuration.servers)

-- any call of a turn, or a load of a configuration that some text says
abbrev pub IsServeStep : Step → Type 0
IsServeStep (Loaded configuration generation) = (servers : Addresses) × (text : List ℕ) × TextSaysAfter servers text configuration
IsServeStep (Opened client) = Unit {0}
IsServeStep (NotOpened fault) = Unit {0}
IsServeStep (Fed client piece) = Unit {0}
IsServeStep (Polled client poll) = Unit {0}
IsServeStep (Stopped client fault) = Unit {0}
IsServeStep (Settled number outcome) = Unit {0}
IsServeStep (Gave client bytes) = Unit {0}
IsServeStep (Closed client) = Unit {0}
IsServeStep (LeftLine client) = Unit {0}
IsServeStep (Ticked now) = Unit {0}
IsServeStep (Broke client) = Unit {0}
IsServeStep (Linked at dialect) = Unit {0}
IsServeStep (Asked at number dialect ask since) = Unit {0}
IsServeStep (Greeted at dialect bytes) = Unit {0}
IsServeStep (Noted at obstacle) = Unit {0}
IsServeStep (Late at number limit now) = Unit {0}
IsServeStep (CameLate at number ask answer bytes) = Unit {0}
IsServeStep (Spelled at number ask answer bytes) = Unit {0}
IsServeStep (Lost at why limit) = IsSome why

-- a proxy's core, and the ends of clients and servers beside it, over a wire of this history
abbrev pub proxy_of : {W : Type 0} → (W → List WireEvent) → ProxyEnd W → AnEnd
proxy_of history end = end_of history end.core.value end.sockets

-- turns and such loads, one after another, and the ends of clients and servers go on with them
abbrev pub GoesOnServing : {W : Type 0} → (W → List WireEvent) → ProxyEnd W → ProxyEnd W → Type 0
GoesOnServing history old new = AllGrow IsServeStep (proxy_of history old) (proxy_of history new)

-- nothing is done, or this configuration is loaded
abbrev pub MayLoad : Configuration → ServedCore → ServedCore → Type 0
MayLoad configuration old new = (new ≡ old) ⊎ ((generation : ℕ) × IsLoaded old configuration generation new)

-- this configuration is loaded, in a fleet beside the one that was in use
abbrev pub LoadsBeside : (used : Option Configuration) → Configuration → ServedCore → ServedCore → Type 0
LoadsBeside used configuration old new = StandsBeside used configuration × ((generation : ℕ) × IsLoaded old configuration generation new)

-- nothing is done, or it is loaded so
abbrev pub MayLoadBeside : (used : Option Configuration) → Configuration → ServedCore → ServedCore → Type 0
MayLoadBeside used configuration old new = (new ≡ old) ⊎ LoadsBeside used configuration old new

-- nothing is done, or the configuration that this text says is loaded, in a fleet beside the one that was in use
abbrev pub MayLoadText : (used : Option Configuration) → Addresses → List ℕ → ServedCore → ServedCore → Type 0
MayLoadText used servers text old new = (new ≡ old) ⊎ ((configuration : Configuration) × TextSaysAfter servers text configuration × LoadsBeside used configuration old new)

-- it is loaded so, and in use; or nothing is done, and what was in use is
abbrev pub LoadsOne : Bool → Configuration → (used in_use : Option Configuration) → ServedCore → ServedCore → Type 0
LoadsOne true configuration used in_use old new = LoadsBeside used configuration old new × (in_use ≡ in_use_after used configuration)
LoadsOne false configuration used in_use old new = (new ≡ old) × (in_use ≡ used)

-- nothing is done, and what was in use is; or the configuration that this text says is loaded so, and in use
abbrev pub LoadsText : (used in_use : Option Configuration) → Addresses → List ℕ → ServedCore → ServedCore → Type 0
LoadsText used in_use servers text old new =
    ((new ≡ old) × (in_use ≡ used)) ⊎ ((configuration : Configuration) × TextSaysAfter servers text configuration × LoadsBeside used configuration old new × (in_use ≡ in_use_after used configuration))
