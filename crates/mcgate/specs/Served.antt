-- How a proxy that serves begins, and what it was in the end. Source: mcgate's own.
use Rattle.std.specs.Prelude.{◌≡◌, ℕ, Bool, true, false, List, [], Option, Some, None}
use Rattle.mc_types.specs.Items.{Item}
use Rattle.route_json.specs.Servers.{Addresses}
use Rattle.route_json.specs.Configuration.{Configuration}
use Rattle.route_tree.specs.Route.{Route}
use Rattle.gate_check.specs.Sound.{IsLast}
use Rattle.core_accepted.specs.declared.served.ServedCore.{ServedCore}
use Rattle.serve_links.specs.declared.settings.Settings.{Settings}
use Rattle.serve_wire.specs.Events.{WireEvent}
use Rattle.serve_wire.specs.declared.sockets.sockets.Sockets.{Sockets}
use Rattle.serve_links.specs.CoreSteps.{Step}
use Rattle.serve_links.specs.Story.{Agrees, texts_of}
use Rattle.serve_links.specs.Counts.{AreCounted, ResultsAreCounted}
use Rattle.serve_links.specs.ByServer.{AreCountedByServer}
use Rattle.serve_links.specs.InOrder.{AreFreshAlong}
use Rattle.serve_proxy.specs.declared.proxy.ProxyEnd.{ProxyEnd}
use Rattle.serve_proxy.specs.Beginning.{BeginsFresh, BeginsUnchecked}
use Rattle.core_accepted.specs.declared.beginnings.Beginnings.{Beginnings}
use Rattle.core_accepted.specs.Logs.{IsAcceptedSince, EveryLogSinceIsFresh, BeginSo}
use Rattle.core_accepted.specs.LateCores.{EveryLateLogSinceIsFresh}
use Rattle.serve_proxy.specs.LogsGoOn.{LogsGoFreshly}
use Rattle.core_accepted.specs.Copying.{CopiesNothing}
use Rattle.mcgate_serve.specs.Serves.{proxy_of, GoesOnServing}
use Rattle.mcgate_serve.specs.Limits.{UseTexts}
use Rattle.mcgate_serve.specs.LooksUp.{AreLookedUp}
use Rattle.serve_links.specs.Lateness.{usual_limits}
use Rattle.mcgate.specs.Sharing.{sharing_for}
use Rattle.mcgate.specs.declared.serve.Servable.{Servable}
use Rattle.mcgate.specs.declared.serve.Servable.TheVariants as servables
use Rattle.mcgate.specs.declared.serve.Judged.{Judged}
use Rattle.mcgate.specs.declared.serve.Judged.TheVariants as judgements

-- all that has happened on its sockets, the latest first
abbrev pub history_of : Sockets → List WireEvent
history_of wire = wire.log.events

-- it is a new core on the trees that the gate accepted, where servers began so; or on the configuration's tree, of which no gate was asked
abbrev pub BeginsBy : Servable → Beginnings → Settings → ServedCore → Type 0
BeginsBy (servables.Accepted accepted) begun settings core = BeginsFresh accepted begun settings core
BeginsBy (servables.Unchecked configuration) begun settings core = BeginsUnchecked configuration.tree settings core

-- this is its tree: of configurations that the gate accepted, that of the last one
abbrev pub HasTree : Servable → Route → Type 0
HasTree (servables.Accepted accepted) tree = (configuration : Configuration) × IsLast accepted configuration × (tree ≡ configuration.tree)
HasTree (servables.Unchecked configuration) tree = tree ≡ configuration.tree

-- it may be served, in a fleet as by its tree no command copies; or it is told why not
abbrev pub ServesIn : (fleet : Bool) → Servable → Judged → Type 0
ServesIn fleet servable (judgements.Servable served) = (served ≡ servable) × (fleet ≡ true → (tree : Route) × HasTree servable tree × CopiesNothing tree)
ServesIn fleet servable (judgements.Printed status) = status ≡ 1

-- in a fleet its configuration is the one in use, and else none is known
abbrev pub IsUsedFirst : (fleet : Bool) → Servable → Option Configuration → Type 0
IsUsedFirst fleet servable None = fleet ≡ false
IsUsedFirst fleet servable (Some used) = HasTree servable used.tree

-- it is a new core on the trees that the gate accepted, where servers began so, or on the configuration's tree, of which no gate was asked: by these settings, but that commands share their keys by the rule for its tree
abbrev pub BeginsToServe : Servable → Beginnings → Settings → ServedCore → Type 0
BeginsToServe servable begun settings core = (tree : Route) × HasTree servable tree × BeginsBy servable begun (record settings { sharing = sharing_for tree }) core

-- these are its servers: of configurations that the gate accepted, those of the last one
abbrev pub HasServers : Servable → Addresses → Type 0
HasServers (servables.Accepted accepted) servers = (configuration : Configuration) × IsLast accepted configuration × (servers ≡ configuration.servers)
HasServers (servables.Unchecked configuration) servers = servers ≡ configuration.servers

-- an end of a proxy that begins with a new core of this: nothing was fed or given, each link is to its server, whose text was looked up, and no link has a connection
pub record BeginsServing (servable : Servable) (begun : Beginnings) (settings : Settings) (end : ProxyEnd Sockets) : Type 0 where
  pub core : BeginsToServe servable begun settings end.core.value
  pub agrees : Agrees [] (proxy_of history_of end)
  pub servers : HasServers servable (texts_of end.sockets.links.all.items)
  pub looked : AreLookedUp 0 (texts_of end.sockets.links.all.items) (history_of end.sockets.wire)

-- where the gate accepted what is served, each log that may have led to the first core goes on by just these calls, and is fresh then, if servers began as is said of its configuration
abbrev pub GoFreshly : Servable → Beginnings → List Step → ServedCore → ServedCore → Type 0
GoFreshly (servables.Accepted accepted) begun steps first last = (configuration : Configuration) × IsLast accepted configuration × LogsGoFreshly configuration begun steps first last
GoFreshly (servables.Unchecked configuration) begun steps first last = Unit {0}

-- where the gate accepted what is served, each such log is fresh also however late servers apply what had failed, if they began as is said of its configuration, and each applies what came over a connection in its order, and nothing of it after that was closed
abbrev pub GoFreshlyLate : Servable → Beginnings → List Step → ServedCore → ServedCore → Type 0
GoFreshlyLate (servables.Accepted accepted) begun steps first last =
    (configuration : Configuration) × IsLast accepted configuration × ((opening : ℕ → List ℕ → Option Item) → BeginSo configuration begun opening → AreFreshAlong opening steps first last)
GoFreshlyLate (servables.Unchecked configuration) begun steps first last = Unit {0}

-- an end that began so was served: turns and loads alone led to what it is, by them calls were late by the limits of the text in use, which was this one at first, the ends of its clients and its links agree with them, each log goes on by them freshly, and what is counted is what they are
pub record HasServed (servable : Servable) (text : List ℕ) (begun : Beginnings) (settings : Settings) (end : ProxyEnd Sockets) : Type 0 where
  pub first : ProxyEnd Sockets
  pub begins : BeginsServing servable begun settings first
  pub serves : GoesOnServing history_of first end
  pub limits : (last : List ℕ) × UseTexts (usual_limits settings) (texts_of end.sockets.links.all.items) text last serves.steps
  pub agrees : Agrees serves.steps (proxy_of history_of end)
  pub fresh : GoFreshly servable begun serves.steps first.core.value end.core.value
  pub late : GoFreshlyLate servable begun serves.steps first.core.value end.core.value
  pub counts : AreCounted serves.steps end.core.value.tally
  pub results : ResultsAreCounted serves.steps end.core.value.tally
  pub by_server : AreCountedByServer serves.steps end.core.value.tally

-- where the gate accepted what is served, the core is one on its configuration and others that it accepted after it, and each log that may have led to it is fresh, if servers began so, also where they apply calls that had failed late, but in the order of their connections
abbrev pub StaysFresh : Servable → Beginnings → ServedCore → Type 0
StaysFresh (servables.Accepted accepted) begun core =
    (configuration : Configuration) × IsLast accepted configuration × IsAcceptedSince configuration begun core × EveryLogSinceIsFresh configuration begun core
    × EveryLateLogSinceIsFresh configuration begun core
StaysFresh (servables.Unchecked configuration) begun core = Unit {0}
