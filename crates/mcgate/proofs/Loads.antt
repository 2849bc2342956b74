-- How an end begins, and what its core stays.
use Rattle.std.proofs.Common.{◌≡◌, ℕ, Bool, List, [], Result, Ok, Err, refl, sym, subst, append-nil, Option}
use Rattle.std.specs.Prelude.{IfOk}
use Rattle.route_json.specs.Servers.{Addresses}
use Rattle.route_json.specs.Configuration.{Configuration}
use Rattle.route_tree.specs.Route.{Route}
use Rattle.core_commands.specs.declared.sharing.Sharing.{Sharing}
use Rattle.core_accepted.specs.declared.served.ServedCore.{ServedCore}
use Rattle.serve_links.specs.declared.settings.Settings.{Settings}
use Rattle.serve_wire.specs.Events.{WireEvent}
use Rattle.serve_wire.specs.declared.sockets.sockets.Sockets.{Sockets}
use Rattle.serve_links.specs.CoreSteps.{Step, Walks}
use Rattle.serve_links.specs.Story.{Agrees, texts_of}
use Rattle.serve_links.specs.Called.{TellsCallsOut}
use Rattle.serve_links.specs.Talks.{IsOrderly}
use Rattle.core_accepted.specs.Tallies.{nothing_done, MakesPlaces}
use Rattle.serve_links.specs.Counts.{AreCounted, ResultsAreCounted}
use Rattle.serve_links.specs.ByServer.{AreCountedByServer}
use Rattle.serve_links.proofs.Counts.{steps_are_counted}
use Rattle.serve_links.proofs.ByServer.{steps_are_counted_by_server}
use Rattle.serve_links.proofs.LateWalks.{walks_are_fresh_late}
use Rattle.serve_links.proofs.Walked.{walks_keep_since}
use Rattle.serve_proxy.specs.declared.proxy.ProxyEnd.{ProxyEnd}
use Rattle.serve_proxy.specs.Ends.{HasNoConns}
use Rattle.serve_proxy.proofs.LogWalks.{walks_are_fresh}
use Rattle.core_accepted.specs.declared.beginnings.Beginnings.{Beginnings}
use Rattle.core_accepted.specs.Logs.{TreesAreSound}
use Rattle.core_accepted.proofs.Keeping.{since_are_fresh}
use Rattle.core_accepted.proofs.LateCores.{late_since}
use Rattle.serve_proxy.specs.LogsGoOn.{LogsAreFresh}
use Rattle.mcgate.specs.declared.serve.Servable.{Servable}
use Rattle.mcgate.specs.declared.serve.Servable.TheVariants as servables
use Rattle.mcgate.specs.Sharing.{sharing_for}
use Rattle.mcgate_serve.specs.declared.serving.Serving.{Serving}
use Rattle.mcgate_serve.specs.Serves.{proxy_of}
use Rattle.mcgate_serve.specs.Limits.{ServesFrom}
use Rattle.mcgate_serve.specs.LooksUp.{AreLookedUp}
use Rattle.mcgate.specs.Served.{history_of, HasTree, IsUsedFirst, HasServers, BeginsBy, BeginsToServe, BeginsServing, GoFreshly, GoFreshlyLate, HasServed, StaysFresh}

-- an end that began by these settings but for its sharing, which is that of its tree
pub begins_on :
    {T E : Type 0} (core : T → ServedCore) (servable known : Servable) (begun : Beginnings) (settings : Settings) (sharing : Sharing) (tree : Route) (r : Result T E) → servable ≡ known → HasTree known tree → sharing ≡ sharing_for tree
    → IfOk r (λ end. BeginsBy known begun (record settings { sharing = sharing }) (core end)) → IfOk r (λ end. BeginsToServe servable begun settings (core end))
begins_on core servable known begun settings sharing tree (Ok end) is has sharing_is begins =
    subst (λ (x : Servable). BeginsToServe x begun settings (core end)) (sym is) (tree, has, subst (λ (s : Sharing). BeginsBy known begun (record settings { sharing = s }) (core end)) sharing_is begins)
begins_on core servable known begun settings sharing tree (Err fault) is has sharing_is begins = tt

-- nothing has happened
pub no_conns : (h : List WireEvent) → h ≡ [] → HasNoConns h
no_conns h none = subst HasNoConns (sym none) (λ conn. (refl, refl), refl)

-- its servers were copied
pub servers_on :
    {E : Type 0} (servable known : Servable) (servers : Addresses) (r : Result Addresses E) → servable ≡ known → HasServers known servers → IfOk r (λ copy. copy ≡ servers) → IfOk r (λ copy. HasServers servable copy)
servers_on servable known servers (Ok copy) is has same = subst (λ x. HasServers x copy) (sym is) (subst (λ (l : Addresses). HasServers known l) (sym same) has)
servers_on servable known servers (Err fault) is has same = tt

-- what serves is over an end that begins
pub begins_serving :
    (servable : Servable) (begun : Beginnings) (settings : Settings) (servers : Addresses) (end : ProxyEnd Sockets) (serving : Serving Sockets) → serving.end ≡ end
    → BeginsToServe servable begun settings end.core.value → Agrees [] (proxy_of history_of end) → texts_of end.sockets.links.all.items ≡ servers → AreLookedUp 0 servers (history_of end.sockets.wire) → HasServers servable servers → BeginsServing servable begun settings serving.end
begins_serving servable begun settings servers end serving is begins agrees texts looked has =
    subst (λ x. BeginsServing servable begun settings x) (sym is) (record { core = begins; agrees = agrees; servers = subst (λ (l : Addresses). HasServers servable l) (sym texts) has; looked = subst (λ (l : Addresses). AreLookedUp 0 l (history_of end.sockets.wire)) (sym texts) looked })

-- an end that agreed with nothing at first agrees with all that was done since, and where the gate accepted, each log goes on by that freshly
has_freshly : (servable : Servable) (begun : Beginnings) (settings : Settings) (steps : List Step) (a b : ServedCore) → BeginsBy servable begun settings a → Walks steps a b → LogsAreFresh b → GoFreshly servable begun steps a b
has_freshly (servables.Accepted accepted) begun settings steps a b begins walks fresh = (begins.config, begins.last, walks_are_fresh steps a b walks fresh begins.config begun ([], begins.word))
has_freshly (servables.Unchecked configuration) begun settings steps a b begins walks fresh = tt

-- where the gate accepted, logs go on freshly by these steps also where servers apply late, over the connections of these, what had failed
has_freshly_late :
    (servable : Servable) (begun : Beginnings) (settings : Settings) (steps : List Step) (a b : ServedCore) → BeginsBy servable begun settings a → Walks steps a b → TellsCallsOut [] a → IsOrderly steps → TreesAreSound b
    → GoFreshlyLate servable begun steps a b
has_freshly_late (servables.Accepted accepted) begun settings steps a b begins walks tells orderly sound =
    let fresh = late_since begins.config begun b sound (walks_keep_since steps a b walks begins.config begun ([], begins.word)) in
    (begins.config, begins.last, λ opening opens. walks_are_fresh_late steps a b tells orderly opening (fresh.1 opening opens))
has_freshly_late (servables.Unchecked configuration) begun settings steps a b begins walks tells orderly sound = tt

-- nothing was counted at first
nothing_done_by : (servable : Servable) (begun : Beginnings) (settings : Settings) (core : ServedCore) → BeginsBy servable begun settings core → MakesPlaces nothing_done core.tally
nothing_done_by (servables.Accepted accepted) begun settings core begins = begins.tally
nothing_done_by (servables.Unchecked configuration) begun settings core begins = begins.tally

has_counted : (steps : List Step) (first last : ServedCore) → MakesPlaces nothing_done first.tally → Walks steps first last → AreCounted steps last.tally
has_counted steps first last none walks = subst (λ l. AreCounted l last.tally) (append-nil steps) (steps_are_counted.goes_on steps [] first last walks (steps_are_counted.begins first.tally none))

-- the results are counted of calls that were out
has_results : (steps : List Step) (first last : ServedCore) → MakesPlaces nothing_done first.tally → Walks steps first last → TellsCallsOut [] first → IsOrderly steps → ResultsAreCounted steps last.tally
has_results steps first last none walks tells orderly =
    subst (λ l. ResultsAreCounted l last.tally) (append-nil steps)
    (steps_are_counted.results_go_on steps [] first last walks tells (subst IsOrderly (sym (append-nil steps)) orderly) (steps_are_counted.results_begin first.tally none))

-- the calls of each server are counted
has_counted_by_server :
    (steps : List Step) (first last : ServedCore) → MakesPlaces nothing_done first.tally → Walks steps first last → TellsCallsOut [] first → IsOrderly steps → AreCountedByServer steps last.tally
has_counted_by_server steps first last none walks tells orderly =
    subst (λ l. AreCountedByServer l last.tally) (append-nil steps)
    (steps_are_counted_by_server.goes_on steps [] first last walks tells (subst IsOrderly (sym (append-nil steps)) orderly) (steps_are_counted_by_server.begins first.tally none))

pub has_served :
    (servable : Servable) (text : List ℕ) (begun : Beginnings) (settings : Settings) (first last : ProxyEnd Sockets) → BeginsServing servable begun settings first → ServesFrom history_of settings text first last → LogsAreFresh last.core.value
    → TreesAreSound last.core.value → HasServed servable text begun settings last
has_served servable text begun settings first last begins from fresh sound =
    let g = from.serves in
    let agrees : Agrees g.steps (proxy_of history_of last) = subst (λ l. Agrees l (proxy_of history_of last)) (append-nil g.steps) (g.agree [] begins.agrees) in
    let shared : Settings = record settings { sharing = sharing_for begins.core.0 } in
    record {
      first = first;
      begins = begins;
      serves = g;
      limits = from.limits;
      agrees = agrees;
      fresh = has_freshly servable begun shared g.steps first.core.value last.core.value begins.core.2 g.walks fresh;
      late = has_freshly_late servable begun shared g.steps first.core.value last.core.value begins.core.2 g.walks begins.agrees.calls agrees.orderly sound;
      counts = has_counted g.steps first.core.value last.core.value (nothing_done_by servable begun shared first.core.value begins.core.2) g.walks;
      results = has_results g.steps first.core.value last.core.value (nothing_done_by servable begun shared first.core.value begins.core.2) g.walks begins.agrees.calls agrees.orderly;
      by_server = has_counted_by_server g.steps first.core.value last.core.value (nothing_done_by servable begun shared first.core.value begins.core.2) g.walks begins.agrees.calls agrees.orderly;
    }

-- its text is that with which it began
pub served_text : {settings : Settings} {text known : List ℕ} (first last : ProxyEnd Sockets) → text ≡ known → ServesFrom history_of settings text first last → ServesFrom history_of settings known first last
served_text {settings = settings} first last same from = subst (λ t. ServesFrom history_of settings t first last) same from

by_kind :
    (servable : Servable) (begun : Beginnings) (settings : Settings) (steps : List Step) (a b : ServedCore) → BeginsBy servable begun settings a → Walks steps a b → LogsAreFresh b → TreesAreSound b → StaysFresh servable begun b
by_kind (servables.Accepted accepted) begun settings steps a b begins walks fresh sound =
    let is = walks_keep_since steps a b walks begins.config begun ([], begins.word) in
    (begins.config, begins.last, is, since_are_fresh begins.config begun b fresh is, (late_since begins.config begun b sound is).0)
by_kind (servables.Unchecked configuration) begun settings steps a b begins walks fresh sound = tt

pub stays_fresh :
    (servable : Servable) (text : List ℕ) (begun : Beginnings) (settings : Settings) (end : ProxyEnd Sockets) → HasServed servable text begun settings end → LogsAreFresh end.core.value
    → TreesAreSound end.core.value → StaysFresh servable begun end.core.value
stays_fresh servable text begun settings end served fresh sound =
    by_kind servable begun (record settings { sharing = sharing_for served.begins.core.0 }) served.serves.steps served.first.core.value end.core.value served.begins.core.2 served.serves.walks fresh sound

-- what was known of the configuration in use as the first one began
pub used_first_on :
    (fleet : Bool) (servable : Servable) (in_use : Option Configuration) (serving : Serving Sockets) → serving.in_use ≡ in_use → IsUsedFirst fleet servable in_use → IsUsedFirst fleet servable serving.in_use
used_first_on fleet servable in_use serving is first = subst (λ (x : Option Configuration). IsUsedFirst fleet servable x) (sym is) first

-- what is known of a kind of tree
pub has_tree_on : (servable known : Servable) (tree : Route) → servable ≡ known → HasTree known tree → HasTree servable tree
has_tree_on servable known tree is has = subst (λ (x : Servable). HasTree x tree) (sym is) has
