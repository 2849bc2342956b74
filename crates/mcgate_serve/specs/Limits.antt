-- The texts in use in a run: which servers have links by them, and by what limits calls and connections are late. Source: mcgate's own.
use Rattle.std.specs.Prelude.{◌≡◌, ℕ, List, [], ◌∷◌, ◌++◌, Some, slice_get}
use Rattle.route_json.specs.Servers.{Addresses}
use Rattle.serve_wire.specs.Events.{WireEvent}
use Rattle.serve_links.specs.declared.settings.LinkLimits.{LinkLimits}
use Rattle.serve_links.specs.declared.settings.Settings.{Settings}
use Rattle.serve_links.specs.CoreSteps.{Obstacle, WaitedLong, StoreLate, ForeignCame, LeftAlone, ManyWait, Step, Opened, NotOpened, Fed, Polled, Stopped, Settled, Gave, Closed, LeftLine, Broke, Ticked, Loaded, Linked, Asked, Greeted, Spelled, Late, CameLate, Lost, Noted}
use Rattle.serve_links.specs.Lateness.{usual_limits}
use Rattle.serve_links.specs.Story.{AnEnd, texts_of, servers_of}
use Rattle.serve_proxy.specs.declared.proxy.ProxyEnd.{ProxyEnd}
use Rattle.serve_proxy.specs.Limiting.{text_limits, AreLimited}
use Rattle.serve_proxy.specs.Ends.{AllGrow}
use Rattle.mcgate_serve.specs.Serves.{TextSaysAfter, IsServeStep, proxy_of}

-- this limit of the server of this number: its pools say so in the text, or it is usual
abbrev pub IsTextLimit : (of : LinkLimits → ℕ) (usual : LinkLimits) (names : List (List ℕ)) (text : List ℕ) (at limit : ℕ) → Type 0
IsTextLimit of usual names text at limit = (name : List ℕ) × (slice_get names at ≡ Some name) × (limit ≡ of (text_limits usual text name))

abbrev pub call_limit : LinkLimits → ℕ
call_limit limits = limits.call_ms

abbrev pub connect_limit : LinkLimits → ℕ
connect_limit limits = limits.connect_ms

abbrev pub failure_limit : LinkLimits → ℕ
failure_limit limits = limits.fail_limit

-- these are the first of the names
abbrev pub HasNames : Addresses → List (List ℕ) → Type 0
HasNames servers names = (more : List (List ℕ)) × (names ≡ servers ++ more)

-- a call that waits, or a store, has taken longer than the limit of its server by that text, or a server is left alone after as many failures as that says
abbrev pub ObstacleIsByText : (usual : LinkLimits) (names : List (List ℕ)) (text : List ℕ) (at : ℕ) → Obstacle → Type 0
ObstacleIsByText usual names text at (WaitedLong number limit) = IsTextLimit call_limit usual names text at limit
ObstacleIsByText usual names text at (StoreLate limit) = IsTextLimit call_limit usual names text at limit
ObstacleIsByText usual names text at ForeignCame = Unit {0}
ObstacleIsByText usual names text at (LeftAlone limit) = IsTextLimit failure_limit usual names text at limit
ObstacleIsByText usual names text at ManyWait = Unit {0}

-- a step, and the text in use before it and after it: a call is late, or has waited long, or a server is left alone, by the limit of its server by that text, a connection that is given up has that of its server, and a load alone brings another text, which says what is loaded: its servers are those of these names, by their numbers
abbrev pub UsesText : (usual : LinkLimits) (names : List (List ℕ)) (before after : List ℕ) → Step → Type 0
UsesText usual names before after (Late at number limit now) = (after ≡ before) × IsTextLimit call_limit usual names before at limit
UsesText usual names before after (Loaded configuration generation) = (servers : Addresses) × TextSaysAfter servers after configuration × HasNames configuration.servers names
UsesText usual names before after (Opened client) = after ≡ before
UsesText usual names before after (NotOpened fault) = after ≡ before
UsesText usual names before after (Fed client piece) = after ≡ before
UsesText usual names before after (Polled client poll) = after ≡ before
UsesText usual names before after (Stopped client fault) = after ≡ before
UsesText usual names before after (Settled number outcome) = after ≡ before
UsesText usual names before after (Gave client bytes) = after ≡ before
UsesText usual names before after (Closed client) = after ≡ before
UsesText usual names before after (LeftLine client) = after ≡ before
UsesText usual names before after (Ticked now) = after ≡ before
UsesText usual names before after (Broke client) = after ≡ before
UsesText usual names before after (Linked at dialect) = after ≡ before
UsesText usual names before after (Asked at number dialect ask since) = after ≡ before
UsesText usual names before after (Greeted at dialect bytes) = after ≡ before
UsesText usual names before after (Noted at obstacle) = (after ≡ before) × ObstacleIsByText usual names before at obstacle
UsesText usual names before after (CameLate at number ask answer bytes) = after ≡ before
UsesText usual names before after (Spelled at number ask answer bytes) = after ≡ before
UsesText usual names before after (Lost at why limit) = (after ≡ before) × IsTextLimit connect_limit usual names before at limit

-- each of these steps, the latest first, goes by the text in use before it and tells the one after it: a first text was in use before them all, and a last one is after them
abbrev pub UseTexts : (usual : LinkLimits) (names : List (List ℕ)) (first last : List ℕ) → List Step → Type 0
UseTexts usual names first last [] = last ≡ first
UseTexts usual names first last (step ∷ steps) = (before : List ℕ) × UsesText usual names before last step × UseTexts usual names first before steps

-- each link has the limits that this text says of its server, and the settings' where it says none
abbrev pub IsLimitedBy : Settings → List ℕ → AnEnd → Type 0
IsLimitedBy settings text end = AreLimited (text_limits (usual_limits settings) text) (servers_of end.links)

-- turns and loads; where links had the limits of some text, calls and connections were late by those of the text in use, and links have those of the last one
pub record KeepsToTexts (settings : Settings) (old new : AnEnd) : Type 0 where
  pub serves : AllGrow IsServeStep old new
  pub limits : (text : List ℕ) → IsLimitedBy settings text old → (last : List ℕ) × UseTexts (usual_limits settings) (texts_of new.links) text last serves.steps × IsLimitedBy settings last new

abbrev pub ServesByTexts : {W : Type 0} → (W → List WireEvent) → Settings → ProxyEnd W → ProxyEnd W → Type 0
ServesByTexts history settings old new = KeepsToTexts settings (proxy_of history old) (proxy_of history new)

-- turns and loads, by which calls and connections were late by the limits of the text in use: this one at first
pub record GoesOnFrom (settings : Settings) (text : List ℕ) (old new : AnEnd) : Type 0 where
  pub serves : AllGrow IsServeStep old new
  pub limits : (last : List ℕ) × UseTexts (usual_limits settings) (texts_of new.links) text last serves.steps

abbrev pub ServesFrom : {W : Type 0} → (W → List WireEvent) → Settings → List ℕ → ProxyEnd W → ProxyEnd W → Type 0
ServesFrom history settings text old new = GoesOnFrom settings text (proxy_of history old) (proxy_of history new)
