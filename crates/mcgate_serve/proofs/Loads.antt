-- A turn and a load as what may be done to an end.
use Rattle.std.proofs.Common.{◌≡◌, ℕ, zero, suc, Bool, true, false, List, [], ◌∷◌, ◌++◌, Result, Ok, Err, refl, sym, ap, subst, Option, Some, None, ◌∙◌, ⊎_elim, inl, inr, ◌⊎◌, append-nil, append_assoc}
use Rattle.std.specs.Prelude.{IfOk, IsTrue, slice_get, map as each}
use Rattle.std.specs.Option.{option_map}
use Rattle.serde_json.specs.Data.{Data}
use Rattle.serde_json.specs.Read.{read}
use Rattle.route_json.specs.Servers.{Addresses}
use Rattle.route_json.specs.Configuration.{Configuration}
use Rattle.core_accepted.specs.declared.served.ServedCore.{ServedCore}
use Rattle.serve_wire.specs.Events.{WireEvent}
use Rattle.serve_links.specs.declared.link.Link.{Link}
use Rattle.serve_links.specs.declared.settings.LinkLimits.{LinkLimits}
use Rattle.serve_links.specs.declared.settings.Settings.{Settings}
use Rattle.serve_links.specs.CoreSteps.{Obstacle, WaitedLong, StoreLate, ForeignCame, LeftAlone, ManyWait, Step, Opened, NotOpened, Fed, Polled, Stopped, Settled, Gave, Closed, LeftLine, Broke, Ticked, Loaded, Linked, Asked, Greeted, Spelled, Late, CameLate, Lost, Noted, StepsAreOf, IsOfTurn}
use Rattle.serve_links.specs.Lateness.{usual_limits}
use Rattle.serve_links.specs.Story.{AnEnd, AllGo, ObstacleIsByLimit, IsByLimit, most_of, texts_of, servers_of}
use Rattle.serve_proxy.specs.declared.proxy.ProxyEnd.{ProxyEnd}
use Rattle.serve_proxy.specs.declared.sockets.Sockets.{Sockets}
use Rattle.serve_proxy.specs.Ends.{Stay, StayButLimits, end_of, AllGoOn, AllGrow, IsLoadOf, LinksLoad, AllLoad}
use Rattle.serve_proxy.specs.Limiting.{value_limits, limits_by_text, text_limits, AreLimited}
use Rattle.serve_proxy.proofs.Going.{still, and_then, stays, same_core as calls_still}
use Rattle.serve_proxy.proofs.Growing.{grows, then_grows, limited_grows, of_none, load_none}
use Rattle.serve_proxy.proofs.Staying.{stay_still}
use Rattle.core_accepted.specs.Loading.{IsLoaded}
use Rattle.mcgate_notes.specs.declared.remembering.Kept.{Kept}
use Rattle.mcgate_serve.specs.Remembers.{StandsIfLoaded}
use Rattle.mcgate_notes.specs.Remembers.{StandsIn}
use Rattle.mcgate_serve.specs.InFleet.{StandsBeside, in_use_after}
use Rattle.mcgate_serve.specs.Serves.{TextSaysAfter, MayLoad, MayLoadBeside, MayLoadText, LoadsOne, LoadsText, IsServeStep, proxy_of}
use Rattle.mcgate_serve.specs.Limits.{IsTextLimit, call_limit, connect_limit, failure_limit, ObstacleIsByText, UsesText, UseTexts, KeepsToTexts, GoesOnFrom}

false_true : false ≡ true → ⊥
false_true e = cc

of_turn : (step : Step) → IsOfTurn step → IsServeStep step
of_turn (Loaded configuration generation) is = absurd is
of_turn (Opened client) is = tt
of_turn (NotOpened fault) is = tt
of_turn (Fed client piece) is = tt
of_turn (Polled client poll) is = tt
of_turn (Stopped client fault) is = tt
of_turn (Settled number outcome) is = tt
of_turn (Gave client bytes) is = tt
of_turn (Closed client) is = tt
of_turn (LeftLine client) is = tt
of_turn (Ticked now) is = tt
of_turn (Broke client) is = tt
of_turn (Linked at dialect) is = tt
of_turn (Asked at number dialect ask since) is = tt
of_turn (Greeted at dialect bytes) is = tt
of_turn (Noted at obstacle) is = tt
of_turn (Late at number limit now) is = tt
of_turn (CameLate at number ask answer bytes) is = tt
of_turn (Spelled at number ask answer bytes) is = tt
of_turn (Lost at why limit) is = is

each_of_turn : (steps : List Step) → StepsAreOf IsOfTurn steps → StepsAreOf IsServeStep steps
each_of_turn [] kinds = tt
each_of_turn (step ∷ steps) kinds = (of_turn step kinds.0, each_of_turn steps kinds.1)

-- ---- the texts in use

none_some : {A : Type 0} {x : A} → None ≡ Some x → ⊥
none_some e = cc

same_some : {A : Type 0} {x y : A} → Some x ≡ Some y → x ≡ y
same_some e = cc

-- names stay where others come behind them
get_more : (xs ys : List (List ℕ)) (at : ℕ) (x : List ℕ) → slice_get xs at ≡ Some x → slice_get (xs ++ ys) at ≡ Some x
get_more [] ys at x is = absurd (none_some is)
get_more (y ∷ xs) ys zero x is = is
get_more (y ∷ xs) ys (suc at) x is = get_more xs ys at x is

obstacle_more : (usual : LinkLimits) (names more : List (List ℕ)) (text : List ℕ) (at : ℕ) (obstacle : Obstacle) → ObstacleIsByText usual names text at obstacle → ObstacleIsByText usual (names ++ more) text at obstacle
obstacle_more usual names more text at (WaitedLong number limit) u = (u.0, get_more names more at u.0 u.1, u.2)
obstacle_more usual names more text at (StoreLate limit) u = (u.0, get_more names more at u.0 u.1, u.2)
obstacle_more usual names more text at ForeignCame u = tt
obstacle_more usual names more text at (LeftAlone limit) u = (u.0, get_more names more at u.0 u.1, u.2)
obstacle_more usual names more text at ManyWait u = tt

uses_more : (usual : LinkLimits) (names more : List (List ℕ)) (before after : List ℕ) (step : Step) → UsesText usual names before after step → UsesText usual (names ++ more) before after step
uses_more usual names more before after (Late at number limit now) u = (u.0, (u.1.0, get_more names more at u.1.0 u.1.1, u.1.2))
uses_more usual names more before after (Loaded configuration generation) u = (u.0, u.1, (u.2.0 ++ more, ap (λ l. l ++ more) u.2.1 ∙ append_assoc configuration.servers u.2.0 more))
uses_more usual names more before after (Opened client) u = u
uses_more usual names more before after (NotOpened fault) u = u
uses_more usual names more before after (Fed client piece) u = u
uses_more usual names more before after (Polled client poll) u = u
uses_more usual names more before after (Stopped client fault) u = u
uses_more usual names more before after (Settled number outcome) u = u
uses_more usual names more before after (Gave client bytes) u = u
uses_more usual names more before after (Closed client) u = u
uses_more usual names more before after (LeftLine client) u = u
uses_more usual names more before after (Ticked now) u = u
uses_more usual names more before after (Broke client) u = u
uses_more usual names more before after (Linked at dialect) u = u
uses_more usual names more before after (Asked at number dialect ask since) u = u
uses_more usual names more before after (Greeted at dialect bytes) u = u
uses_more usual names more before after (Noted at obstacle) u = (u.0, obstacle_more usual names more before at obstacle u.1)
uses_more usual names more before after (CameLate at number ask answer bytes) u = u
uses_more usual names more before after (Spelled at number ask answer bytes) u = u
uses_more usual names more before after (Lost at why limit) u = (u.0, (u.1.0, get_more names more at u.1.0 u.1.1, u.1.2))

use_more : (usual : LinkLimits) (names more : List (List ℕ)) (first last : List ℕ) (steps : List Step) → UseTexts usual names first last steps → UseTexts usual (names ++ more) first last steps
use_more usual names more first last [] u = u
use_more usual names more first last (step ∷ steps) u = (u.0, uses_more usual names more u.0 last step u.1, use_more usual names more first u.0 steps u.2)

-- one after another
use_both : (usual : LinkLimits) (names : List (List ℕ)) (first mid last : List ℕ) (later earlier : List Step) → UseTexts usual names first mid earlier → UseTexts usual names mid last later → UseTexts usual names first last (later ++ earlier)
use_both usual names first mid last [] earlier u v = subst (λ t. UseTexts usual names first t earlier) (sym v) u
use_both usual names first mid last (step ∷ later) earlier u v = (v.0, v.1, use_both usual names first mid v.0 later earlier u v.2)

-- the text's limit of a server
has_limit :
    (of : LinkLimits → ℕ) (usual : LinkLimits) (text : List ℕ) (servers : List (List ℕ × LinkLimits)) (at limit : ℕ) → AreLimited (text_limits usual text) servers → option_map of (most_of servers at) ≡ Some limit
    → IsTextLimit of usual (each (λ (s : List ℕ × LinkLimits). s.0) servers) text at limit
has_limit of usual text [] at limit limited most = absurd (none_some most)
has_limit of usual text (server ∷ servers) zero limit limited most = (server.0, refl, sym (same_some most) ∙ ap of limited.0)
has_limit of usual text (server ∷ servers) (suc at) limit limited most = has_limit of usual text servers at limit limited.1 most

names_of : (links : List Link) → each (λ (s : List ℕ × LinkLimits). s.0) (servers_of links) ≡ texts_of links
names_of [] = refl
names_of (link ∷ links) = ap (λ l. link.text.items ∷ l) (names_of links)

abbrev MayBe : LinkLimits → List (List ℕ) → List ℕ → (ℕ → Option LinkLimits) → Type 0
MayBe usual names text most = (of : LinkLimits → ℕ) (at limit : ℕ) → option_map of (most at) ≡ Some limit → IsTextLimit of usual names text at limit

obstacle_uses : (usual : LinkLimits) (names : List (List ℕ)) (text : List ℕ) (most : ℕ → Option LinkLimits) → MayBe usual names text most → (at : ℕ) (obstacle : Obstacle) → ObstacleIsByLimit (most at) obstacle → ObstacleIsByText usual names text at obstacle
obstacle_uses usual names text most may at (WaitedLong number limit) late = may call_limit at limit late
obstacle_uses usual names text most may at (StoreLate limit) late = may call_limit at limit late
obstacle_uses usual names text most may at ForeignCame late = tt
obstacle_uses usual names text most may at (LeftAlone limit) late = may failure_limit at limit late
obstacle_uses usual names text most may at ManyWait late = tt

-- a turn leaves it in use
turn_uses : (usual : LinkLimits) (names : List (List ℕ)) (text : List ℕ) (most : ℕ → Option LinkLimits) → MayBe usual names text most → (step : Step) → IsOfTurn step → IsByLimit most step → UsesText usual names text text step
turn_uses usual names text most may (Late at number limit now) is late = (refl, may call_limit at limit late)
turn_uses usual names text most may (Loaded configuration generation) is late = absurd is
turn_uses usual names text most may (Opened client) is late = refl
turn_uses usual names text most may (NotOpened fault) is late = refl
turn_uses usual names text most may (Fed client piece) is late = refl
turn_uses usual names text most may (Polled client poll) is late = refl
turn_uses usual names text most may (Stopped client fault) is late = refl
turn_uses usual names text most may (Settled number outcome) is late = refl
turn_uses usual names text most may (Gave client bytes) is late = refl
turn_uses usual names text most may (Closed client) is late = refl
turn_uses usual names text most may (LeftLine client) is late = refl
turn_uses usual names text most may (Ticked now) is late = refl
turn_uses usual names text most may (Broke client) is late = refl
turn_uses usual names text most may (Linked at dialect) is late = refl
turn_uses usual names text most may (Asked at number dialect ask since) is late = refl
turn_uses usual names text most may (Greeted at dialect bytes) is late = refl
turn_uses usual names text most may (Noted at obstacle) is late = (refl, obstacle_uses usual names text most may at obstacle late)
turn_uses usual names text most may (CameLate at number ask answer bytes) is late = refl
turn_uses usual names text most may (Spelled at number ask answer bytes) is late = refl
turn_uses usual names text most may (Lost at why limit) is late = (refl, may connect_limit at limit late)

turn_use : (usual : LinkLimits) (names : List (List ℕ)) (text : List ℕ) (most : ℕ → Option LinkLimits) → MayBe usual names text most → (steps : List Step) → StepsAreOf IsOfTurn steps → StepsAreOf (IsByLimit most) steps → UseTexts usual names text text steps
turn_use usual names text most may [] kinds late = refl
turn_use usual names text most may (step ∷ steps) kinds late = (text, turn_uses usual names text most may step kinds.0 late.0, turn_use usual names text most may steps kinds.1 late.1)

-- ---- turns and loads

turn_may : (usual : LinkLimits) (text : List ℕ) (old new : List Link) → AreLimited (text_limits usual text) (servers_of old) → servers_of new ≡ servers_of old → MayBe usual (texts_of new) text (most_of (servers_of old))
turn_may usual text old new limited same of at limit most =
    subst (λ names. IsTextLimit of usual names text at limit) (ap (each (λ (s : List ℕ × LinkLimits). s.0)) (sym same) ∙ names_of new) (has_limit of usual text (servers_of old) at limit limited most)

-- a turn
pub turned : {settings : Settings} {a b : AnEnd} → AllGo IsOfTurn a b → KeepsToTexts settings a b
turned {settings} {a} {b} g = record {
  serves = record { steps = g.steps; kinds = each_of_turn g.steps g.kinds; walks = g.walks; agree = g.agree; texts = (grows g).texts };
  limits = λ text limited. (
    text,
    turn_use (usual_limits settings) (texts_of b.links) text (most_of (servers_of a.links)) (turn_may (usual_limits settings) text a.links b.links limited g.servers.same) g.steps g.kinds g.servers.late,
    subst (AreLimited (text_limits (usual_limits settings) text)) (sym g.servers.same) limited,
  );
}

-- one after another
pub then_by : {settings : Settings} {a b c : AnEnd} → KeepsToTexts settings a b → KeepsToTexts settings b c → KeepsToTexts settings a c
unfolding then_grows
then_by {settings} {a} {b} {c} g k = record {
  serves = then_grows g.serves k.serves;
  limits = λ text limited.
      let x = g.limits text limited in
      let y = k.limits x.0 x.2 in (
        y.0,
        use_both (usual_limits settings) (texts_of c.links) text x.0 y.0 k.serves.steps g.serves.steps
            (subst (λ names. UseTexts (usual_limits settings) names text x.0 g.serves.steps) (sym k.serves.texts.1) (use_more (usual_limits settings) (texts_of b.links) k.serves.texts.0 text x.0 g.serves.steps x.1)) y.1,
        y.2,
      );
}

-- nothing is done with the core, nor on any connection
pub stays_on : {W : Type 0} {Is : Step → Type 0} (history : W → List WireEvent) (old new : ProxyEnd W) → new.core ≡ old.core → Stay history old.sockets new.sockets → AllGo Is (proxy_of history old) (proxy_of history new)
stays_on history old new core ends = and_then (stays old.core.value ends) (calls_still (ap (λ c. c.value) core))

-- nothing is done on any connection, nor with the core
pub stood : {W : Type 0} {settings : Settings} (history : W → List WireEvent) (end : ProxyEnd W) (new : Sockets W) → Stay history end.sockets new → KeepsToTexts settings (proxy_of history end) (end_of history end.core.value new)
stood history end new ends = turned (stays end.core.value ends)

-- nothing is done at all
pub serves_still : {W : Type 0} {settings : Settings} (history : W → List WireEvent) (end : ProxyEnd W) → KeepsToTexts settings (proxy_of history end) (proxy_of history end)
serves_still history end = turned still

pub goes_still : {W : Type 0} (history : W → List WireEvent) (end : ProxyEnd W) → AllGoOn history end.core.value end.sockets end.core.value end.sockets
goes_still history end = still

-- nothing is done on any connection, nor with the core, and limits may have changed
limits_changed : {W : Type 0} (history : W → List WireEvent) (old : ProxyEnd W) (new : Sockets W) → StayButLimits history old.sockets new → AllGrow (λ step. ⊥) (proxy_of history old) (end_of history old.core.value new)
limits_changed history old new ends = limited_grows old.core.value ends

-- links have the limits of a text, and it serves from then on
pub serves_from :
    {W : Type 0} {settings : Settings} {new : AnEnd} (history : W → List WireEvent) (old : ProxyEnd W) (mid : Sockets W) → StayButLimits history old.sockets mid → (said text : List ℕ) → said ≡ text
    → AreLimited (text_limits (usual_limits settings) said) (servers_of mid.links.all.items) → KeepsToTexts settings (end_of history old.core.value mid) new → GoesOnFrom settings text (proxy_of history old) new
unfolding of_none then_grows
serves_from {settings = settings} {new = new} history old mid ends said text same limited g =
    let y = g.limits text (subst (λ t. AreLimited (text_limits (usual_limits settings) t) (servers_of mid.links.all.items)) same limited) in
    record { serves = then_grows (of_none (limits_changed history old mid ends)) g.serves; limits = (y.0, use_both (usual_limits settings) (texts_of new.links) text text y.0 g.serves.steps [] refl y.1) }

-- nothing is done, but that limits may have changed, and it serves so from this text on
pub serves_none : {W : Type 0} {settings : Settings} {text : List ℕ} (history : W → List WireEvent) (old : ProxyEnd W) (new : Sockets W) → StayButLimits history old.sockets new → GoesOnFrom settings text (proxy_of history old) (end_of history old.core.value new)
unfolding of_none
serves_none {text = text} history old new ends = record { serves = of_none (limits_changed history old new ends); limits = (text, refl) }

-- what was read is what the text says
pub limited_as :
    (settings : Settings) (usual : LinkLimits) (text : List ℕ) (value : Data) (links : List Link) → read text ≡ Some value → usual ≡ usual_limits settings → AreLimited (value_limits usual value) (servers_of links)
    → AreLimited (text_limits (usual_limits settings) text) (servers_of links)
limited_as settings usual text value links reads is limited =
    subst (λ o. AreLimited (limits_by_text (usual_limits settings) o) (servers_of links)) (sym reads) (subst (λ u. AreLimited (value_limits u value) (servers_of links)) is limited)

pub loads_by :
    {W : Type 0} {history : W → List WireEvent} {configuration : Configuration} {servers : Addresses} {core core' : ServedCore} {old new : Sockets W} (limits usual : LinkLimits) (value : Data) → limits ≡ usual
    → AllLoad history configuration servers (value_limits limits value) core old core' new → AllLoad history configuration servers (value_limits usual value) core old core' new
loads_by {history = history} {configuration = configuration} {servers = servers} {core = core} {core' = core'} {old = old} {new = new} limits usual value same g = subst (λ u. AllLoad history configuration servers (value_limits u value) core old core' new) same g

-- nothing is done, and then perhaps a configuration is loaded
pub stay_loads :
    {W : Type 0} {configuration : Configuration} {servers : Addresses} {limits : List ℕ → LinkLimits} {core core' : ServedCore} {new : Sockets W} (history : W → List WireEvent) (old mid : Sockets W) → Stay history old mid
    → AllLoad history configuration servers limits core mid core' new → AllLoad history configuration servers limits core old core' new
unfolding of_none then_grows
stay_loads {configuration = configuration} {core = core} history old mid ends g =
    let s : AllGo (λ step. ⊥) (end_of history core old) (end_of history core mid) = stays core ends in
    record {
      grows = then_grows (of_none (grows s)) g.grows;
      links = ⊎_elim (λ k. inl (append-nil g.grows.steps ∙ k.0, k.1 ∙ s.servers.same)) (λ k. inr (k.0, append-nil g.grows.steps ∙ k.1, k.2, k.3)) g.links;
    }

-- it is the same end
pub same_box : {W : Type 0} (old new : ProxyEnd W) → new ≡ old → new.core ≡ old.core
same_box {W} old new same = ap (λ (e : ProxyEnd W). e.core) same

-- nothing is done on any connection
pub stays_still : {W : Type 0} (history : W → List WireEvent) (sockets : Sockets W) → Stay history sockets sockets
stays_still history sockets = stay_still (history sockets.wire) sockets.clients sockets.links.all.items

-- the text stands in the history's file, also after a load that leaves the history as it was
pub stands_still : (a b : ServedCore) (memory after : Option Kept) (text : List ℕ) → after ≡ memory → StandsIn memory text → StandsIfLoaded a b after text
stands_still a b memory after text same stands = inr (subst (λ (m : Option Kept). StandsIn m text) (sym same) stands)

-- the text is this one
pub stands_said : (a b : ServedCore) (memory : Option Kept) (text text' : List ℕ) → text ≡ text' → StandsIfLoaded a b memory text → StandsIfLoaded a b memory text'
stands_said a b memory text text' said stands = subst (λ (x : List ℕ). StandsIfLoaded a b memory x) said stands

-- it wasn't loaded
pub stands_unused : (a b : ServedCore) (memory : Option Kept) (text : List ℕ) (used : Bool) → used ≡ false → IsTrue used ⊎ (b ≡ a) → StandsIfLoaded a b memory text
stands_unused a b memory text false none or = ⊎_elim (λ e. absurd (false_true e)) (λ e. inl e) or
stands_unused a b memory text true none or = absurd (false_true (sym none))

-- a load of what a text says
pub loaded :
    {W : Type 0} {history : W → List WireEvent} {settings : Settings} {core core' : ServedCore} {old new : Sockets W} (before servers : Addresses) (text : List ℕ) (configuration : Configuration) (value : Data) → TextSaysAfter before text configuration → servers ≡ configuration.servers → read text ≡ Some value
    → AllLoad history configuration servers (value_limits (usual_limits settings) value) core old core' new → KeepsToTexts settings (end_of history core old) (end_of history core' new)
loaded {settings = settings} {old = old} {new = new} before servers text configuration value says named reads g = record {
  serves = record { steps = g.grows.steps; kinds = kinds_of g.grows.steps g.grows.kinds; walks = g.grows.walks; agree = g.grows.agree; texts = g.grows.texts };
  limits = λ t limited. by t limited g.links;
}
  where
    kinds_of : (steps : List Step) → StepsAreOf (IsLoadOf configuration) steps → StepsAreOf IsServeStep steps
    kinds_of [] kinds = tt
    kinds_of (step ∷ steps) kinds = (subst IsServeStep (sym kinds.0.1) (before, text, says), kinds_of steps kinds.1)

    by : (t : List ℕ) → AreLimited (text_limits (usual_limits settings) t) (servers_of old.links.all.items) → LinksLoad configuration servers (value_limits (usual_limits settings) value) g.grows.steps old.links.all.items new.links.all.items
        → (last : List ℕ) × UseTexts (usual_limits settings) (texts_of new.links.all.items) t last g.grows.steps × AreLimited (text_limits (usual_limits settings) last) (servers_of new.links.all.items)
    by t limited (inl k) = (t, subst (UseTexts (usual_limits settings) (texts_of new.links.all.items) t t) (sym k.0) refl, subst (AreLimited (text_limits (usual_limits settings) t)) (sym k.1) limited)
    by t limited (inr k) = (text, subst (UseTexts (usual_limits settings) (texts_of new.links.all.items) t text) (sym k.1) (t, (before, says, ([], k.3 ∙ named ∙ sym (append-nil configuration.servers))), refl), subst (λ o. AreLimited (limits_by_text (usual_limits settings) o) (servers_of new.links.all.items)) (sym reads) k.2)

-- nothing is done
pub loads_still : (used : Option Configuration) (servers : Addresses) (text : List ℕ) (core : ServedCore) → LoadsText used used servers text core core
loads_still used servers text core = inl (refl, refl)

-- the text is this one
pub loads_as : (used in_use : Option Configuration) (servers : Addresses) (text text' : List ℕ) (a b : ServedCore) → text ≡ text' → LoadsText used in_use servers text a b → LoadsText used in_use servers text' a b
loads_as used in_use servers text text' a b said loads = subst (λ (x : List ℕ). LoadsText used in_use servers x a b) said loads

-- what a text says is loaded, or not
pub loads_said :
    (is : Bool) (used in_use : Option Configuration) (servers : Addresses) (text : List ℕ) (configuration : Configuration) (a b : ServedCore) → TextSaysAfter servers text configuration
    → LoadsOne is configuration used in_use a b → LoadsText used in_use servers text a b
loads_said true used in_use servers text configuration a b says loads = inr (configuration, says, loads.0, loads.1)
loads_said false used in_use servers text configuration a b says loads = inl loads

pub loads_text :
    {E : Type 0} (r : Result Bool E) (used in_use : Option Configuration) (servers : Addresses) (text : List ℕ) (configuration : Configuration) (a b : ServedCore) → TextSaysAfter servers text configuration
    → IfOk r (λ is. LoadsOne is configuration used in_use a b) → IfOk r (λ _. LoadsText used in_use servers text a b)
loads_text (Ok is) used in_use servers text configuration a b says loads = loads_said is used in_use servers text configuration a b says loads
loads_text (Err fault) used in_use servers text configuration a b says loads = tt

pub may_load_said :
    (used : Option Configuration) (servers : Addresses) (text : List ℕ) (configuration : Configuration) (a b : ServedCore) → TextSaysAfter servers text configuration → MayLoadBeside used configuration a b → MayLoadText used servers text a b
may_load_said used servers text configuration a b says may = ⊎_elim (λ e. inl e) (λ loads. inr (configuration, says, loads)) may

-- a load of what stands beside what was in use
pub may_load_beside : (used : Option Configuration) (configuration : Configuration) (a b : ServedCore) → StandsBeside used configuration → MayLoad configuration a b → MayLoadBeside used configuration a b
may_load_beside used configuration a b beside may = ⊎_elim (λ e. inl e) (λ loads. inr (beside, loads)) may

-- nothing is loaded
pub loads_none : (configuration : Configuration) (used : Option Configuration) (core : ServedCore) → LoadsOne false configuration used used core core
loads_none configuration used core = (refl, refl)

pub load_still : {W : Type 0} (history : W → List WireEvent) (configuration : Configuration) (servers : Addresses) (limits : List ℕ → LinkLimits) (end : ProxyEnd W) → AllLoad history configuration servers limits end.core.value end.sockets end.core.value end.sockets
load_still history configuration servers limits end = load_none end.sockets refl

-- it was loaded, and is in use
pub loads_next :
    (is : Bool) (configuration : Configuration) (used next : Option Configuration) (a b : ServedCore) → is ≡ true → StandsBeside used configuration → (IsTrue is → (generation : ℕ) × IsLoaded a configuration generation b)
    → next ≡ in_use_after used configuration → LoadsOne true configuration used next a b
loads_next is configuration used next a b is_so beside loaded same = ((beside, loaded (subst IsTrue (sym is_so) refl)), same)

-- it wasn't loaded, and what was in use is
pub loads_kept :
    (is : Bool) (configuration : Configuration) (used in_use : Option Configuration) (a b : ServedCore) → is ≡ false → IsTrue is ⊎ (b ≡ a) → in_use ≡ used → LoadsOne false configuration used in_use a b
loads_kept false configuration used in_use a b none or same = (⊎_elim (λ e. absurd (false_true e)) (λ e. e) or, same)
loads_kept true configuration used in_use a b none or same = absurd (false_true (sym none))
