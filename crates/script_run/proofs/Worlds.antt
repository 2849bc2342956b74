-- The world of a log goes on by events and by results, and which results an event brings.
use Rattle.std.proofs.Common.{◌≡◌, ℕ, List, [], ◌∷◌, ◌++◌, map, Option, refl, sym, ap, ◌∙◌, subst, append_assoc}
use Rattle.mc_types.specs.Items.{Item}
use Rattle.fresh_runs.specs.Run.{Event, held}
use Rattle.fresh_runs.specs.Overlap.{Entry, Ticket, run_of, out_of}
use Rattle.route_tree.specs.Route.{Route}
use Rattle.core_proxy.specs.CoreState.{dialect}
use Rattle.script_events.specs.Caches.{cache_held}
use Rattle.script_events.specs.Opening.{opening_of}
use Rattle.script_events.specs.Servers.{caches_of}
use Rattle.script_events.specs.Scripted.{Scripted, Piece, Add, Result, Fail, Hold, At, Now, Moment}
use Rattle.script_events.specs.declared.servers.servers.ScriptServers.{ScriptServers}
use Rattle.script_run.specs.Results.{CallResult, AreOfFirst, ResultsAreTold, call_of_result, calls_of}
use Rattle.script_run.specs.Standing.{LogStands, story_of, HasSameStory}
use Rattle.script_run.specs.Running.{kept_of, AreOfOne}
use Rattle.script_run.specs.declared.driver.runner.Runner.{Runner}
use Rattle.script_run.specs.Driving.{HasNoResult, FirstHasResult, BringsResults, BringsSome}
use Rattle.script_run.specs.World.{Deed, Takes, Ends, Gives, EventChanges, lost_now, LeadTo, AreMany, ResultIsAwaited, DeedsAreInTurn, World, script_of_deeds}
use Rattle.script_run.proofs.DriverRunning.{in_turn_on}
use Rattle.script_run.specs.Stepping.{HasStory, HasStoryBy, AreFit, AreAskedBy, TakesTurns}
use Rattle.script_run.proofs.Told.{HasCalls}

-- results after deeds, the latest first
abbrev then_given : List CallResult → List Deed → List Deed
then_given [] deeds = deeds
then_given (r ∷ rs) deeds = Gives r ∷ then_given rs deeds

script_same : (rs : List CallResult) (deeds : List Deed) → script_of_deeds (then_given rs deeds) ≡ script_of_deeds deeds
script_same [] deeds = refl
script_same (r ∷ rs) deeds = script_same rs deeds

led_on : (events : List Scripted) (rs : List CallResult) (deeds : List Deed) (earlier story : List Event) (old new : ScriptServers) → LeadTo events deeds earlier old → ResultsAreTold rs old new earlier story → LeadTo events (then_given rs deeds) story new
led_on events [] deeds earlier story old new lead told = subst (λ (l : List Event). LeadTo events deeds l new) (sym told.1) (subst (LeadTo events deeds earlier) (sym told.0) lead)
led_on events (r ∷ rs) deeds earlier story old new lead told = (told.0, told.1, led_on events rs deeds earlier told.1 old told.0 lead told.2, told.3, told.4, told.5)

-- what servers hold
abbrev pub AreHeld : List Scripted → List (Entry dialect) → ScriptServers → Type 0
AreHeld events log servers = (s : ℕ) (key : List ℕ) → held (opening_of events) (run_of log) s key ≡ cache_held (caches_of servers) s key

-- servers hold what the run of a log that stands leaves on them
pub held_so : (events : List Scripted) (tree : ℕ → Route) (log : List (Entry dialect)) (a : Runner) (servers : ScriptServers) → LogStands (opening_of events) tree log (kept_of a servers) → AreHeld events log servers
held_so events tree log a servers stands s key = sym (stands.leads.holds s key) ∙ stands.holds s key

-- after deeds of this kind come as many results as there are
record AreOpen (deeds : List Deed) : Type 0 where
  pub many : AreMany deeds
  pub awaited : (r : CallResult) → ResultIsAwaited r deeds

still_many : (rs : List CallResult) (deeds : List Deed) → AreMany deeds → AreMany (then_given rs deeds)
still_many [] deeds h = h
still_many (r ∷ rs) deeds h = still_many rs deeds h

awaited_then : (r : CallResult) (rs : List CallResult) (deeds : List Deed) → AreOpen deeds → ResultIsAwaited r (then_given rs deeds)
awaited_then r [] deeds h = h.awaited r
awaited_then r (s ∷ rs) deeds h = still_many rs deeds h.many

turns_on : (rs : List CallResult) (deeds : List Deed) → AreOpen deeds → DeedsAreInTurn deeds → DeedsAreInTurn (then_given rs deeds)
turns_on [] deeds h turns = turns
turns_on (r ∷ rs) deeds h turns = (awaited_then r rs deeds h, turns_on rs deeds h turns)

-- the results that an event asks for
turns_fit : (event : Scripted) (rs : List CallResult) (deeds : List Deed) → AreFit event rs → DeedsAreInTurn deeds → DeedsAreInTurn (then_given rs (Takes event ∷ deeds))
turns_fit (Piece client bytes) rs deeds fit turns = turns_on rs (Takes (Piece client bytes) ∷ deeds) (record { many = tt; awaited = λ r. tt }) turns
turns_fit (Result server) rs deeds fit turns = by rs fit
  where
    by : (rs : List CallResult) → AreOfOne server rs → DeedsAreInTurn (then_given rs (Takes (Result server) ∷ deeds))
    by [] one = turns
    by (r ∷ []) one = (one, turns)
    by (r ∷ s ∷ more) one = absurd one
turns_fit (Add client bytes) rs deeds fit turns = subst (λ (l : List CallResult). DeedsAreInTurn (then_given l (Takes (Add client bytes) ∷ deeds))) (sym fit) turns
turns_fit (Fail turn manner) rs deeds fit turns = subst (λ (l : List CallResult). DeedsAreInTurn (then_given l (Takes (Fail turn manner) ∷ deeds))) (sym fit) turns
turns_fit (Hold server key content) rs deeds fit turns = subst (λ (l : List CallResult). DeedsAreInTurn (then_given l (Takes (Hold server key content) ∷ deeds))) (sym fit) turns
turns_fit (At turn loss) rs deeds fit turns = subst (λ (l : List CallResult). DeedsAreInTurn (then_given l (Takes (At turn loss) ∷ deeds))) (sym fit) turns
turns_fit (Now loss) rs deeds fit turns = subst (λ (l : List CallResult). DeedsAreInTurn (then_given l (Takes (Now loss) ∷ deeds))) (sym fit) turns
turns_fit (Moment moment) rs deeds fit turns = subst (λ (l : List CallResult). DeedsAreInTurn (then_given l (Takes (Moment moment) ∷ deeds))) (sym fit) turns

module _ (events done : List Scripted) (log more : List (Entry dialect)) where
  -- the next event, and its results
  pub world_next :
      (event : Scripted) (rs : List CallResult) (old mid new : ScriptServers) → World events done log old → EventChanges event old mid → AreFit event rs → HasStoryBy event rs mid new more log → AreHeld events (more ++ log) new
      → World events (done ++ event ∷ []) (more ++ log) new
  world_next event rs old mid new w changes fit told held =
      record {
        deeds = then_given rs (Takes event ∷ w.deeds);
        script_is = script_same rs (Takes event ∷ w.deeds) ∙ ap (λ (l : List Scripted). l ++ event ∷ []) w.script_is;
        lead = led_on events rs (Takes event ∷ w.deeds) (lost_now event ++ story_of (run_of log)) (story_of (run_of (more ++ log))) mid new (old, story_of (run_of log), w.lead, changes, refl) told;
        in_turn = turns_fit event rs w.deeds fit w.in_turn;
        holds = held;
      }

  -- the script's end, and the results of what is still out
  pub world_ended : (rs : List CallResult) (old new : ScriptServers) → World events done log old → HasStory rs old new more log → AreHeld events (more ++ log) new → World events done (more ++ log) new
  world_ended rs old new w told held =
      record {
        deeds = then_given rs (Ends ∷ w.deeds);
        script_is = script_same rs (Ends ∷ w.deeds) ∙ w.script_is;
        lead = led_on events rs (Ends ∷ w.deeds) (story_of (run_of log)) (story_of (run_of (more ++ log))) old new w.lead told;
        in_turn = turns_on rs (Ends ∷ w.deeds) (record { many = tt; awaited = λ r. tt }) w.in_turn;
        holds = held;
      }

  -- the world stays where nothing befell the servers
  pub world_stays : (servers : ScriptServers) → World events done log servers → HasSameStory log (more ++ log) → AreHeld events (more ++ log) servers → World events done (more ++ log) servers
  world_stays servers w same held =
      record { deeds = w.deeds; script_is = w.script_is; lead = subst (λ (l : List Event). LeadTo events w.deeds l servers) (sym same) w.lead; in_turn = w.in_turn; holds = held }

-- ---- which results an event brings

-- no result came
pub none_had : (rs : List CallResult) (more log : List (Entry dialect)) → rs ≡ [] → HasCalls rs more log → HasNoResult log (more ++ log)
none_had rs more log none has = has ∙ ap (λ (l : List CallResult). map call_of_result l ++ calls_of (run_of log)) none

-- the result of the first call came
first_had : (server : ℕ) (calls : List Ticket) (rs : List CallResult) (more log : List (Entry dialect)) → AreOfFirst server calls rs → HasCalls rs more log → FirstHasResult server calls log (more ++ log)
first_had server [] rs more log of has = none_had rs more log of has
first_had server (call ∷ calls) rs more log of has =
    let r = of.0 in
    let outcome = r.made.outcome in
    let past = calls_of (run_of log) in (
      outcome,
      has ∙ ap (λ (l : List CallResult). map call_of_result l ++ past) of.1
          ∙ ap (λ (s : ℕ). record { number = r.number; call = record { server = s; ask = r.ask; origin = r.origin; outcome = outcome } } ∷ past) of.2.server_is
          ∙ ap (λ (t : Ticket). record { number = t.number; call = record { server = server; ask = t.ask; origin = t.origin; outcome = outcome } } ∷ past) of.2.call_is,
    )

-- the results that an event asks for come, those of a piece in whichever turn
pub brought_some :
    (event : Scripted) (rs : List CallResult) (a : Runner) (s : ScriptServers) (opening : ℕ → List ℕ → Option Item) (tree : ℕ → Route) (more log : List (Entry dialect)) → LogStands opening tree log (kept_of a s)
    → AreFit event rs → AreAskedBy event a s rs → HasCalls rs more log → BringsSome event log (more ++ log)
brought_some (Piece client bytes) rs a s opening tree more log stands fit asked has = tt
brought_some (Add client bytes) rs a s opening tree more log stands fit asked has = none_had rs more log fit has
brought_some (Result server) rs a s opening tree more log stands fit asked has = first_had server (out_of log server) rs more log (asked.first opening tree log stands) has
brought_some (Fail turn manner) rs a s opening tree more log stands fit asked has = none_had rs more log fit has
brought_some (Hold server key content) rs a s opening tree more log stands fit asked has = none_had rs more log fit has
brought_some (At turn loss) rs a s opening tree more log stands fit asked has = none_had rs more log fit has
brought_some (Now loss) rs a s opening tree more log stands fit asked has = none_had rs more log fit has
brought_some (Moment moment) rs a s opening tree more log stands fit asked has = none_had rs more log fit has

-- the results that an event asks for come, in their turn
pub brought :
    (event : Scripted) (rs : List CallResult) (a : Runner) (s : ScriptServers) (opening : ℕ → List ℕ → Option Item) (tree : ℕ → Route) (more log : List (Entry dialect)) → LogStands opening tree log (kept_of a s)
    → AreFit event rs → AreAskedBy event a s rs → HasCalls rs more log → TakesTurns event rs more log → BringsResults event log (more ++ log)
brought (Piece client bytes) rs a s opening tree more log stands fit asked has turns = record { results = rs; more = more; goes = refl; calls = has; in_turn = turns }
brought (Add client bytes) rs a s opening tree more log stands fit asked has turns = brought_some (Add client bytes) rs a s opening tree more log stands fit asked has
brought (Result server) rs a s opening tree more log stands fit asked has turns = brought_some (Result server) rs a s opening tree more log stands fit asked has
brought (Fail turn manner) rs a s opening tree more log stands fit asked has turns = brought_some (Fail turn manner) rs a s opening tree more log stands fit asked has
brought (Hold server key content) rs a s opening tree more log stands fit asked has turns = brought_some (Hold server key content) rs a s opening tree more log stands fit asked has
brought (At turn loss) rs a s opening tree more log stands fit asked has turns = brought_some (At turn loss) rs a s opening tree more log stands fit asked has
brought (Now loss) rs a s opening tree more log stands fit asked has turns = brought_some (Now loss) rs a s opening tree more log stands fit asked has
brought (Moment moment) rs a s opening tree more log stands fit asked has turns = brought_some (Moment moment) rs a s opening tree more log stands fit asked has

-- where an event brings its results in their turn, it brings them where no turn is said
pub some_brought : (event : Scripted) (before after : List (Entry dialect)) → BringsResults event before after → BringsSome event before after
some_brought (Piece client bytes) before after h = tt
some_brought (Add client bytes) before after h = h
some_brought (Result server) before after h = h
some_brought (Fail turn manner) before after h = h
some_brought (Hold server key content) before after h = h
some_brought (At turn loss) before after h = h
some_brought (Now loss) before after h = h
some_brought (Moment moment) before after h = h

-- what an event brought it brought still where no call has its result later
first_still : (server : ℕ) (calls : List Ticket) (log mid after : List (Entry dialect)) → HasNoResult mid after → FirstHasResult server calls log mid → FirstHasResult server calls log after
first_still server [] log mid after none h = none ∙ h
first_still server (call ∷ calls) log mid after none h = (h.0, none ∙ h.1)

pub brought_still : (event : Scripted) (log mid newer : List (Entry dialect)) → HasNoResult mid (newer ++ mid) → BringsResults event log mid → BringsResults event log (newer ++ mid)
brought_still (Piece client bytes) log mid newer none h =
    record { results = h.results; more = newer ++ h.more; goes = ap (λ l. newer ++ l) h.goes ∙ sym (append_assoc newer h.more log); calls = none ∙ h.calls; in_turn = in_turn_on h.results newer h.more log h.in_turn }
brought_still (Add client bytes) log mid newer none h = none ∙ h
brought_still (Result server) log mid newer none h = first_still server (out_of log server) log mid (newer ++ mid) none h
brought_still (Fail turn manner) log mid newer none h = none ∙ h
brought_still (Hold server key content) log mid newer none h = none ∙ h
brought_still (At turn loss) log mid newer none h = none ∙ h
brought_still (Now loss) log mid newer none h = none ∙ h
brought_still (Moment moment) log mid newer none h = none ∙ h
