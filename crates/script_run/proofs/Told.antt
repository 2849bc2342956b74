-- The servers' story of a run, result by result; and the calls that it tells of.
use Rattle.std.proofs.Common.{◌≡◌, ℕ, ◌+◌, List, [], ◌∷◌, ◌++◌, map, refl, sym, ap, ◌∙◌, subst, append_assoc}
use Rattle.mc_types.specs.declared.call.Outcome.{Outcome}
use Rattle.fresh_runs.specs.Calls.{outcome_of}
use Rattle.fresh_runs.specs.Run.{Event, Begins, Calls, Replies, Breaks, Turns, Restarts}
use Rattle.fresh_runs.specs.Fleet.{AreLosses}
use Rattle.fresh_runs.specs.ScriptLog.{lost_by}
use Rattle.fresh_runs.specs.Overlap.{Entry, run_of}
use Rattle.core_proxy.specs.CoreState.{dialect}
use Rattle.script_events.specs.declared.servers.event.Loss.{Loss}
use Rattle.script_events.specs.declared.servers.event.Loss.TheVariants.{Item as LostItem, Restart}
use Rattle.script_events.specs.Losing.{loss_told, events_of}
use Rattle.script_events.specs.Law.{spills_of}
use Rattle.script_events.specs.Scripted.{Scripted, Piece, Add, Result, Fail, Hold, At, Now, Moment, Lose}
use Rattle.script_events.specs.Scripted as scripted
use Rattle.script_events.specs.Servers.{turn_of, lost_of}
use Rattle.script_events.specs.declared.servers.servers.ScriptServers.{ScriptServers}
use Rattle.script_run.specs.Standing.{story_of, HasSameStory}
use Rattle.script_run.specs.Results.{CallResult, NumberedCall, ResultsAreTold, ResultIsTold, call_of_result, calls_of}
use Rattle.script_run.specs.Stepping.{HasStory, HasStoryBy}
use Rattle.script_run.specs.World.{lost_now}

-- the calls of the run are those of these results, and then those of before
abbrev pub HasCalls : List CallResult → List (Entry dialect) → List (Entry dialect) → Type 0
HasCalls results more log = calls_of (run_of (more ++ log)) ≡ map call_of_result results ++ calls_of (run_of log)

-- ---- losses

one_more_loss : (es : List Event) (loss : Loss) → AreLosses es → AreLosses (es ++ lost_by (loss_told loss) ∷ [])
one_more_loss [] (LostItem server key) l = (refl, tt)
one_more_loss [] (Restart server) l = tt
one_more_loss (Turns server key turned ∷ es) loss l = (l.0, one_more_loss es loss l.1)
one_more_loss (Restarts server ∷ es) loss l = one_more_loss es loss l
one_more_loss (Begins number ask ∷ es) loss l = absurd l
one_more_loss (Calls number server ask origin end ∷ es) loss l = absurd l
one_more_loss (Replies number key reply from ∷ es) loss l = absurd l
one_more_loss (Breaks number ∷ es) loss l = absurd l

named_are_losses : (losses : List Loss) → AreLosses (events_of losses)
named_are_losses [] = tt
named_are_losses (loss ∷ more) = one_more_loss (events_of more) loss (named_are_losses more)

-- what a server drops by itself is lost
pub are_spills : (server : ℕ) (keys : List (List ℕ)) → AreLosses (spills_of server keys)
are_spills server [] = tt
are_spills server (key ∷ keys) = (refl, are_spills server keys)

-- ---- which calls a story tells of

-- losses are no calls
no_calls : (lost earlier : List Event) → AreLosses lost → calls_of (lost ++ earlier) ≡ calls_of earlier
no_calls [] earlier are = refl
no_calls (Turns server key turned ∷ es) earlier are = no_calls es earlier are.1
no_calls (Restarts server ∷ es) earlier are = no_calls es earlier are
no_calls (Begins number ask ∷ es) earlier are = absurd are
no_calls (Calls number server ask origin end ∷ es) earlier are = absurd are
no_calls (Replies number key reply from ∷ es) earlier are = absurd are
no_calls (Breaks number ∷ es) earlier are = absurd are

-- what an event loses is no call
none_now : (event : Scripted) (earlier : List Event) → calls_of (lost_now event ++ earlier) ≡ calls_of earlier
none_now (Now (Lose server key)) earlier = refl
none_now (Now (scripted.Restart server)) earlier = refl
none_now (Piece client bytes) earlier = refl
none_now (Add client bytes) earlier = refl
none_now (Result server) earlier = refl
none_now (Fail turn manner) earlier = refl
none_now (Hold server key content) earlier = refl
none_now (At turn loss) earlier = refl
none_now (Moment moment) earlier = refl

-- a story has the calls of its run
calls_told : (past : List Event) → calls_of (story_of past) ≡ calls_of past
calls_told [] = refl
calls_told (Calls number server ask origin end ∷ past) = ap (λ (cs : List NumberedCall). record { number = number; call = record { server = server; ask = ask; origin = origin; outcome = outcome_of end } } ∷ cs) (calls_told past)
calls_told (Turns server key turned ∷ past) = calls_told past
calls_told (Restarts server ∷ past) = calls_told past
calls_told (Begins number ask ∷ past) = calls_told past
calls_told (Replies number key reply from ∷ past) = calls_told past
calls_told (Breaks number ∷ past) = calls_told past

one_told : (r : CallResult) (before : ScriptServers) (earlier story : List Event) → ResultIsTold r before earlier story → calls_of story ≡ call_of_result r ∷ calls_of earlier
one_told r before earlier story t =
    ap calls_of t.story_is
    ∙ ap (λ (cs : List NumberedCall). record { number = r.number; call = record { server = r.server; ask = r.ask; origin = r.origin; outcome = outcome_of t.end } } ∷ cs)
    (no_calls (events_of (lost_of before (turn_of before + 1))) (spills_of r.server t.spilled ++ earlier) (named_are_losses (lost_of before (turn_of before + 1))) ∙ no_calls (spills_of r.server t.spilled) earlier (are_spills r.server t.spilled))
    ∙ ap (λ (o : Outcome). record { number = r.number; call = record { server = r.server; ask = r.ask; origin = r.origin; outcome = o } } ∷ calls_of earlier) (sym t.outcome_is)

all_told : (rs : List CallResult) (s t : ScriptServers) (earlier story : List Event) → ResultsAreTold rs s t earlier story → calls_of story ≡ map call_of_result rs ++ calls_of earlier
all_told [] s t earlier story told = ap calls_of told.1
all_told (r ∷ rs) s t earlier story told = one_told r told.0 told.1 story told.5 ∙ ap (λ (cs : List NumberedCall). call_of_result r ∷ cs) (all_told rs s told.0 earlier told.1 told.2)

-- the calls of a run are those of the results that its story tells of
pub has_calls : (rs : List CallResult) (s t : ScriptServers) (more log : List (Entry dialect)) → HasStory rs s t more log → HasCalls rs more log
has_calls rs s t more log told =
    sym (calls_told (run_of (more ++ log))) ∙ all_told rs s t (story_of (run_of log)) (story_of (run_of (more ++ log))) told ∙ ap (λ (cs : List NumberedCall). map call_of_result rs ++ cs) (calls_told (run_of log))

pub has_calls_by : (event : Scripted) (rs : List CallResult) (s t : ScriptServers) (more log : List (Entry dialect)) → HasStoryBy event rs s t more log → HasCalls rs more log
has_calls_by event rs s t more log told =
    sym (calls_told (run_of (more ++ log))) ∙ all_told rs s t (lost_now event ++ story_of (run_of log)) (story_of (run_of (more ++ log))) told
    ∙ ap (λ (cs : List NumberedCall). map call_of_result rs ++ cs) (none_now event (story_of (run_of log)) ∙ calls_told (run_of log))

-- where nothing befell the servers no call had its result
pub no_result : (log after : List (Entry dialect)) → HasSameStory log after → calls_of (run_of after) ≡ calls_of (run_of log)
no_result log after same = sym (calls_told (run_of after)) ∙ ap calls_of same ∙ calls_told (run_of log)

-- ---- one result after another

-- results after others
pub told_then : (later first : List CallResult) (s t u : ScriptServers) (earlier between story : List Event) → ResultsAreTold first s t earlier between → ResultsAreTold later t u between story → ResultsAreTold (later ++ first) s u earlier story
told_then [] first s t u earlier between story g h = subst (λ (x : ScriptServers). ResultsAreTold first s x earlier story) (sym h.0) (subst (λ (l : List Event). ResultsAreTold first s t earlier l) (sym h.1) g)
told_then (r ∷ later) first s t u earlier between story g h = (h.0, h.1, told_then later first s t h.0 earlier between h.1 g h.2, h.3, h.4, h.5)

-- nothing befell the servers
pub none_told : (s : ScriptServers) (more log : List (Entry dialect)) → HasSameStory log (more ++ log) → HasStory [] s s more log
none_told s more log same = (refl, same)

-- the story goes on with the log
pub story_then : (later first : List CallResult) (s t u : ScriptServers) (more front log : List (Entry dialect)) → HasStory first s t front log → HasStory later t u more (front ++ log) → HasStory (later ++ first) s u (more ++ front) log
story_then later first s t u more front log g h =
    subst (λ (l : List (Entry dialect)). ResultsAreTold (later ++ first) s u (story_of (run_of log)) (story_of (run_of l))) (sym (append_assoc more front log))
    (told_then later first s t u (story_of (run_of log)) (story_of (run_of (front ++ log))) (story_of (run_of (more ++ (front ++ log)))) g h)

-- nothing befell the servers, one after another
pub same_then : (more front log : List (Entry dialect)) → HasSameStory log (front ++ log) → HasSameStory (front ++ log) (more ++ (front ++ log)) → HasSameStory log ((more ++ front) ++ log)
same_then more front log g h = ap (λ (l : List (Entry dialect)). story_of (run_of l)) (append_assoc more front log) ∙ h ∙ g

-- nothing befell the servers before these results
pub story_after : (rs : List CallResult) (s t : ScriptServers) (more front log : List (Entry dialect)) → HasSameStory log (front ++ log) → HasStory rs s t more (front ++ log) → HasStory rs s t (more ++ front) log
story_after rs s t more front log same h =
    subst (λ (l : List (Entry dialect)). ResultsAreTold rs s t (story_of (run_of log)) (story_of (run_of l))) (sym (append_assoc more front log))
    (subst (λ (l : List Event). ResultsAreTold rs s t l (story_of (run_of (more ++ (front ++ log))))) same h)

-- nor after them
pub story_before : (rs : List CallResult) (s t : ScriptServers) (more front log : List (Entry dialect)) → HasStory rs s t front log → HasSameStory (front ++ log) (more ++ (front ++ log)) → HasStory rs s t (more ++ front) log
story_before rs s t more front log h same =
    subst (λ (l : List (Entry dialect)). ResultsAreTold rs s t (story_of (run_of log)) (story_of (run_of l))) (sym (append_assoc more front log))
    (subst (λ (l : List Event). ResultsAreTold rs s t (story_of (run_of log)) l) (sym same) h)
