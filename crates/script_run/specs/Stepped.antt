-- What a script that steps its calls does through trees that the gate was asked for. Source: mcgate's own.
use Rattle.std.specs.Prelude.{◌≡◌, ℕ, List, [], map}
use Rattle.fresh_runs.specs.Log.{Shown}
use Rattle.fresh_runs.specs.Overlap.{run_of}
use Rattle.fresh_runs.specs.Run.{IsFreshByNumber}
use Rattle.route_tree.specs.Route.{Route}
use Rattle.script_events.specs.declared.script.Reload.{Reload}
use Rattle.script_events.specs.declared.script.Transcript.{Transcript}
use Rattle.script_events.specs.declared.script.Report.{Report}
use Rattle.script_events.specs.declared.script.DriveFault.{DriveFault}
use Rattle.script_events.specs.declared.script.DriveFault.TheVariants.{BadEvent, NoMemory, Spent}
use Rattle.script_events.specs.Scripted.{Scripted, transcript_of}
use Rattle.script_events.specs.Opening.{opening_of}
use Rattle.script_run.specs.Driving.{DrivesStepped, StepsPart, AreSpentIn}
use Rattle.script_events.specs.declared.servers.servers.ScriptServers.{ScriptServers}
use Rattle.script_run.specs.declared.accepted.judging.Loading.{Loading}
use Rattle.script_run.specs.Reloads.{loading_is_refused}

-- the script ran, its run is fresh over all loaded trees, and none of its replies is stale
pub record StepsFreshly (first : Route) (loadings : List Loading) (reloads : List Reload) (events : List Scripted) (given : List Shown) (marks : List ℕ) (report : Report) : Type 0 where
  pub drives : DrivesStepped first (map loading_is_refused loadings) reloads events given marks report
  pub fresh : IsFreshByNumber (opening_of events) (run_of drives.log)
  pub none_stale : report.stale ≡ 0

-- a part of the script ran, and the run of all that was done is fresh
pub record StepsPartFreshly (first : Route) (loadings : List Loading) (reloads : List Reload) (events : List Scripted) (given : List Shown) (marks : List ℕ) (servers : ScriptServers) : Type 0 where
  pub part : StepsPart first (map loading_is_refused loadings) reloads events given marks servers
  pub fresh : IsFreshByNumber (opening_of events) (run_of part.log)

-- what a fault leaves: where an event can't be nothing was handed out, and the servers are as they were
abbrev pub EndsSteps : Route → List Loading → List Reload → List Scripted → Transcript → List ℕ → ScriptServers → ScriptServers → DriveFault → Type 0
EndsSteps first loadings reloads events transcript marks old new (BadEvent index) = (transcript.shown.items ≡ []) × (marks ≡ []) × (new ≡ old)
EndsSteps first loadings reloads events transcript marks old new NoMemory = StepsPartFreshly first loadings reloads events (transcript_of transcript) marks new
EndsSteps first loadings reloads events transcript marks old new Spent = (done : StepsPartFreshly first loadings reloads events (transcript_of transcript) marks new) × AreSpentIn done.part.log
